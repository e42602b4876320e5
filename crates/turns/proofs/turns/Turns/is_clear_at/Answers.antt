use Rattle.std.proofs.Common.{ap, ◌∙◌}
use Rattle.turns.specs.Queues.{clear_in}
use Rattle.turns.proofs.Passing.{queue_of_key}
use Rattle.turns.proofs.turns.Turns.is_clear_at.Goals as goal

pub returns : goal.returns
returns c =
    c.lets_pass.ensures
    ∙ ap (clear_in c.args.place c.args.but c.args.mark.now.writes) (queue_of_key c.args.self.now c.args.mark.now.key c.at.result.now c.at.ensures.within c.at.ensures.value)
