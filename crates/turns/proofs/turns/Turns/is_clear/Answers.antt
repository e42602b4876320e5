use Rattle.std.proofs.Common.{rules, tests, ◌∙◌}
use Rattle.std.proofs.lemmas.Iterator.{YieldsList-from_slice}
use Rattle.std.proofs.lemmas.Iterator.Search.{all_from_yields_List}
use Rattle.turns.specs.Queues.{clear_in}
use Rattle.turns.specs.State.{marks_of, queue_at}
use Rattle.turns.specs.declared.entry.Mark.{Mark}
use Rattle.turns.proofs.Passing.{ready_all}
use Rattle.turns.proofs.turns.Turns.is_clear.Goals as goal

pub returns : goal.returns
returns c =
    let t = c.args.self.now in
    all_from_yields_List (λ (m : Mark). clear_in c.args.place c.args.but m.writes (queue_at t m.key)) _ _ _ c.all.ensures.ran
    (YieldsList-from_slice (marks_of t c.args.place) (cc)) (λ x b q k. search (rules, tests))
    ∙ ready_all t c.args.place c.args.but
