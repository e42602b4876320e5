use Rattle.std.proofs.Common.{◌∙◌, arith}
use Rattle.turns.specs.State.{marks_of, done_of}
use Rattle.turns.proofs.Looking.{clear_put_later}
use Rattle.turns.proofs.turns.Turns.is_ready.Goals as goal

-- nobody before a place stands at it
pub returns : goal.returns
returns c = c.is_clear.ensures ∙ clear_put_later (marks_of c.args.self.now) (done_of c.args.self.now) c.args.place (marks_of c.args.self.now c.args.place) c.args.place (omega arith)
