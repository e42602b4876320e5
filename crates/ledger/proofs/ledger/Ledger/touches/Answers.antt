use Rattle.std.proofs.Common.{ap, ◌∙◌, rules, tests}
use mathlib.Core.Bool.{beq}
use Rattle.std.proofs.lemmas.Iterator.{YieldsList-from_slice}
use Rattle.std.proofs.lemmas.Iterator.Search.{any_from_yields_List}
use Rattle.turns.specs.declared.entry.Mark.{Mark}
use Rattle.ledger.specs.Own.{marked}
use Rattle.ledger.proofs.Marking.{any_marked}
use Rattle.ledger.proofs.ledger.Ledger.touches.Goals as goal

pub returns : goal.returns
returns c =
    any_from_yields_List (λ (m : Mark). beq m.writes c.args.writes) _ _ _ c.any.ensures.ran (YieldsList-from_slice c.marks-marks.result.now cc) (λ x b q k. search (rules, tests))
    ∙ any_marked c.args.writes c.marks-marks.result.now ∙ ap (marked c.args.writes) c.marks-marks.ensures
