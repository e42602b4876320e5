use Rattle.std.proofs.Common.{is_some, ◌∙◌, rules, tests}
use Rattle.std.proofs.lemmas.Iterator.{YieldsList-from_slice}
use Rattle.std.proofs.lemmas.Iterator.Search.{all_from_yields_List}
use Rattle.ledger.proofs.Marking.{all_are_known}
use Rattle.ledger.proofs.ledger.ask.all_known.Goals as goal

pub returns : goal.returns
returns c =
    all_from_yields_List is_some _ _ _ c.all.ensures.ran (YieldsList-from_slice c.args.slots.now cc) (λ x b q k. search (rules, tests))
    ∙ all_are_known c.args.slots.now
