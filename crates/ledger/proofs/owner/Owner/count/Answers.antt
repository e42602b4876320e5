use Rattle.std.proofs.Common.{◌∙◌, rules, tests}
use Rattle.std.proofs.lemmas.Iterator.{YieldsList-from_slice}
use Rattle.std.proofs.lemmas.Iterator.Consumers.{YieldsList-from_filter, count_from_yields_List}
use Rattle.orders.specs.Contents.{keys_of}
use Rattle.ledger.specs.Own.{owns}
use Rattle.ledger.proofs.Marking.{own_counted}
use Rattle.ledger.proofs.owner.Owner.count.Goals as goal

pub returns : goal.returns
returns c =
    let ks = keys_of c.args.keys.now in
    count_from_yields_List c.filter-own.result _ c.count.ensures.ran
    (YieldsList-from_filter _ (owns c.args.self.number) (YieldsList-from_slice ks cc) c.filter-own.ensures.closure (λ x r q k. search (rules, tests)))
    ∙ own_counted c.args.self.number ks
