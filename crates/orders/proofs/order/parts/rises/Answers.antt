use Rattle.std.proofs.Common.{ltb, rules, tests}
use Rattle.std.proofs.lemmas.Fn.{always_returns_same}
use Rattle.orders.proofs.Valid.{rising_from_adjacent}
use Rattle.orders.proofs.order.parts.rises.Goals as goal

pub returns : goal.returns
returns c = rising_from_adjacent _ _ (c.is_sorted_by.ensures.cases ltb (always_returns_same _ _ _ (λ a r f' k. search (rules, tests))))
