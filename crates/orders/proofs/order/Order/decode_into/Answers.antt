use Rattle.std.proofs.Common.{refl, rules}
use Rattle.orders.proofs.Decode.{no_order, found_encoded}
use Rattle.orders.proofs.order.Order.decode_into.Goals as goal

pub returns-then-is_none-clause-encodes : goal.returns-then-is_none-clause-encodes
returns-then-is_none-clause-encodes c = (refl, no_order c.args.bytes.now (search rules))

pub returns-clause-encodes : goal.returns-clause-encodes
returns-clause-encodes c = found_encoded c.args.bytes.now (λ i. (c.type_inv.bytes i).fits) _ (search rules)
