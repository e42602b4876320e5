use Rattle.std.proofs.Common.{◌≡◌, ◌++◌, take, vec_items}
use Rattle.std.specs.List.{flat_map}
use Rattle.orders.proofs.order.encode.write_list.Given as goal

abbrev pub invariant-loop-item : goal.invariant-loop-item
invariant-loop-item g l = vec_items l.out ≡ vec_items l.initial.out ++ flat_map g.T.Written.bytes (take l.item-index l.items)
