use Rattle.std.proofs.Common.{◌≡◌, ℕ, true, length, drop}
use Rattle.orders.specs.Contents.{keys_of}
use Rattle.orders.specs.Transaction.{lookup}
use Rattle.ledger.specs.Own.{owns, slot_in}
use Rattle.ledger.proofs.ledger.write.put.Given as goal

-- what is still to be written, over what stands now, is the whole over what stood first
abbrev pub invariant-loop-key : goal.invariant-loop-key
invariant-loop-key l =
    (k : ℕ) → owns l.owner.number k ≡ true →
    lookup (drop (length l.yielded) (keys_of l.keys)) (drop (length l.yielded) l.values) k (slot_in l.own.own.items k) ≡ lookup (keys_of l.keys) l.values k (slot_in l.initial.own.own.items k)
