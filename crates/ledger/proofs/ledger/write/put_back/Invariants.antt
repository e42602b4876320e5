use Rattle.std.proofs.Common.{◌≡◌, ℕ, true, drop}
use Rattle.orders.specs.Contents.{keys_of}
use Rattle.ledger.specs.Own.{owns, slot_in}
use Rattle.ledger.proofs.Putting.{back}
use Rattle.ledger.proofs.ledger.write.put_back.Given as goal

-- what is still to be written, over what stands now, is the whole over what stood first
abbrev pub invariant-loop-key : goal.invariant-loop-key
invariant-loop-key l =
    (k : ℕ) → owns l.owner.number k ≡ true →
    back (drop l.key-index l.key-items) (keys_of l.reads) l.read k (slot_in l.own.own.items k) ≡ back l.key-items (keys_of l.reads) l.read k (slot_in l.initial.own.own.items k)
