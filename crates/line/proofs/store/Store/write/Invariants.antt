use Rattle.std.proofs.Common.{◌≡◌, ℕ, drop, length}
use Rattle.orders.specs.Contents.{keys_of}
use Rattle.orders.specs.Transaction.{lookup}
use Rattle.line.specs.Serial.{values_in}
use Rattle.line.proofs.store.Store.write.Given as goal

-- what is still to be written, over what stands now, is the whole over what stood first
abbrev pub invariant-loop-key : goal.invariant-loop-key
invariant-loop-key l =
    let i = length l.yielded in
    (k : ℕ) → lookup (drop i (keys_of l.keys)) (drop i l.values) k (values_in l.self k) ≡ lookup (keys_of l.keys) l.values k (values_in l.initial.self k)
