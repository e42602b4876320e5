use Rattle.std.proofs.Common.{◌≡◌, ℕ, ◌<◌, ◌≤◌, ◌-◌, ◌++◌, length, get_or, map, take, replicate}
use Rattle.orders.specs.Contents.{keys_of}
use Rattle.orders.specs.Seeking.{value_in}
use Rattle.orders.specs.Transaction.{lookup}
use Rattle.interpreter.proofs.unsaid.Given as goal

-- the values found so far, then zeros; and those of the keys to come are still there
abbrev pub invariant-loop-i : goal.invariant-loop-i
invariant-loop-i l = record {
  filled : l.written ≡ map (λ k. lookup (keys_of l.reads) l.values k 0) (take l.i (keys_of l.writes)) ++ replicate (16 - l.i) 0;
  still : (k other : ℕ) → l.i < length (keys_of l.writes) → get_or (keys_of l.writes) l.i 0 ≤ k → value_in l.read k other ≡ lookup (keys_of l.reads) l.values k other;
}
