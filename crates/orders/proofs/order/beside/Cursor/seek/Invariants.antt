use Rattle.std.proofs.Common.{◌≡◌, ℕ, ◌≤◌, ◌-◌, length, drop}
use Rattle.orders.specs.Transaction.{lookup}
use Rattle.orders.proofs.order.beside.Cursor.seek.Given as goal

-- what was passed over is beside none of the keys that may still be asked for
abbrev pub invariant-loop-place : goal.invariant-loop-place
invariant-loop-place l = (k other : ℕ) → l.key ≤ k → lookup (drop l.place l.self.keys.now) (drop l.place l.self.values.now) k other ≡ lookup (drop l.self.place l.self.keys.now) (drop l.self.place l.self.values.now) k other

abbrev pub decreases-loop-place : goal.decreases-loop-place
decreases-loop-place l = length l.self.keys.now - l.place
