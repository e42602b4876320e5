-- An order as the protocol sees it, and what doing a log of them serially leaves.
--   Transaction    a read set, a write set, and an outcome that depends on nothing but the values read
--   lookup         the value that stands beside a key in a list of keys and one of values
--   leaves         what a transaction leaves in a key, from the values that it has read and what stands there
--   after          the values of all keys after a transaction
--   serial         the same after a log, one transaction after the other
--   idle           the transaction that does nothing
--   is_in          whether a list has a key
-- Assumes nothing.
use Rattle.std.specs.Prelude.{ℕ, Bool, false, cond, ◌||◌, List, [], ◌∷◌, map, ◌==◌}
use Rattle.orders.specs.declared.outcome.Outcome.{Outcome}
use Rattle.orders.specs.declared.outcome.Outcome.TheVariants.{Nothing, Writes}

pub record Transaction : Type 0 where
  pub reads : List ℕ
  pub writes : List ℕ
  pub outcome : List ℕ → Outcome

abbrev pub lookup : List ℕ → List ℕ → ℕ → ℕ → ℕ
lookup [] vs k d = d
lookup (x ∷ xs) [] k d = d
lookup (x ∷ xs) (v ∷ vs) k d = cond (k == x) v (lookup xs vs k d)

abbrev pub written : List ℕ → Outcome → ℕ → ℕ → ℕ
written ws Nothing k now' = now'
written ws (Writes vs) k now' = lookup ws vs k now'

abbrev pub leaves : Transaction → List ℕ → ℕ → ℕ → ℕ
leaves t vs k now' = written t.writes (t.outcome vs) k now'

unfoldable pub after : Transaction → (ℕ → ℕ) → ℕ → ℕ
after t f k = leaves t (map f t.reads) k (f k)

unfoldable pub serial : List Transaction → (ℕ → ℕ) → ℕ → ℕ
serial [] f = f
serial (t ∷ ts) f = serial ts (after t f)

abbrev pub idle : Transaction
idle = record { reads = []; writes = []; outcome = λ vs. Nothing }

abbrev pub is_in : ℕ → List ℕ → Bool
is_in k [] = false
is_in k (x ∷ xs) = k == x || is_in k xs
