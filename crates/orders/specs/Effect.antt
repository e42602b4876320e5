-- What holds of every transaction, whatever it does.
--   Agree         two states have the same values in some keys
--   OnlyReads     what it comes to, and so what it leaves in a key, depends on the values of its read set alone, and on what
--                 stands in that key, which stays where it writes nothing
--   OnlyWrites    it leaves every key outside its write set as it was
-- Assumes nothing.
use Rattle.std.specs.Prelude.{◌≡◌, ℕ, true, false, List, map}
use Rattle.orders.specs.Transaction.{Transaction, is_in, after}

abbrev pub Agree : List ℕ → (f g : ℕ → ℕ) → Type 0
Agree ks f g = (k : ℕ) → is_in k ks ≡ true → f k ≡ g k

abbrev pub OnlyReads : Type 0
OnlyReads =
    (t : Transaction) (f g : ℕ → ℕ) → Agree t.reads f g →
    (t.outcome (map f t.reads) ≡ t.outcome (map g t.reads)) × ((k : ℕ) → f k ≡ g k → after t f k ≡ after t g k)

abbrev pub OnlyWrites : Type 0
OnlyWrites = (t : Transaction) (f : ℕ → ℕ) (k : ℕ) → is_in k t.writes ≡ false → after t f k ≡ f k
