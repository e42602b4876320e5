-- The number that a word is: digits alone, and below 2 to the 32.
--   joins n b       b is a digit, and there is room for it behind the number n
--   joined n b      the number with that digit behind it
--   read_on n bs    the number with all of bs behind it; none where one does not join
--   number_of bs    the number that the word bs is; none where it is none
-- Assumes nothing.
use Rattle.std.specs.Prelude.{ℕ, ◌+◌, ◌-◌, ◌*◌, Bool, cond, ◌&&◌, List, [], ◌∷◌, Some, None, Option, nat_le, nat_lt}

abbrev pub joined : ℕ → ℕ → ℕ
joined n b = 10 * n + (b - 48)

abbrev pub joins : ℕ → ℕ → Bool
joins n b = nat_le 48 b && nat_le b 57 && nat_lt (joined n b) 4294967296

abbrev pub read_on : ℕ → List ℕ → Option ℕ
read_on n [] = Some n
read_on n (b ∷ bs) = cond (joins n b) (read_on (joined n b) bs) None

abbrev pub number_of : List ℕ → Option ℕ
number_of [] = None
number_of (b ∷ bs) = read_on 0 (b ∷ bs)
