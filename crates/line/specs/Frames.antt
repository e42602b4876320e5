-- The bytes of the log: orders, each behind its length in two bytes, the high one first.
--   framed o       an order behind its length
--   frames bs      the orders that stand whole in the bytes, from the front
--   extent os      how many bytes so many orders take
--   tail_of bs     what lies behind the last whole order: the part that a stop cut
--   Whole bs       no such tail
-- Assumes nothing.
use Rattle.std.specs.Prelude.{◌≡◌, ℕ, zero, suc, ◌+◌, ◌*◌, cond, List, [], ◌∷◌, ◌++◌, length, take, drop, nat_le}
use Rattle.std.specs.List.{flat_map}
use Rattle.orders.specs.Codec.{two}

abbrev pub framed : List ℕ → List ℕ
framed o = two (length o) ++ o

-- fuel: more than there are orders
unfoldable pub frames_in : (fuel : ℕ) → List ℕ → List (List ℕ)
frames_in zero bs = []
frames_in (suc n) [] = []
frames_in (suc n) (h ∷ []) = []
frames_in (suc n) (h ∷ l ∷ bs) = cond (nat_le (h * 256 + l) (length bs)) (take (h * 256 + l) bs ∷ frames_in n (drop (h * 256 + l) bs)) []

unfoldable pub frames : List ℕ → List (List ℕ)
frames bs = frames_in (length bs) bs

abbrev pub extent : List (List ℕ) → ℕ
extent os = length (flat_map framed os)

abbrev pub tail_of : List ℕ → List ℕ
tail_of bs = drop (extent (frames bs)) bs

abbrev pub Whole : List ℕ → Type 0
Whole bs = extent (frames bs) ≡ length bs
