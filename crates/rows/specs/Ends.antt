-- Where rows end in a block of items.
--   rising low es n    each end is at least the one before, the first at least low, and the last, or low where there is none, is n
--   parted low es xs   the rows of the block xs, the first from low on, each up to its end
-- Assumes nothing.
use Rattle.std.specs.Prelude.{ℕ, ◌-◌, Bool, ◌&&◌, List, [], ◌∷◌, take, drop, ◌==◌, nat_le}

abbrev pub rising : ℕ → List ℕ → ℕ → Bool
rising low [] n = low == n
rising low (e ∷ es) n = nat_le low e && rising e es n

unfoldable pub parted : {A : Type 0} → ℕ → List ℕ → List A → List (List A)
parted low [] xs = []
parted low (e ∷ es) xs = take (e - low) (drop low xs) ∷ parted e es xs
