-- What the framing of the log promises, in terms of framed orders alone.
--   FramesAll     orders that are framed one after the other are found again, whatever follows the last that is whole
--   FramesOnly    what is found stands there, framed, and what is left behind it begins with no whole order
--   CutsAnywhere  cutting the bytes at any place leaves a first part of the log: exactly the orders that end before the cut
-- Assumes nothing.
use Rattle.std.specs.Prelude.{◌≡◌, ℕ, suc, ◌<◌, ◌≤◌, List, ◌++◌, length, take, ◌≢◌}
use Rattle.std.specs.List.{flat_map}
use Rattle.orders.specs.Laws.{Bytes}
use Rattle.line.specs.Frames.{framed, frames, extent, tail_of}

abbrev pub FramesAll : Type 0
FramesAll = (os : List (List ℕ)) (rest : List ℕ) → frames (flat_map framed os ++ rest) ≡ os ++ frames rest

abbrev pub FramesOnly : Type 0
FramesOnly =
    (bs : List ℕ) → Bytes bs → (bs ≡ flat_map framed (frames bs) ++ tail_of bs) × ((o rest : List ℕ) → tail_of bs ≢ framed o ++ rest)

abbrev pub CutsAnywhere : Type 0
CutsAnywhere =
    (bs : List ℕ) (n : ℕ) →
    (m : ℕ) × (frames (take n bs) ≡ take m (frames bs)) × (extent (take m (frames bs)) ≤ n) × (m < length (frames bs) → n < extent (take (suc m) (frames bs)))
