-- What the codec promises, in terms of encodings alone.
--   Bytes           each number of a list fits a byte
--   DecodesAll      the bytes of every valid order are decoded to that order
--   DecodesOnly     what is decoded is a valid order, and the bytes are its encoding
-- Assumes nothing.
use Rattle.std.specs.Prelude.{◌≡◌, ℕ, ◌<◌, true, List, Some}
use Rattle.std.specs.List.{AllByRecursion}
use Rattle.orders.specs.Codec.{encoded, decoded}
use Rattle.orders.specs.Contents.{Contents, valid}

abbrev pub Bytes : List ℕ → Type 0
Bytes bs = AllByRecursion (λ b. b < 256) bs

abbrev pub DecodesAll : Type 0
DecodesAll = (c : Contents) → valid c ≡ true → decoded (encoded c) ≡ Some c

abbrev pub DecodesOnly : Type 0
DecodesOnly = (bs : List ℕ) (c : Contents) → Bytes bs → decoded bs ≡ Some c → (valid c ≡ true) × (encoded c ≡ bs)
