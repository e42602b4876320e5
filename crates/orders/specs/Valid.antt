-- When the parts of an order are valid.
--   rising low ks    the keys rise, the first is at least low
--   fits w i         the registers of i are below 32 and its slot is below w, the size of the write set
--   all_fit w is     each of the instructions fits
-- Assumes nothing.
use Rattle.std.specs.Prelude.{ℕ, suc, Bool, true, ◌&&◌, List, [], ◌∷◌, nat_le, nat_lt}
use Rattle.std.specs.List.{list_all}
use Rattle.orders.specs.declared.instruction.Instruction.{Instruction}
use Rattle.orders.specs.declared.instruction.Instruction.TheVariants.{Add, Subtract, Multiply, Divide, Set, SkipIfBelow, Write, Abort}

abbrev pub rising : ℕ → List ℕ → Bool
rising low [] = true
rising low (k ∷ ks) = nat_le low k && rising (suc k) ks

abbrev pub three : ℕ → ℕ → ℕ → Bool
three a b c = nat_lt a 32 && nat_lt b 32 && nat_lt c 32

abbrev pub fits : ℕ → Instruction → Bool
fits w (Add a b c) = three a b c
fits w (Subtract a b c) = three a b c
fits w (Multiply a b c) = three a b c
fits w (Divide a b c) = three a b c
fits w (Set a n) = nat_lt a 32
fits w (SkipIfBelow b c d) = nat_lt b 32 && nat_lt c 32
fits w (Write s b) = nat_lt s w && nat_lt b 32
fits w Abort = true

abbrev pub all_fit : ℕ → List Instruction → Bool
all_fit w is = list_all (fits w) is
