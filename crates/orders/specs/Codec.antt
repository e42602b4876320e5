-- The bytes of an order, the high byte of a number first.
--   two, four             the bytes of a key and of a 32-bit number
--   instruction_bytes     of an instruction: its kind, then its numbers
--   encoded               of an order: its read set, its write set and its code, each behind its count
--   many one n            n things read one after the other, each by one
--   decoded               the order that some bytes encode, if there is one
-- That decoded undoes encoded, and finds an order only where there is one, is proved (Laws in specs/).
-- Assumes nothing.
use Rattle.std.specs.Prelude.{ℕ, zero, suc, ◌+◌, ◌*◌, ◌/◌, ◌%◌, Bool, cond, List, [], ◌∷◌, ◌++◌, length, Some, None, Option, ◌==◌, nat_le}
use Rattle.std.specs.List.{flat_map}
use Rattle.orders.specs.Contents.{Contents}
use Rattle.orders.specs.Valid.{rising, fits}
use Rattle.orders.specs.declared.instruction.Instruction.{Instruction}
use Rattle.orders.specs.declared.instruction.Instruction.TheVariants.{Add, Subtract, Multiply, Divide, Set, SkipIfBelow, Write, Abort}

abbrev pub two : ℕ → List ℕ
two n = n / 256 ∷ n % 256 ∷ []

abbrev pub four : ℕ → List ℕ
four n = n / 16777216 ∷ n / 65536 % 256 ∷ n / 256 % 256 ∷ n % 256 ∷ []

abbrev pub instruction_bytes : Instruction → List ℕ
instruction_bytes (Add a b c) = 1 ∷ a ∷ b ∷ c ∷ []
instruction_bytes (Subtract a b c) = 2 ∷ a ∷ b ∷ c ∷ []
instruction_bytes (Multiply a b c) = 3 ∷ a ∷ b ∷ c ∷ []
instruction_bytes (Divide a b c) = 4 ∷ a ∷ b ∷ c ∷ []
instruction_bytes (Set a n) = 5 ∷ a ∷ four n
instruction_bytes (SkipIfBelow b c d) = 6 ∷ b ∷ c ∷ d ∷ []
instruction_bytes (Write s b) = 7 ∷ s ∷ b ∷ []
instruction_bytes Abort = 8 ∷ []

abbrev pub counted : {X : Type 0} → (X → List ℕ) → List X → List ℕ
counted f xs = length xs ∷ flat_map f xs

abbrev pub encoded : Contents → List ℕ
encoded c = counted two c.reads ++ (counted two c.writes ++ counted instruction_bytes c.code)

abbrev pub and_then : {X Y : Type 0} → Option X → (X → Option Y) → Option Y
and_then None f = None
and_then (Some x) f = f x

-- what is read at the front of some bytes, and the bytes after it
abbrev pub Read : Type 0 → Type 0
Read X = Option (X × List ℕ)

abbrev pub prepend : {X : Type 0} → List X → Read (List X) → Read (List X)
prepend xs None = None
prepend xs (Some p) = Some (xs ++ p.0, p.1)

unfoldable pub many : {X : Type 0} → (List ℕ → Read X) → ℕ → List ℕ → Read (List X)
many one zero bs = Some ([], bs)
many one (suc n) bs = and_then (one bs) (λ p. prepend (p.0 ∷ []) (many one n p.1))

abbrev pub key_in : List ℕ → Read ℕ
key_in [] = None
key_in (h ∷ []) = None
key_in (h ∷ l ∷ bs) = Some (h * 256 + l, bs)

abbrev pub three_in : (ℕ → ℕ → ℕ → Instruction) → List ℕ → Read Instruction
three_in f [] = None
three_in f (a ∷ []) = None
three_in f (a ∷ b ∷ []) = None
three_in f (a ∷ b ∷ c ∷ bs) = Some (f a b c, bs)

abbrev pub set_in : List ℕ → Read Instruction
set_in [] = None
set_in (a ∷ []) = None
set_in (a ∷ p ∷ []) = None
set_in (a ∷ p ∷ q ∷ []) = None
set_in (a ∷ p ∷ q ∷ r ∷ []) = None
set_in (a ∷ p ∷ q ∷ r ∷ s ∷ bs) = Some (Set a (p * 16777216 + q * 65536 + r * 256 + s), bs)

abbrev pub write_in : List ℕ → Read Instruction
write_in [] = None
write_in (s ∷ []) = None
write_in (s ∷ b ∷ bs) = Some (Write s b, bs)

abbrev pub of_kind : ℕ → List ℕ → Read Instruction
of_kind k bs =
    cond (k == 1) (three_in Add bs) (cond (k == 2) (three_in Subtract bs) (cond (k == 3) (three_in Multiply bs) (cond (k == 4) (three_in Divide bs)
    (cond (k == 5) (set_in bs) (cond (k == 6) (three_in SkipIfBelow bs) (cond (k == 7) (write_in bs) (cond (k == 8) (Some (Abort, bs)) None)))))))

abbrev pub any_in : List ℕ → Read Instruction
any_in [] = None
any_in (k ∷ bs) = of_kind k bs

abbrev pub only : {X : Type 0} → (X → Bool) → Read X → Read X
only test None = None
only test (Some p) = cond (test p.0) (Some p) None

-- an instruction that fits a write set of w keys
abbrev pub instruction_in : ℕ → List ℕ → Read Instruction
instruction_in w bs = only (fits w) (any_in bs)

-- at most so many things, behind their count
abbrev pub list_in : {X : Type 0} → ℕ → (List ℕ → Read X) → List ℕ → Read (List X)
list_in most one [] = None
list_in most one (n ∷ bs) = cond (nat_le n most) (many one n bs) None

abbrev pub keys_in : List ℕ → Read (List ℕ)
keys_in bs = only (rising 0) (list_in 16 key_in bs)

abbrev pub code_in : ℕ → List ℕ → Read (List Instruction)
code_in w bs = list_in 64 (instruction_in w) bs

abbrev pub ended : Contents → List ℕ → Option Contents
ended c [] = Some c
ended c (b ∷ bs) = None

unfoldable pub decoded : List ℕ → Option Contents
decoded bs =
    and_then (keys_in bs) (λ r. and_then (keys_in r.1) (λ w. and_then (code_in (length w.0) w.1) (λ c. ended (record { reads = r.0; writes = w.0; code = c.0 }) c.1)))
