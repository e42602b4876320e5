-- What the instructions of an order do, and so which transaction an order is.
--   padded n xs    xs cut or filled up with zeros to n elements
--   run_from       what the instructions come to, from the registers and from what will be written
--   outcome_of     what an order comes to, from the values that it has read
--   meaning        the order as a transaction
--   transaction    the one that some bytes encode; bytes that encode none do nothing
-- Assumes nothing.
use Rattle.std.specs.Prelude.{ℕ, zero, suc, ◌+◌, ◌-◌, ◌*◌, ◌/◌, ◌%◌, ◌^◌, cond, List, [], ◌∷◌, ◌++◌, map, take, replicate, Some, None, Option, ◌==◌, nat_lt, slice_index, slice_set}
use Rattle.orders.specs.Codec.{decoded}
use Rattle.orders.specs.Contents.{Contents}
use Rattle.orders.specs.Transaction.{Transaction, lookup, idle}
use Rattle.orders.specs.declared.instruction.Instruction.{Instruction}
use Rattle.orders.specs.declared.instruction.Instruction.TheVariants.{Add, Subtract, Multiply, Divide, Set, SkipIfBelow, Write, Abort}
use Rattle.orders.specs.declared.outcome.Outcome.{Outcome}
use Rattle.orders.specs.declared.outcome.Outcome.TheVariants.{Nothing, Writes}

abbrev pub padded : ℕ → List ℕ → List ℕ
padded n xs = take n (xs ++ replicate n 0)

abbrev pub at : List ℕ → ℕ → ℕ
at rs i = slice_index rs i

abbrev pub quotient : ℕ → ℕ → ℕ
quotient m n = cond (n == 0) 0 (m / n)

-- skip: how many of the instructions are passed over first; rs: the registers; vs: what will be written, by slot
unfoldable pub run_from : (skip : ℕ) → List Instruction → (rs vs : List ℕ) → Outcome
run_from skip [] rs vs = Writes vs
run_from (suc n) (i ∷ is) rs vs = run_from n is rs vs
run_from zero (Add a b c ∷ is) rs vs = run_from 0 is (slice_set rs a ((at rs b + at rs c) % 2 ^ 32)) vs
run_from zero (Subtract a b c ∷ is) rs vs = run_from 0 is (slice_set rs a ((at rs b + (2 ^ 32 - at rs c)) % 2 ^ 32)) vs
run_from zero (Multiply a b c ∷ is) rs vs = run_from 0 is (slice_set rs a (at rs b * at rs c % 2 ^ 32)) vs
run_from zero (Divide a b c ∷ is) rs vs = run_from 0 is (slice_set rs a (quotient (at rs b) (at rs c))) vs
run_from zero (Set a n ∷ is) rs vs = run_from 0 is (slice_set rs a n) vs
run_from zero (SkipIfBelow b c d ∷ is) rs vs = run_from (cond (nat_lt (at rs b) (at rs c)) d 0) is rs vs
run_from zero (Write s b ∷ is) rs vs = run_from 0 is rs (slice_set vs s (at rs b))
run_from zero (Abort ∷ is) rs vs = Nothing

-- before an instruction says otherwise, a key is written as it was read, and as 0 where it was not read
abbrev pub unsaid : Contents → List ℕ → List ℕ
unsaid c vs = padded 16 (map (λ k. lookup c.reads vs k 0) c.writes)

abbrev pub outcome_of : Contents → List ℕ → Outcome
outcome_of c vs = run_from 0 c.code (padded 32 vs) (unsaid c vs)

abbrev pub meaning : Contents → Transaction
meaning c = record { reads = c.reads; writes = c.writes; outcome = outcome_of c }

abbrev pub meaning_or : Option Contents → Transaction
meaning_or None = idle
meaning_or (Some c) = meaning c

abbrev pub transaction : List ℕ → Transaction
transaction bs = meaning_or (decoded bs)
