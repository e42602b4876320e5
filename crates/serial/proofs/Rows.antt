-- The parts of a row: how long its numbers are, and what is put before what stands already.
use Rattle.std.proofs.Common.{◌≡◌, ℕ, ◌+◌, ◌-◌, ◌^◌, ◌<◌, ◌≤◌, List, ◌∷◌, length, drop, set, decimal, ap, ◌∙◌, arith}
use Rattle.std.proofs.lemmas.Fmt.{length-decimal-le}
use Rattle.std.proofs.lemmas.List.{drop-set}

pub value_long : (n : ℕ) → n < 2 ^ 32 → length (decimal n) ≤ 10
value_long n fits = length-decimal-le 10 n (omega arith) (omega arith) (omega arith)

pub key_long : (n : ℕ) → n < 2 ^ 16 → length (decimal n) ≤ 5
key_long n fits = length-decimal-le 5 n (omega arith) (omega arith) (omega arith)

pub drop_before : (row : List ℕ) (at d : ℕ) → 1 ≤ at → at ≤ length row → drop (at - 1) (set row (at - 1) d) ≡ d ∷ drop at row
drop_before row at d some within =
    let e : at - 1 + 1 ≡ at = omega arith in
    drop-set row (at - 1) d (omega arith) ∙ ap (λ i. d ∷ drop i row) e
