-- Zeros behind the values change nothing.
use Rattle.std.proofs.Common.{◌≡◌, ℕ, zero, suc, ◌≤◌, Bool, true, false, cond, eqb, List, [], ◌∷◌, ◌++◌, map, length, take, replicate, sym, refl, ap, ◌∙◌, arith}
use Rattle.std.proofs.lemmas.List.{length-append, length-replicate, length-take-le, take_at}
use Rattle.orders.specs.Contents.{contents_of, keys_of}
use Rattle.orders.specs.Meaning.{padded, run_from, outcome_of}
use Rattle.orders.specs.Transaction.{lookup}
use Rattle.orders.specs.declared.instruction.Instruction.{Instruction}
use Rattle.orders.specs.declared.order.KeySet.{KeySet}
use Rattle.orders.specs.declared.order.Order.{Order}
use Rattle.orders.proofs.Beside.{keys_few, beside_none}
use Rattle.interpreter.specs.Flow.{ZerosGiven}

-- values filled up with zeros have the same value beside each key
lookup_padded : (n m : ℕ) (ks vs : List ℕ) (k : ℕ) → length ks ≤ n → lookup ks (take n (vs ++ replicate m 0)) k 0 ≡ lookup ks vs k 0
lookup_padded n m [] vs k h = refl
lookup_padded zero m (x ∷ ks) vs k h = absurd (omega arith)
lookup_padded (suc n) zero (x ∷ ks) [] k h = refl
lookup_padded (suc n) (suc m) (x ∷ ks) [] k h = ap (cond (eqb k x) 0) (lookup_padded n m ks [] k (omega arith) ∙ beside_none k 0 ks) ∙ same (eqb k x)
  where
    same : (b : Bool) → ◌≡◌ {A = ℕ} (cond b 0 0) 0
    same true = refl
    same false = refl
lookup_padded (suc n) m (x ∷ ks) (v ∷ vs) k h = ap (cond (eqb k x) v) (lookup_padded n m ks vs k (omega arith))

padded_long : (vs : List ℕ) → length (padded 32 vs) ≡ 32
padded_long vs = length-take-le 32 (vs ++ replicate 32 0) (omega (arith, length-append vs (replicate 32 0), length-replicate {A = ℕ} 32 0))

padded_twice : (vs : List ℕ) → padded 32 (padded 32 vs) ≡ padded 32 vs
padded_twice vs = take_at (padded 32 vs) (replicate 32 0) 32 (padded_long vs)

pub zeros_given : ZerosGiven
zeros_given o vs =
    let c = contents_of o in
    let said : padded 16 (map (λ k. lookup (contents_of o).reads (padded 32 vs) k 0) (contents_of o).writes) ≡ padded 16 (map (λ k. lookup (contents_of o).reads vs k 0) (contents_of o).writes) =
    ap (λ f. padded 16 (map f (contents_of o).writes)) (λ i k. lookup_padded 32 32 (contents_of o).reads vs k (omega (arith, keys_few o.reads)) i) in
    ap (λ rs. run_from 0 (contents_of o).code rs (padded 16 (map (λ k. lookup (contents_of o).reads (padded 32 vs) k 0) (contents_of o).writes))) (padded_twice vs)
    ∙ ap (run_from 0 (contents_of o).code (padded 32 vs)) said

-- so it does where it starts as an order does from registers that have the values and then zeros
pub from_registers : (o : Order) (reads writes : KeySet) (code : List Instruction) (given rs ws vs : List ℕ) → given ≡ padded 32 vs → keys_of reads ≡ (contents_of o).reads → keys_of writes ≡ (contents_of o).writes
    → rs ≡ padded 32 given → ws ≡ padded 16 (map (λ k. lookup (keys_of reads) given k 0) (keys_of writes)) → code ≡ (contents_of o).code → outcome_of (contents_of o) vs ≡ run_from 0 code rs ws
from_registers o reads writes code given rs ws vs is r w registers written whole =
    let said : ws ≡ padded 16 (map (λ k. lookup (contents_of o).reads given k 0) (contents_of o).writes) = written ∙ λ i. padded 16 (map (λ k. lookup (r i) given k 0) (w i)) in
    sym (zeros_given o vs) ∙ ap (outcome_of (contents_of o)) (sym is) ∙ sym (λ i. run_from 0 (whole i) (registers i) (said i))
