-- A run of some code, one instruction at a time, and what is known of each instruction.
use Rattle.std.proofs.Common.{◌≡◌, ℕ, zero, suc, ◌-◌, ◌≤◌, true, min, ltb, List, [], ◌∷◌, length, take, drop, sym, refl, ap, ◌∙◌, arith}
use Rattle.std.proofs.lemmas.List.{take_all, drop_min, length-drop}
use Rattle.std.proofs.lemmas.Bool.{and_parts, and_from, ltb-true, lt-ltb}
use Rattle.orders.specs.Meaning.{run_from}
use Rattle.orders.specs.Valid.{fits, all_fit}
use Rattle.orders.specs.declared.instruction.Instruction.{Instruction}
use Rattle.orders.specs.declared.instruction.Instruction.TheVariants.{Add, Subtract, Multiply, Divide, Set, SkipIfBelow, Write, Abort}

part : {X : Type 0} (xs : List X) (n m : ℕ) → m ≡ min n (length xs) → take (length xs - m) (drop m xs) ≡ drop n xs
part xs n m e = take_all (length xs - m) (drop m xs) (omega (arith, length-drop m xs)) ∙ ap (λ k. drop k xs) e ∙ drop_min n xs

-- the instructions behind one: passed over, or done
module _ (rs vs : List ℕ) where
  run_passes : (n : ℕ) (is : List Instruction) → run_from n is rs vs ≡ run_from 0 (drop n is) rs vs
  unfolding run_from
  run_passes zero is = refl
  run_passes (suc n) [] = refl
  run_passes (suc n) (i ∷ is) = run_passes n is

  -- a part of a slice from m on reads as `take .. (drop m ..)`
  pub run_skips : (is : List Instruction) (n m : ℕ) → m ≡ min n (length is) → run_from n is rs vs ≡ run_from 0 (take (length is - m) (drop m is)) rs vs
  run_skips is n m e = run_passes n is ∙ ap (λ js. run_from 0 js rs vs) (sym (part is n m e))

-- an instruction that fits a write set fits a larger one
fits_more : (w v : ℕ) (i : Instruction) → w ≤ v → fits w i ≡ true → fits v i ≡ true
fits_more w v (Add a b c) l h = h
fits_more w v (Subtract a b c) l h = h
fits_more w v (Multiply a b c) l h = h
fits_more w v (Divide a b c) l h = h
fits_more w v (Set a n) l h = h
fits_more w v (SkipIfBelow b c d) l h = h
fits_more w v (Write s b) l h =
    let p = and_parts (ltb s w) (ltb b 32) h in
    and_from (ltb s v) (ltb b 32) (lt-ltb s v (omega (arith, ltb-true s w p.0))) p.1
fits_more w v Abort l h = h

pub all_fit_more : (w v : ℕ) (is : List Instruction) → w ≤ v → all_fit w is ≡ true → all_fit v is ≡ true
all_fit_more w v [] l h = refl
all_fit_more w v (x ∷ xs) l h =
    let p = and_parts (fits w x) (all_fit w xs) h in
    and_from (fits v x) (all_fit v xs) (fits_more w v x l p.0) (all_fit_more w v xs l p.1)

all_fit_drop : (w n : ℕ) (is : List Instruction) → all_fit w is ≡ true → all_fit w (drop n is) ≡ true
all_fit_drop w zero is h = h
all_fit_drop w (suc n) [] h = refl
all_fit_drop w (suc n) (x ∷ xs) h = all_fit_drop w n xs (and_parts (fits w x) (all_fit w xs) h).1

pub all_fit_on : (w : ℕ) (i : Instruction) (is : List Instruction) (n m : ℕ) → m ≡ min n (length is) → all_fit w (i ∷ is) ≡ true → all_fit w (take (length is - m) (drop m is)) ≡ true
all_fit_on w i is n m e h = ap (all_fit w) (part is n m e) ∙ all_fit_drop w n is (and_parts (fits w i) (all_fit w is) h).1
