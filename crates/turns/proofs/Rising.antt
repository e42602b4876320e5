-- Laws of rising places, where one place is put among them.
use Rattle.std.proofs.Common.{◌≡◌, ℕ, zero, suc, ◌+◌, ◌<◌, ◌≤◌, Bool, true, false, ◌&&◌, ◌||◌, eqb, leb, List, [], ◌∷◌, length, get_or, drop, Ok, Err, Result, MatchResult, sym, refl, ap, ◌∙◌, subst, inl, inr, arith}
use Rattle.std.specs.List.{insert}
use Rattle.std.specs.List.Sorted.{IsBinarySearchResult}
use Rattle.std.specs.Ordering.{nat_cmp}
use Rattle.std.proofs.lemmas.List.{at_drop_more, at_drop_all, get_or_default}
use Rattle.std.proofs.lemmas.List.Sorted.{searched}
use Rattle.std.proofs.lemmas.Bool.{le-leb, leb-true, cases_lt, and_parts, and_from}
use Rattle.orders.specs.Transaction.{is_in}
use Rattle.orders.specs.Valid.{rising}

-- from any place on they rise
rising_drop : (low i : ℕ) (xs : List ℕ) → rising low xs ≡ true → rising 0 (drop i xs) ≡ true
rising_drop low zero [] h = refl
rising_drop low (suc i) [] h = refl
rising_drop low zero (x ∷ xs) h = and_from (leb 0 x) (rising (suc x) xs) (le-leb 0 x (omega arith)) (and_parts (leb low x) (rising (suc x) xs) h).1
rising_drop low (suc i) (x ∷ xs) h = rising_drop (suc x) i xs (and_parts (leb low x) (rising (suc x) xs) h).1

pub rising_past : (low i : ℕ) (xs : List ℕ) → length xs ≤ i → rising low (drop i xs) ≡ true
rising_past low i xs h = at_drop_all (rising low) xs i h

-- those from i on are no lower than what stands at i
pub rising_from : (low i x : ℕ) (xs : List ℕ) → rising 0 xs ≡ true → i < length xs → x ≡ get_or xs i x → low ≤ x → rising low (drop i xs) ≡ true
rising_from low i x xs h within is l =
    let all : (leb 0 (get_or xs i x) && rising (suc (get_or xs i x)) (drop (i + 1) xs)) ≡ true = sym (at_drop_more (rising 0) xs i x within) ∙ rising_drop 0 i xs h in
    let at : rising low (drop i xs) ≡ (leb low (get_or xs i x) && rising (suc (get_or xs i x)) (drop (i + 1) xs)) = at_drop_more (rising low) xs i x within in
    at ∙ and_from (leb low (get_or xs i x)) (rising (suc (get_or xs i x)) (drop (i + 1) xs)) (le-leb low (get_or xs i x) (omega arith)) (and_parts (leb 0 (get_or xs i x)) (rising (suc (get_or xs i x)) (drop (i + 1) xs)) all).1

-- a place between those below it and those above it
pub rising_inserted : (low at p : ℕ) (xs : List ℕ) → rising low xs ≡ true → (at ≡ 0 → low ≤ p) → ((k : ℕ) → k + 1 ≡ at → get_or xs k 0 < p) → at ≤ length xs → rising (suc p) (drop at xs) ≡ true → rising low (insert xs at p) ≡ true
rising_inserted low zero p xs h l below within above = and_from (leb low p) (rising (suc p) xs) (le-leb low p (l refl)) above
rising_inserted low (suc n) p [] h l below within above = absurd (omega arith)
rising_inserted low (suc n) p (x ∷ xs) h l below within above =
    let parts = and_parts (leb low x) (rising (suc x) xs) h in
    and_from (leb low x) (rising (suc x) (insert xs n p)) parts.0
    (rising_inserted (suc x) n p xs parts.1 (λ e. let b : x < p = below 0 (omega arith) in omega arith) (λ k e. below (suc k) (omega arith)) (omega arith) above)

-- each is at least the lower bound, and they rise from index to index
rising_low : (low : ℕ) (xs : List ℕ) → rising low xs ≡ true → (j : ℕ) → j < length xs → low ≤ get_or xs j 0
rising_low low [] h j l = absurd (omega arith)
rising_low low (x ∷ xs) h zero l = leb-true low x (and_parts (leb low x) (rising (suc x) xs) h).0
rising_low low (x ∷ xs) h (suc j) l =
    let parts = and_parts (leb low x) (rising (suc x) xs) h in
    let first : low ≤ x = leb-true low x parts.0 in
    let rest : suc x ≤ get_or xs j 0 = rising_low (suc x) xs parts.1 j (omega arith) in
    omega arith

rising_up : (low : ℕ) (xs : List ℕ) → rising low xs ≡ true → (i j : ℕ) → i ≤ j → j < length xs → get_or xs i 0 ≤ get_or xs j 0
rising_up low [] h i j le l = absurd (omega arith)
rising_up low (x ∷ xs) h zero zero le l = omega arith
rising_up low (x ∷ xs) h zero (suc j) le l =
    let rest : suc x ≤ get_or xs j 0 = rising_low (suc x) xs (and_parts (leb low x) (rising (suc x) xs) h).1 j (omega arith) in omega arith
rising_up low (x ∷ xs) h (suc i) zero le l = absurd (omega arith)
rising_up low (x ∷ xs) h (suc i) (suc j) le l = rising_up (suc x) xs (and_parts (leb low x) (rising (suc x) xs) h).1 i j (omega arith) (omega arith)

-- laws of `||`
or_swap : (x y z : Bool) → (x || (y || z)) ≡ (y || (x || z))
or_swap true true z = refl
or_swap true false z = refl
or_swap false true z = refl
or_swap false false z = refl

or_again : (x z : Bool) → (x || z) ≡ (x || (x || z))
or_again true z = refl
or_again false z = refl

pub in_inserted : (x at p : ℕ) (xs : List ℕ) → is_in x (insert xs at p) ≡ (eqb x p || is_in x xs)
in_inserted x zero p xs = refl
in_inserted x (suc n) p [] = refl
in_inserted x (suc n) p (y ∷ ys) = ap (λ b. eqb x y || b) (in_inserted x n p ys) ∙ or_swap (eqb x y) (eqb x p) (is_in x ys)

-- what stands in the list already
pub in_already : (x i p d : ℕ) (xs : List ℕ) → i < length xs → p ≡ get_or xs i d → is_in x xs ≡ (eqb x p || is_in x xs)
in_already x i p d [] h is = absurd (omega arith)
in_already x zero p d (y ∷ ys) h is = or_again (eqb x y) (is_in x ys) ∙ ap (λ z. eqb x z || (eqb x y || is_in x ys)) (sym is)
in_already x (suc i) p d (y ∷ ys) h is = ap (λ b. eqb x y || b) (in_already x i p d ys (omega arith) is) ∙ or_swap (eqb x y) (eqb x p) (is_in x ys)

-- what a search for the place p finds in the list ys
module _ (xs ys : List ℕ) (p : ℕ) (rises : rising 0 xs ≡ true) (same : ys ≡ xs) where
  found : (r : Result ℕ ℕ) → IsBinarySearchResult (λ y. nat_cmp y p) ys r →
      MatchResult r (λ i. (i < length xs) × (get_or xs i 0 ≡ p)) (λ i. (i ≤ length xs) × ((k : ℕ) → k < i → get_or xs k 0 < p) × ((k : ℕ) → i ≤ k → k < length xs → p < get_or xs k 0))
  found r s = searched xs p r (subst (λ zs. IsBinarySearchResult (λ y. nat_cmp y p) zs r) same s) (rising_up 0 xs rises)

  pub in_found : (i : ℕ) → IsBinarySearchResult (λ y. nat_cmp y p) ys (Ok i) → (x : ℕ) → is_in x xs ≡ (eqb x p || is_in x xs)
  in_found i s x = let f = found (Ok i) s in in_already x i p 0 xs f.0 (sym f.1)

  pub rising_found : (i : ℕ) → IsBinarySearchResult (λ y. nat_cmp y p) ys (Err i) → rising 0 (insert xs i p) ≡ true
  rising_found i s =
      let f = found (Err i) s in
      let above : rising (suc p) (drop i xs) ≡ true =
      elim (cases_lt i (length xs)) [
        | inl l ↦ let more : p < get_or xs i 0 = f.2 i (omega arith) l in rising_from (suc p) i (get_or xs i 0) xs rises l (get_or_default xs i 0 (get_or xs i 0) l) (omega arith)
        | inr l ↦ rising_past (suc p) i xs l
      ] in
      rising_inserted 0 i p xs rises (λ e. omega arith) (λ k e. f.1 k (omega arith)) f.0 above
