-- Keys rise where each is below the next.
use Rattle.std.proofs.Common.{◌≡◌, ℕ, zero, suc, ◌<◌, ◌≤◌, Bool, true, false, ◌&&◌, leb, ltb, List, [], ◌∷◌, length, get_or, refl, ap, ◌∙◌, sym, arith, add-one}
use Rattle.std.specs.List.{IsAllAdjacentAnswer}
use Rattle.std.proofs.Math.Bool.{and-false}
use Rattle.std.proofs.lemmas.Bool.{le-leb, lt-leb, leb-true, ltb-true, ltb-false, and_parts, and_from}
use Rattle.orders.specs.Valid.{rising}

rises_on : (low : ℕ) (ks : List ℕ) → (1 ≤ length ks → low ≤ get_or ks 0 0) → ((k : ℕ) → suc k < length ks → ltb (get_or ks k 0) (get_or ks (suc k) 0) ≡ true) → rising low ks ≡ true
rises_on low [] first next = refl
rises_on low (x ∷ ks) first next =
    and_from (leb low x) (rising (suc x) ks) (le-leb low x (first (omega arith)))
    (rises_on (suc x) ks (λ h. omega (arith, ltb-true x (get_or ks 0 0) (next 0 (omega arith)))) (λ k h. next (suc k) (omega arith)))

rises_off : (low : ℕ) (ks : List ℕ) (k : ℕ) → suc k < length ks → ltb (get_or ks k 0) (get_or ks (suc k) 0) ≡ false → rising low ks ≡ false
rises_off low [] k h e = absurd (omega arith)
rises_off low (x ∷ []) k h e = absurd (omega arith)
rises_off low (x ∷ y ∷ ks) zero h e =
    ap (λ b. leb low x && (b && rising (suc y) ks)) (lt-leb (suc x) y (omega (arith, ltb-false x y e))) ∙ and-false (leb low x)
rises_off low (x ∷ y ∷ ks) (suc k) h e = ap (λ b. leb low x && b) (rises_off (suc x) (y ∷ ks) k (omega arith) e) ∙ and-false (leb low x)

pub rising_from_adjacent : (ks : List ℕ) (r : Bool) → IsAllAdjacentAnswer (λ x y b. b ≡ ltb x y) ks r → r ≡ rising 0 ks
rising_from_adjacent ks true h = sym (rises_on 0 ks (λ l. omega arith) (λ k l. ap (λ j. ltb (get_or ks k 0) (get_or ks j 0)) (sym (add-one k)) ∙ sym (h k 0 (omega arith))))
rising_from_adjacent ks false h =
    sym (rises_off 0 ks h.0 (omega (arith, h.1)) (ap (λ j. ltb (get_or ks h.0 0) (get_or ks j 0)) (sym (add-one h.0)) ∙ sym (h.2 0)))

pub rising_next : (low i : ℕ) (ks : List ℕ) → rising low ks ≡ true → suc i < length ks → get_or ks i 0 < get_or ks (suc i) 0
rising_next low i [] r h = absurd (omega arith)
rising_next low zero (x ∷ []) r h = absurd (omega arith)
rising_next low zero (x ∷ y ∷ ks) r h = leb-true (suc x) y (and_parts (leb (suc x) y) (rising (suc y) ks) (and_parts (leb low x) (rising (suc x) (y ∷ ks)) r).1).0
rising_next low (suc i) (x ∷ ks) r h = rising_next (suc x) i ks (and_parts (leb low x) (rising (suc x) ks) r).1 (omega arith)
