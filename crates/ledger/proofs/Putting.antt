-- Values written to the keys of a house, one key at a time.
use Rattle.std.proofs.Common.{◌≡◌, ℕ, zero, suc, ◌+◌, ◌/◌, ◌%◌, ◌<◌, ◌≤◌, Bool, true, false, cond, ◌||◌, eqb, leb, List, [], ◌∷◌, length, get_or, drop, set, sym, refl, ap, ◌∙◌, inl, inr, add-one, arith}
use Rattle.std.proofs.lemmas.List.{at_drop_more, get_or-set_same, get_or-set_other}
use Rattle.std.proofs.lemmas.Bool.{both_ways, and_parts, leb-true, ne_eqb, eq-eqb, eqb-true, cases_eq, cond_both}
use Rattle.orders.specs.Transaction.{lookup, is_in}
use Rattle.orders.specs.Valid.{rising}
use Rattle.ledger.specs.Own.{owns, slot_in}
use Rattle.ledger.proofs.Loading.{lookup_here, lookup_on}

-- a key below all of some rising keys has no value beside them
absent : (low k : ℕ) (xs vs : List ℕ) (d : ℕ) → k < low → rising low xs ≡ true → lookup xs vs k d ≡ d
absent low k [] vs d h r = refl
absent low k (x ∷ xs) [] d h r = refl
absent low k (x ∷ xs) (v ∷ vs) d h r =
    let p = and_parts (leb low x) (rising (suc x) xs) r in
    let le : low ≤ x = leb-true low x p.0 in
    ap (λ b. cond b v (lookup xs vs k d)) (ne_eqb k x (λ e. omega arith)) ∙ absent (suc x) k xs vs d (omega arith) p.1

rising_behind : (low i : ℕ) (ks : List ℕ) → i < length ks → rising low ks ≡ true → rising (suc (get_or ks i 0)) (drop (suc i) ks) ≡ true
rising_behind low i [] h r = absurd (omega arith)
rising_behind low zero (x ∷ xs) h r = (and_parts (leb low x) (rising (suc x) xs) r).1
rising_behind low (suc i) (x ∷ xs) h r = rising_behind (suc x) i xs (omega arith) (and_parts (leb low x) (rising (suc x) xs) r).1

-- two keys of a house with the same number within it are the same
apart : (h j k : ℕ) → owns h j ≡ true → owns h k ≡ true → (k ≡ j → ⊥) → k / 16 ≡ j / 16 → ⊥
apart h j k oj ok ne e =
    let a : j % 16 ≡ h = eqb-true (j % 16) h oj in
    let b : k % 16 ≡ h = eqb-true (k % 16) h ok in
    ne (omega arith)

-- what a write to a key of the house leaves in its keys
module _ (h j v : ℕ) (items : List ℕ) (within : j / 16 < length items) where
  pub slot_written : slot_in (set items (j / 16) v) j ≡ v
  slot_written = get_or-set_same items (j / 16) v 0 within

  pub slot_kept : (k : ℕ) → owns h j ≡ true → owns h k ≡ true → (k ≡ j → ⊥) → slot_in (set items (j / 16) v) k ≡ slot_in items k
  slot_kept k oj ok ne = get_or-set_other items (j / 16) (k / 16) v 0 (apart h j k oj ok ne)

-- one key more, overwritten if it is the house's own
module _ (h : ℕ) (ks vs items : List ℕ) (i j : ℕ) (in_keys : i < length ks) (in_values : i < length vs) (is : j ≡ get_or ks i 0) (rises : rising 0 ks ≡ true) (k : ℕ) (own : owns h k ≡ true) where
  behind : rising (suc j) (drop (i + 1) ks) ≡ true
  behind = ap (λ x. rising (suc x) (drop (i + 1) ks)) is ∙ ap (λ n. rising (suc (get_or ks i 0)) (drop n ks)) (add-one i) ∙ rising_behind 0 i ks in_keys rises

  pub put_more : owns h j ≡ true → j / 16 < length items →
      lookup (drop (i + 1) ks) (drop (i + 1) vs) k (slot_in (set items (j / 16) (get_or vs i 0)) k) ≡ lookup (drop i ks) (drop i vs) k (slot_in items k)
  put_more oj within =
      elim (cases_eq k j) [
        | inl e ↦
            absent (suc j) k (drop (i + 1) ks) (drop (i + 1) vs) (slot_in (set items (j / 16) (get_or vs i 0)) k) (omega arith) behind
            ∙ ap (slot_in (set items (j / 16) (get_or vs i 0))) e
            ∙ slot_written h j (get_or vs i 0) items within
            ∙ sym (lookup_here ks vs k (slot_in items k) i in_keys in_values (sym is ∙ sym e))
        | inr ne ↦
            ap (lookup (drop (i + 1) ks) (drop (i + 1) vs) k) (slot_kept h j (get_or vs i 0) items within k oj own ne)
            ∙ sym (lookup_on ks vs k (slot_in items k) i in_keys in_values (λ e. ne (sym (is ∙ e))))
      ]

  pub pass_more : owns h j ≡ false → lookup (drop (i + 1) ks) (drop (i + 1) vs) k (slot_in items k) ≡ lookup (drop i ks) (drop i vs) k (slot_in items k)
  pass_more nj = sym (lookup_on ks vs k (slot_in items k) i in_keys in_values (λ e. both_ways (owns h j) nj (ap (owns h) (is ∙ e) ∙ own)))

-- what was read over what was read is what was read
lookup_twice : (ks vs : List ℕ) (k d : ℕ) → lookup ks vs k (lookup ks vs k d) ≡ lookup ks vs k d
lookup_twice [] vs k d = refl
lookup_twice (x ∷ xs) [] k d = refl
lookup_twice (x ∷ xs) (v ∷ vs) k d = with_test (eqb k x) (lookup_twice xs vs k d)
  where
    with_test : (b : Bool) → lookup xs vs k (lookup xs vs k d) ≡ lookup xs vs k d → cond b v (lookup xs vs k (cond b v (lookup xs vs k d))) ≡ cond b v (lookup xs vs k d)
    with_test true e = refl
    with_test false e = e

-- what stood in a key, overwritten by what was read there if it is one of some keys
abbrev pub back : (ks reads vs : List ℕ) → ℕ → ℕ → ℕ
back ks reads vs k v = cond (is_in k ks) (lookup reads vs k v) v

module _ (h : ℕ) (ks reads vs items : List ℕ) (i j : ℕ) (in_keys : i < length ks) (is : j ≡ get_or ks i 0) (k : ℕ) (own : owns h k ≡ true) where
  back_at : (v : ℕ) → back (drop i ks) reads vs k v ≡ cond (eqb k j || is_in k (drop (i + 1) ks)) (lookup reads vs k v) v
  back_at v =
      at_drop_more (λ xs. back xs reads vs k v) ks i 0 in_keys
      ∙ ap (λ x. cond (eqb k x || is_in k (drop (i + 1) ks)) (lookup reads vs k v) v) (sym is)

  back_on : (v : ℕ) → (k ≡ j → ⊥) → back (drop i ks) reads vs k v ≡ back (drop (i + 1) ks) reads vs k v
  back_on v ne = back_at v ∙ ap (λ b. cond (b || is_in k (drop (i + 1) ks)) (lookup reads vs k v) v) (ne_eqb k j ne)

  back_here : (v : ℕ) → k ≡ j → back (drop i ks) reads vs k v ≡ lookup reads vs k v
  back_here v e = back_at v ∙ ap (λ b. cond (b || is_in k (drop (i + 1) ks)) (lookup reads vs k v) v) (eq-eqb k j e)

  pub back_more : (v : ℕ) → owns h j ≡ true → j / 16 < length items → v ≡ lookup reads vs j (slot_in items j) →
      back (drop (i + 1) ks) reads vs k (slot_in (set items (j / 16) v) k) ≡ back (drop i ks) reads vs k (slot_in items k)
  back_more v oj within was =
      elim (cases_eq k j) [
        | inl e ↦
            let now' : slot_in (set items (j / 16) v) k ≡ lookup reads vs k (slot_in items k) =
            ap (slot_in (set items (j / 16) v)) e ∙ slot_written h j v items within ∙ was ∙ ap (λ x. lookup reads vs x (slot_in items x)) (sym e) in
            ap (back (drop (i + 1) ks) reads vs k) now'
            ∙ cond_both (is_in k (drop (i + 1) ks)) (lookup reads vs k (lookup reads vs k (slot_in items k))) (lookup reads vs k (slot_in items k)) (λ x. x ≡ lookup reads vs k (slot_in items k))
            (λ _. lookup_twice reads vs k (slot_in items k)) (λ _. refl)
            ∙ sym (back_here (slot_in items k) e)
        | inr ne ↦ ap (back (drop (i + 1) ks) reads vs k) (slot_kept h j v items within k oj own ne) ∙ sym (back_on (slot_in items k) ne)
      ]

  pub back_pass : owns h j ≡ false → back (drop (i + 1) ks) reads vs k (slot_in items k) ≡ back (drop i ks) reads vs k (slot_in items k)
  back_pass nj = sym (back_on (slot_in items k) (λ e. both_ways (owns h j) nj (ap (owns h) (sym e) ∙ own)))
