-- Values read from and written to some keys, one key at a time.
use Rattle.std.proofs.Common.{◌≡◌, ℕ, zero, suc, ◌+◌, ◌<◌, ◌≤◌, true, cond, eqb, leb, List, [], ◌∷◌, length, get_or, drop, set, replicate, sym, refl, ap, ◌∙◌, ⊎_elim, add-one, arith}
use Rattle.std.proofs.lemmas.List.{at_drop_more, get_or-set_same, get_or-set_other}
use Rattle.std.proofs.lemmas.Bool.{and_parts, leb-true, cond-true, cond-false, ne_eqb, eq-eqb, cases_eq}
use Rattle.orders.specs.Transaction.{lookup}
use Rattle.orders.specs.Valid.{rising}

pub zeros : (n k : ℕ) → ◌≡◌ {A = ℕ} (get_or (replicate n 0) k 0) 0
zeros zero k = refl
zeros (suc n) zero = refl
zeros (suc n) (suc k) = zeros n k

-- keys that rise are each above those before
absent : (low k : ℕ) (xs vs : List ℕ) (d : ℕ) → k < low → rising low xs ≡ true → lookup xs vs k d ≡ d
absent low k [] vs d h r = refl
absent low k (x ∷ xs) [] d h r = refl
absent low k (x ∷ xs) (v ∷ vs) d h r =
    let p = and_parts (leb low x) (rising (suc x) xs) r in
    let le : low ≤ x = leb-true low x p.0 in
    ap (λ b. cond b v (lookup xs vs k d)) (ne_eqb k x (λ e. omega arith)) ∙ absent (suc x) k xs vs d (omega arith) p.1

rising_behind : (low i : ℕ) (ks : List ℕ) → i < length ks → rising low ks ≡ true → rising (suc (get_or ks i 0)) (drop (suc i) ks) ≡ true
rising_behind low i [] h r = absurd (omega arith)
rising_behind low zero (x ∷ xs) h r = (and_parts (leb low x) (rising (suc x) xs) r).1
rising_behind low (suc i) (x ∷ xs) h r = rising_behind (suc x) i xs (omega arith) (and_parts (leb low x) (rising (suc x) xs) r).1

-- one key more, overwritten: the key j at index i, by the value v
module _ (ks vs items : List ℕ) (i j v : ℕ) (in_keys : i < length ks) (in_values : i < length vs) (key : j ≡ get_or ks i 0) (value : v ≡ get_or vs i 0) (in_items : j < length items) (rises : rising 0 ks ≡ true) (k : ℕ) where
  -- what the later keys leave, where d stands
  abbrev later : ℕ → ℕ
  later d = lookup (drop (i + 1) ks) (drop (i + 1) vs) k d

  first_write : lookup (drop i ks) (drop i vs) k (get_or items k 0) ≡ cond (eqb k j) v (later (get_or items k 0))
  first_write =
      at_drop_more (λ xs. lookup xs (drop i vs) k (get_or items k 0)) ks i 0 in_keys
      ∙ at_drop_more (λ ys. lookup (get_or ks i 0 ∷ drop (i + 1) ks) ys k (get_or items k 0)) vs i 0 in_values
      ∙ cc

  behind : rising (suc j) (drop (i + 1) ks) ≡ true
  behind = ap (λ x. rising (suc x) (drop (i + 1) ks)) key ∙ ap (λ n. rising (suc (get_or ks i 0)) (drop n ks)) (add-one i) ∙ rising_behind 0 i ks in_keys rises

  pub write_more : (n : ℕ) → n ≡ i + 1 → lookup (drop n ks) (drop n vs) k (get_or (set items j v) k 0) ≡ lookup (drop i ks) (drop i vs) k (get_or items k 0)
  write_more n more = ap (λ m. lookup (drop m ks) (drop m vs) k (get_or (set items j v) k 0)) more ∙ ⊎_elim same other (cases_eq k j) ∙ sym first_write
    where
      same : k ≡ j → later (get_or (set items j v) k 0) ≡ cond (eqb k j) v (later (get_or items k 0))
      same e =
          absent (suc j) k (drop (i + 1) ks) (drop (i + 1) vs) (get_or (set items j v) k 0) (omega arith) behind
          ∙ ap (λ n. get_or (set items j v) n 0) e
          ∙ get_or-set_same items j v 0 in_items
          ∙ sym (cond-true _ _ _ (eq-eqb k j e))

      other : (k ≡ j → ⊥) → later (get_or (set items j v) k 0) ≡ cond (eqb k j) v (later (get_or items k 0))
      other ne = ap later (get_or-set_other items j k v 0 ne) ∙ sym (cond-false _ _ _ (ne_eqb k j ne))
