-- Laws of what a house is told, and of a ledger that has heard.
use Rattle.std.proofs.Common.{◌≡◌, ℕ, suc, ◌+◌, ◌%◌, ◌<◌, ◌≤◌, Bool, true, false, cond, ◌&&◌, ◌||◌, eqb, List, [], ◌∷◌, ◌++◌, length, get_or, drop, set, is_some, Some, None, vec_items, filter, Option, unwrap_or, sym, refl, ap, ◌∙◌, subst, inl, inr, arith}
use Rattle.std.specs.List.{ContainsAt as Has, find, zip, enumerate_from}
use Rattle.std.specs.Option.{MatchOption, option_map}
use Rattle.std.proofs.lemmas.List.{at_drop_more, append-nil, append_assoc, set_at, set_past, length_push}
use Rattle.std.proofs.lemmas.Bool.{both_ways, cond-true, cond-false, cond_both, eqb-true, eqb-false, ne_eqb, or_from, cases_Bool}
use Rattle.orders.specs.Meaning.{transaction}
use Rattle.orders.specs.Transaction.{Transaction, lookup, is_in}
use Rattle.protocol.specs.Log.{at, own_reads}
use Rattle.protocol.specs.House.{base}
use Rattle.protocol.specs.Machine.{Message, told, hear, hears, Act, hears_told}
use Rattle.rows.specs.Lists.{rows_of}
use Rattle.turns.specs.State.{marks_of, done_of, count_of}
use Rattle.ledger.specs.Own.{owns, own_known, own_count, marked, slot_count, telling, told as told_by, note_of, slot_of}
use Rattle.ledger.specs.State.{log_of, order_at, slots_at, looked_at, value_in, state_of, Wanted, Needless, Heard}
use Rattle.ledger.specs.declared.ledger.Ledger.{Ledger}
use Rattle.ledger.proofs.Noting.{set_again, at_set, slots_full, house_with}
use Rattle.ledger.proofs.Ties.{at_log, own_reads_of}

-- whether a house has told before: what is found first among its keys
abbrev pub told_in : Option (ℕ × Option ℕ) → Bool
told_in None = false
told_in (Some p) = is_some p.1

pub told_found : (h : ℕ) (ks : List ℕ) (vs : List (Option ℕ)) → told_in (find (λ (p : ℕ × Option ℕ). owns h p.0) (zip ks vs)) ≡ told_by h ks vs
told_found h [] vs = refl
told_found h (k ∷ ks) [] = refl
told_found h (k ∷ ks) (v ∷ vs) = by (owns h k) (told_found h ks vs)
  where
    by : (b : Bool) → told_in (find (λ (p : ℕ × Option ℕ). owns h p.0) (zip ks vs)) ≡ told_by h ks vs →
        told_in (cond b (Some (k, v)) (find (λ (p : ℕ × Option ℕ). owns h p.0) (zip ks vs))) ≡ cond b (is_some v) (told_by h ks vs)
    by true e = refl
    by false e = e

pub told_from : {A : Type 0} (o : Option A) (v : A → ℕ × Option ℕ) (Q : A → Type 0) (r : Bool) → MatchOption o (r ≡ false) Q → ((x : A) → Q x → r ≡ is_some (v x).1) → r ≡ told_in (option_map v o)
told_from None v Q r m q = m
told_from (Some x) v Q r m q = q x m

-- the values of a house beside its keys, each with its place, and what putting them there leaves
abbrev pub own_from : ℕ → ℕ → List ℕ → List (ℕ × ℕ)
own_from g n ks = filter (λ (p : ℕ × ℕ). owns g p.1) (enumerate_from n ks)

abbrev pub paired : ℕ → List ℕ → List ℕ → List ((ℕ × ℕ) × ℕ)
paired g ks ns = zip (own_from g 0 ks) ns

abbrev pub put_all : List ((ℕ × ℕ) × ℕ) → List (Option ℕ) → List (Option ℕ)
put_all [] vs = vs
put_all (p ∷ ps) vs = put_all ps (set vs p.0.0 (Some p.1))

-- the loop over them: one value more
module _ (rs rs' : List (List (Option ℕ))) (at : ℕ) (ps : List ((ℕ × ℕ) × ℕ)) (i n : ℕ) (p : (ℕ × ℕ) × ℕ) where
  pub put_turn : i < length ps → p ≡ get_or ps i p → n ≡ i + 1 → rs' ≡ set rs at (set (get_or rs at []) p.0.0 (Some p.1)) →
      set rs' at (put_all (drop n ps) (get_or rs' at [])) ≡ set rs at (put_all (drop i ps) (get_or rs at []))
  put_turn l is e r =
      let row = set (get_or rs at []) p.0.0 (Some p.1) in
      (λ x. set (r x) at (put_all (drop (e x) ps) (get_or (r x) at [])))
      ∙ set_again rs at row (put_all (drop (i + 1) ps))
      ∙ ap (λ q. set rs at (put_all (q ∷ drop (i + 1) ps) (get_or rs at []))) is
      ∙ sym (at_drop_more (λ qs. set rs at (put_all qs (get_or rs at []))) ps i p l)

module _ (g : ℕ) where
  telling_none : (ks : List ℕ) (vs : List (Option ℕ)) → telling g ks [] vs ≡ vs
  telling_none [] vs = refl
  telling_none (k ∷ ks) [] = refl
  telling_none (k ∷ ks) (v ∷ vs) = refl

  -- what the first key does
  telling_first_own : (k n : ℕ) (ks ns : List ℕ) (v : Option ℕ) (vs : List (Option ℕ)) → owns g k ≡ true → telling g (k ∷ ks) (n ∷ ns) (v ∷ vs) ≡ Some n ∷ telling g ks ns vs
  telling_first_own k n ks ns v vs o = cond-true (owns g k) (Some n ∷ telling g ks ns vs) (v ∷ telling g ks (n ∷ ns) vs) o

  telling_first_other : (k : ℕ) (ks ns : List ℕ) (v : Option ℕ) (vs : List (Option ℕ)) → owns g k ≡ false → telling g (k ∷ ks) ns (v ∷ vs) ≡ v ∷ telling g ks ns vs
  telling_first_other k ks [] v vs o = ap (λ l. v ∷ l) (sym (telling_none ks vs))
  telling_first_other k ks (n ∷ ns) v vs o = cond-false (owns g k) (Some n ∷ telling g ks ns vs) (v ∷ telling g ks (n ∷ ns) vs) o

  count_own : (k : ℕ) (ks : List ℕ) → owns g k ≡ true → own_count g (k ∷ ks) ≡ suc (own_count g ks)
  count_own k ks o = cond-true (owns g k) (suc (own_count g ks)) (own_count g ks) o

  count_other : (k : ℕ) (ks : List ℕ) → owns g k ≡ false → own_count g (k ∷ ks) ≡ own_count g ks
  count_other k ks o = cond-false (owns g k) (suc (own_count g ks)) (own_count g ks) o

  zip_none : (xs : List (ℕ × ℕ)) → ◌≡◌ {A = List ((ℕ × ℕ) × ℕ)} (zip xs []) []
  zip_none [] = refl
  zip_none (x ∷ xs) = refl

  own_first : (n k : ℕ) (ks : List ℕ) → owns g k ≡ true → own_from g n (k ∷ ks) ≡ (n, k) ∷ own_from g (n + 1) ks
  own_first n k ks o = cond-true (owns g k) ((n, k) ∷ own_from g (n + 1) ks) (own_from g (n + 1) ks) o

  own_later : (n k : ℕ) (ks : List ℕ) → owns g k ≡ false → own_from g n (k ∷ ks) ≡ own_from g (n + 1) ks
  own_later n k ks o = cond-false (owns g k) ((n, k) ∷ own_from g (n + 1) ks) (own_from g (n + 1) ks) o

  -- no slot is changed behind the last
  put_past : (n : ℕ) (ks ns : List ℕ) (vs : List (Option ℕ)) → length vs ≤ n → put_all (zip (own_from g n ks) ns) vs ≡ vs
  put_past n [] ns vs l = refl
  put_past n (k ∷ ks) ns vs l =
      elim (cases_Bool (owns g k)) [
        | inl y ↦ ap (λ ps. put_all (zip ps ns) vs) (own_first n k ks y) ∙ here (λ ms. put_past (n + 1) ks ms vs (omega arith)) ns
        | inr y ↦ ap (λ ps. put_all (zip ps ns) vs) (own_later n k ks y) ∙ put_past (n + 1) ks ns vs (omega arith)
      ]
    where
      here : ((ns : List ℕ) → put_all (zip (own_from g (n + 1) ks) ns) vs ≡ vs) → (ns : List ℕ) → put_all (zip ((n, k) ∷ own_from g (n + 1) ks) ns) vs ≡ vs
      here rest [] = refl
      here rest (m ∷ ns) = ap (put_all (zip (own_from g (n + 1) ks) ns)) (set_past vs n (Some m) l) ∙ rest ns

  -- pre: the slots before
  put_from : (n : ℕ) (ks ns : List ℕ) (pre vs : List (Option ℕ)) → length pre ≡ n → put_all (zip (own_from g n ks) ns) (pre ++ vs) ≡ pre ++ telling g ks ns vs
  put_from n [] ns pre vs l = refl
  put_from n (k ∷ ks) ns pre [] l = put_past n (k ∷ ks) ns (pre ++ []) (omega (arith, ap length (append-nil pre)))
  put_from n (k ∷ ks) [] pre (v ∷ vs) l = ap (λ ps. put_all ps (pre ++ v ∷ vs)) (zip_none (own_from g n (k ∷ ks)))
  put_from n (k ∷ ks) (m ∷ ns) pre (v ∷ vs) l =
      elim (cases_Bool (owns g k)) [
        | inl y ↦
            ap (λ ps. put_all (zip ps (m ∷ ns)) (pre ++ v ∷ vs)) (own_first n k ks y)
            ∙ ap (put_all (zip (own_from g (n + 1) ks) ns)) (set_at pre v vs (Some m) n l ∙ sym (append_assoc pre (Some m ∷ []) vs))
            ∙ put_from (n + 1) ks ns (pre ++ Some m ∷ []) vs (omega (arith, length_push pre (Some m)))
            ∙ append_assoc pre (Some m ∷ []) (telling g ks ns vs)
            ∙ ap (λ l. pre ++ l) (sym (telling_first_own k m ks ns v vs y))
        | inr y ↦
            ap (λ ps. put_all (zip ps (m ∷ ns)) (pre ++ v ∷ vs)) (own_later n k ks y)
            ∙ ap (put_all (zip (own_from g (n + 1) ks) (m ∷ ns))) (sym (append_assoc pre (v ∷ []) vs))
            ∙ put_from (n + 1) ks (m ∷ ns) (pre ++ v ∷ []) vs (omega (arith, length_push pre v))
            ∙ append_assoc pre (v ∷ []) (telling g ks (m ∷ ns) vs)
            ∙ ap (λ l. pre ++ l) (sym (telling_first_other k ks (m ∷ ns) v vs y))
      ]

  pub put_told : (ks ns : List ℕ) (vs : List (Option ℕ)) → put_all (paired g ks ns) vs ≡ telling g ks ns vs
  put_told ks ns vs = put_from 0 ks ns [] vs refl

  pub length_telling : (ks ns : List ℕ) (vs : List (Option ℕ)) → length (telling g ks ns vs) ≡ length vs
  length_telling [] ns vs = refl
  length_telling (k ∷ ks) ns [] = refl
  length_telling (k ∷ ks) [] (v ∷ vs) = refl
  length_telling (k ∷ ks) (n ∷ ns) (v ∷ vs) = by (owns g k) (length_telling ks ns vs) (length_telling ks (n ∷ ns) vs)
    where
      by : (b : Bool) → length (telling g ks ns vs) ≡ length vs → length (telling g ks (n ∷ ns) vs) ≡ length vs →
          length (cond b (Some n ∷ telling g ks ns vs) (v ∷ telling g ks (n ∷ ns) vs)) ≡ suc (length vs)
      by true a b = ap suc a
      by false a b = ap suc b

  -- another house's own part stays as it was
  pub other_house : (h k : ℕ) → (g ≡ h → ⊥) → owns g k ≡ true → owns h k ≡ false
  other_house h k d o = ne_eqb (k % 16) h (λ e. d (sym (eqb-true (k % 16) g o) ∙ e))

  pub note_of_telling : (h : ℕ) → (g ≡ h → ⊥) → (ks ns : List ℕ) (vs : List (Option ℕ)) → note_of h ks (telling g ks ns vs) ≡ note_of h ks vs
  note_of_telling h d [] ns vs = refl
  note_of_telling h d (k ∷ ks) ns [] = refl
  note_of_telling h d (k ∷ ks) [] (v ∷ vs) = refl
  note_of_telling h d (k ∷ ks) (n ∷ ns) (v ∷ vs) =
      elim (cases_Bool (owns g k)) [
        | inl y ↦
            let z : owns h k ≡ false = other_house h k d y in
            ap (note_of h (k ∷ ks)) (telling_first_own k n ks ns v vs y) ∙ cond-false (owns h k) (n ∷ note_of h ks (telling g ks ns vs)) (note_of h ks (telling g ks ns vs)) z
            ∙ note_of_telling h d ks ns vs ∙ sym (cond-false (owns h k) (unwrap_or v 0 ∷ note_of h ks vs) (note_of h ks vs) z)
        | inr y ↦
            ap (note_of h (k ∷ ks)) (telling_first_other k ks (n ∷ ns) v vs y) ∙ ap (λ l. cond (owns h k) (unwrap_or v 0 ∷ l) l) (note_of_telling h d ks (n ∷ ns) vs)
      ]

  pub own_known_telling : (h : ℕ) → (g ≡ h → ⊥) → (ks ns : List ℕ) (vs : List (Option ℕ)) → own_known h ks (telling g ks ns vs) ≡ own_known h ks vs
  own_known_telling h d [] ns vs = refl
  own_known_telling h d (k ∷ ks) ns [] = refl
  own_known_telling h d (k ∷ ks) [] (v ∷ vs) = refl
  own_known_telling h d (k ∷ ks) (n ∷ ns) (v ∷ vs) =
      elim (cases_Bool (owns g k)) [
        | inl y ↦
            let z : owns h k ≡ false = other_house h k d y in
            ap (own_known h (k ∷ ks)) (telling_first_own k n ks ns v vs y) ∙ ap (λ b. cond b true true && own_known h ks (telling g ks ns vs)) z
            ∙ own_known_telling h d ks ns vs ∙ ap (λ b. cond b (is_some v) true && own_known h ks vs) (sym z)
        | inr y ↦
            ap (own_known h (k ∷ ks)) (telling_first_other k ks (n ∷ ns) v vs y) ∙ ap (λ l. cond (owns h k) (is_some v) true && l) (own_known_telling h d ks (n ∷ ns) vs)
      ]

  -- no other house's key is among its own
  pub not_among : (ks : List ℕ) (k : ℕ) → owns g k ≡ false → is_in k (filter (owns g) ks) ≡ false
  not_among [] k o = refl
  not_among (x ∷ ks) k o =
      cond_both (owns g x) (x ∷ filter (owns g) ks) (filter (owns g) ks) (λ l. is_in k l ≡ false)
      (λ y. or_from (eqb k x) (is_in k (filter (owns g) ks)) (ne_eqb k x (λ e. both_ways (owns g k) o (ap (owns g) e ∙ y))) (not_among ks k o)) (λ _. not_among ks k o)

  -- what is found under a key: what was told of it, or what was there
  pub slot_of_telling : (ks ns : List ℕ) (vs : List (Option ℕ)) (k : ℕ) → length ns ≡ own_count g ks → length vs ≡ length ks →
      slot_of ks (telling g ks ns vs) k ≡ cond (is_in k (filter (owns g) ks)) (Some (lookup (filter (owns g) ks) ns k 0)) (slot_of ks vs k)
  slot_of_telling [] ns vs k c w = refl
  slot_of_telling (x ∷ ks) ns [] k c w = absurd (omega arith)
  slot_of_telling (x ∷ ks) ns (v ∷ vs) k c w =
      elim (cases_Bool (owns g x)) [
        | inl y ↦ own y ns c (λ ns e. slot_of_telling ks ns vs k e (omega arith))
        | inr y ↦
            ap (λ l. slot_of (x ∷ ks) l k) (telling_first_other x ks ns v vs y)
            ∙ ap (cond (eqb k x) v) (slot_of_telling ks ns vs k (c ∙ count_other x ks y) (omega arith))
            ∙ foreign (eqb k x) (is_in k (filter (owns g) ks)) (λ q. not_among ks k (ap (owns g) (eqb-true k x q) ∙ y))
            ∙ ap (λ l. cond (is_in k l) (Some (lookup l ns k 0)) (cond (eqb k x) v (slot_of ks vs k))) (sym (cond-false (owns g x) (x ∷ filter (owns g) ks) (filter (owns g) ks) y))
      ]
    where
      foreign : (b j : Bool) → (b ≡ true → j ≡ false) →
          cond b v (cond j (Some (lookup (filter (owns g) ks) ns k 0)) (slot_of ks vs k)) ≡ cond j (Some (lookup (filter (owns g) ks) ns k 0)) (cond b v (slot_of ks vs k))
      foreign true j e = sym (cond-false j (Some (lookup (filter (owns g) ks) ns k 0)) v (e refl))
      foreign false j e = refl

      first : (n : ℕ) (ns : List ℕ) (b : Bool) → slot_of ks (telling g ks ns vs) k ≡ cond (is_in k (filter (owns g) ks)) (Some (lookup (filter (owns g) ks) ns k 0)) (slot_of ks vs k) →
          cond b (Some n) (slot_of ks (telling g ks ns vs) k) ≡ cond (b || is_in k (filter (owns g) ks)) (Some (cond b n (lookup (filter (owns g) ks) ns k 0))) (cond b v (slot_of ks vs k))
      first n ns true e = refl
      first n ns false e = e

      own : owns g x ≡ true → (ns : List ℕ) → length ns ≡ own_count g (x ∷ ks) →
          ((ns : List ℕ) → length ns ≡ own_count g ks → slot_of ks (telling g ks ns vs) k ≡ cond (is_in k (filter (owns g) ks)) (Some (lookup (filter (owns g) ks) ns k 0)) (slot_of ks vs k)) →
          slot_of (x ∷ ks) (telling g (x ∷ ks) ns (v ∷ vs)) k ≡ cond (is_in k (filter (owns g) (x ∷ ks))) (Some (lookup (filter (owns g) (x ∷ ks)) ns k 0)) (slot_of (x ∷ ks) (v ∷ vs) k)
      own y [] c rest = absurd (omega (arith, count_own x ks y))
      own y (n ∷ ns) c rest =
          ap (λ l. slot_of (x ∷ ks) l k) (telling_first_own x n ks ns v vs y)
          ∙ first n ns (eqb k x) (rest ns (omega (arith, count_own x ks y)))
          ∙ ap (λ l. cond (is_in k l) (Some (lookup l (n ∷ ns) k 0)) (cond (eqb k x) v (slot_of ks vs k))) (sym (cond-true (owns g x) (x ∷ filter (owns g) ks) (filter (owns g) ks) y))

-- what the tests of a call come to: nothing makes it needless
pub needed_from : (s : Ledger) (g i : ℕ) (ns ks : List ℕ) (vs : List (Option ℕ)) → (g ≡ s.owner.number → ⊥) → marked true (marks_of s.turns i) ≡ true → eqb (length ns) 0 ≡ false → told_by g ks vs ≡ false →
    ks ≡ (order_at s i).reads → vs ≡ slots_at s i → Needless s g i (length ns) → ⊥
needed_from s g i ns ks vs o w n t k v (inl e) = o e
needed_from s g i ns ks vs o w n t k v (inr (inl e)) = both_ways (marked true (marks_of s.turns i)) e w
needed_from s g i ns ks vs o w n t k v (inr (inr (inl e))) = eqb-false (length ns) 0 n e
needed_from s g i ns ks vs o w n t k v (inr (inr (inr e))) = both_ways (told_by g (order_at s i).reads (slots_at s i)) ((λ x. told_by g (sym k x) (sym v x)) ∙ t) e

-- a ledger s that hears what house g tells for the order at i, and has need of it
module _ (s : Ledger) (g i : ℕ) (ns : List ℕ) (wanted : Wanted s g i (length ns)) (needed : Needless s g i (length ns) → ⊥) where
  other : g ≡ s.owner.number → ⊥
  other e = needed (inl e)

  writes_here : marked true (marks_of s.turns i) ≡ true
  writes_here =
      elim (cases_Bool (marked true (marks_of s.turns i))) [
        | inl e ↦ e
        | inr e ↦ absurd (needed (inr (inl e)))
      ]

  -- what it has then of the values that the order reads
  abbrev row : List (Option ℕ)
  row = telling g (order_at s i).reads ns (slots_at s i)

  slots_at_is : (n : ℕ) → get_or (set (rows_of s.slots) i row) n [] ≡ cond (eqb n i) row (slots_at s n)
  slots_at_is n = at_set (rows_of s.slots) i n row [] (omega (arith, wanted.within, s.slotted))

  pub wide_after : (rs : List (List (Option ℕ))) → rs ≡ set (rows_of s.slots) i row → (n : ℕ) → length (get_or rs n []) ≡ slot_count s.owner.number (order_at s n)
  wide_after rs e n = ap (λ l. length (get_or l n [])) e ∙ ap length (slots_at_is n) ∙ cond_both (eqb n i) row (slots_at s n) (λ l. length l ≡ slot_count s.owner.number (order_at s n)) here (λ _. s.wide n)
    where
      here : eqb n i ≡ true → length row ≡ slot_count s.owner.number (order_at s n)
      here q = length_telling g (order_at s i).reads ns (slots_at s i) ∙ s.wide i ∙ ap (λ m. slot_count s.owner.number (order_at s m)) (sym (eqb-true n i q))

  pub filled_after : (rs : List (List (Option ℕ))) → rs ≡ set (rows_of s.slots) i row → (n : ℕ) → looked_at s n ≡ true → own_known s.owner.number (order_at s n).reads (get_or rs n []) ≡ true
  filled_after rs e n l =
      ap (λ rs. own_known s.owner.number (order_at s n).reads (get_or rs n [])) e ∙ ap (own_known s.owner.number (order_at s n).reads) (slots_at_is n)
      ∙ cond_both (eqb n i) row (slots_at s n) (λ vs. own_known s.owner.number (order_at s n).reads vs ≡ true) here (λ _. s.filled n l)
    where
      here : eqb n i ≡ true → own_known s.owner.number (order_at s n).reads row ≡ true
      here q =
          let m : n ≡ i = eqb-true n i q in
          ap (λ m. own_known s.owner.number (order_at s m).reads row) m ∙ own_known_telling g s.owner.number other (order_at s i).reads ns (slots_at s i) ∙ s.filled i (ap (looked_at s) (sym m) ∙ l)

  -- s': the ledger after it
  module _ (s' : Ledger) (number_is : s'.owner.number ≡ s.owner.number) (orders_are : rows_of s'.orders ≡ rows_of s.orders) (turns_are : s'.turns ≡ s.turns)
      (slots_are : rows_of s'.slots ≡ set (rows_of s.slots) i row) (looked_is : vec_items s'.looked ≡ vec_items s.looked) (values_are : vec_items s'.values.own ≡ vec_items s.values.own) where
    abbrev slots' : ℕ → List (Option ℕ)
    slots' n = cond (eqb n i) row (slots_at s n)

    state_after : state_of s' ≡ house_with s.owner.number (count_of s.turns) (vec_items s.values.own) (looked_at s) (λ n. (order_at s n).reads) slots' (done_of s.turns) (λ n. marked true (marks_of s.turns n))
    state_after =
        let slot_at : (n : ℕ) → slots_at s' n ≡ slots' n = λ n. ap (λ l. get_or l n []) slots_are ∙ slots_at_is n in
        λ x. house_with (number_is x) (count_of (turns_are x)) (values_are x) (λ n. get_or (looked_is x) n false) (λ n. (transaction (get_or (orders_are x) n [])).reads) (λ n. slot_at n x)
        (done_of (turns_are x)) (λ n. marked true (marks_of (turns_are x) n))

    noted_at : (n : ℕ) → (state_of s).noted n ≡ cond (looked_at s n) (Some (note_of s.owner.number (order_at s n).reads (slots' n))) None
    noted_at n = ap (λ l. cond (looked_at s n) (Some l) None) (by (eqb n i) (λ q. eqb-true n i q))
      where
        by : (b : Bool) → (b ≡ true → n ≡ i) → note_of s.owner.number (order_at s n).reads (slots_at s n) ≡ note_of s.owner.number (order_at s n).reads (cond b row (slots_at s n))
        by true q =
            ap (λ m. note_of s.owner.number (order_at s m).reads (slots_at s m)) (q refl) ∙ sym (note_of_telling g s.owner.number other (order_at s i).reads ns (slots_at s i))
            ∙ ap (λ m. note_of s.owner.number (order_at s m).reads row) (sym (q refl))
        by false q = refl

    abbrev keys : List ℕ
    keys = filter (owns g) (order_at s i).reads

    abbrev heard' : ℕ → ℕ → Option ℕ
    heard' n k = cond (owns s.owner.number k) None (slot_of (order_at s n).reads (slots' n) k)

    heard_here : (k : ℕ) → cond (owns s.owner.number k) None (slot_of (order_at s i).reads row k) ≡ hears keys ns ((state_of s).heard i) k
    heard_here k = by (owns s.owner.number k) refl
      where
        by : (o : Bool) → owns s.owner.number k ≡ o →
            cond o None (slot_of (order_at s i).reads row k) ≡ cond (is_in k keys) (Some (lookup keys ns k 0)) (cond o None (slot_of (order_at s i).reads (slots_at s i) k))
        by true e =
            let z : owns g k ≡ false = ne_eqb (k % 16) g (λ q. other (sym q ∙ eqb-true (k % 16) s.owner.number e)) in
            sym (cond-false (is_in k keys) (Some (lookup keys ns k 0)) None (not_among g (order_at s i).reads k z))
        by false e = slot_of_telling g (order_at s i).reads ns (slots_at s i) k wanted.counted (slots_full s true i writes_here)

    heard_at : (ks : List ℕ) → ks ≡ keys → (n k : ℕ) → heard' n k ≡ cond (eqb n i) (hears ks ns ((state_of s).heard i) k) ((state_of s).heard n k)
    heard_at ks e n k = by (eqb n i) (λ q. eqb-true n i q) ∙ ap (λ l. cond (eqb n i) (hears l ns ((state_of s).heard i) k) ((state_of s).heard n k)) (sym e)
      where
        by : (b : Bool) → (b ≡ true → n ≡ i) →
            cond (owns s.owner.number k) None (slot_of (order_at s n).reads (cond b row (slots_at s n)) k) ≡ cond b (hears keys ns ((state_of s).heard i) k) ((state_of s).heard n k)
        by true q = ap (λ m. cond (owns s.owner.number k) None (slot_of (order_at s m).reads row k)) (q refl) ∙ heard_here k
        by false q = refl

    -- the machine's step
    hear_steps : (more : List Transaction) (soup : List Message) → Has soup (told g i ns) →
        Act (log_of s' ++ more) (base (log_of s' ++ more)) s.owner.number soup (hear (told g i ns)) (state_of s) (state_of s') []
    hear_steps more soup has =
        let os : List Transaction = log_of s' ++ more in
        let log : (j : ℕ) → j < count_of s.turns → at (log_of s' ++ more) j ≡ order_at s j =
        λ j l. at_log s' j (subst (λ t. j < count_of t) (sym turns_are) l) more ∙ ap (λ rs. transaction (get_or rs j [])) orders_are in
        subst (λ t. Act (log_of s' ++ more) (base (log_of s' ++ more)) s.owner.number soup (hear (told g i ns)) (state_of s) t [])
        ((λ x. record {
          have = count_of s.turns;
          value = value_in s;
          noted = λ n. noted_at n x;
          synced = λ n. false;
          wrote = (state_of s).wrote;
          heard = heard';
          place = 0;
          saved = λ k. 0;
          copied = λ g. 0;
        })
        ∙ sym state_after)
        (hears_told (state_of s) g i ns heard' has wanted.within (heard_at (own_reads os (λ j k. k % 16) g i) (own_reads_of s os log g i wanted.within)))

    pub heard_from : Heard s s' g i ns
    heard_from =
        record {
          wanted = wanted;
          needed = needed;
          steps = hear_steps;
          kept = record { number_is = number_is; orders_are = orders_are; marks_are = ap (λ t. t.marks) turns_are };
          turns_are = turns_are;
          slots_are = slots_are;
          looked_is = looked_is;
          values_are = values_are;
        }

pub heard_by : (s s' : Ledger) (g h i : ℕ) (ns : List ℕ) → g ≡ h → Heard s s' g i ns → Heard s s' h i ns
heard_by s s' g h i ns e = subst (λ x. Heard s s' x i ns) e
