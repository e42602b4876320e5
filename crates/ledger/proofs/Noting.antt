-- Laws of what a house notes, and of a ledger that has looked.
use Rattle.std.proofs.Common.{◌≡◌, ℕ, zero, suc, ◌+◌, ◌/◌, ◌%◌, ◌<◌, ◌≤◌, Bool, true, false, cond, not, ◌&&◌, ◌||◌, eqb, List, [], ◌∷◌, ◌++◌, map, length, get_or, take, set, is_some, Some, None, vec_items, vec_len, filter, Option, unwrap_or, sym, refl, ap, ◌∙◌, subst, add-one, arith}
use Rattle.std.proofs.lemmas.List.{length-map, length-take, map-append, append-nil, get_or-set_same, get_or-set_other}
use Rattle.std.proofs.lemmas.List.Elements.{filter_more}
use Rattle.std.proofs.lemmas.List.Sums.{length-filter, count_by-le-length}
use Rattle.std.proofs.lemmas.Bool.{both_ways, not-true, cond-true, cond-false, cond_both, eqb-true, eqb-false, ne_eqb, and_parts, and_right, or_right}
use Rattle.orders.specs.Codec.{decoded}
use Rattle.orders.specs.Contents.{Contents, nothing}
use Rattle.orders.specs.Meaning.{meaning_or, transaction}
use Rattle.orders.specs.Transaction.{Transaction}
use Rattle.protocol.specs.Log.{at}
use Rattle.protocol.specs.House.{House, base}
use Rattle.protocol.specs.Machine.{look, put, Act, looks}
use Rattle.rows.specs.Lists.{rows_of}
use Rattle.turns.specs.Marks.{ready}
use Rattle.turns.specs.State.{marks_of, done_of, count_of}
use Rattle.turns.specs.declared.entry.Mark.{Mark}
use Rattle.turns.specs.declared.turns.Turns.{Turns}
use Rattle.ledger.specs.Own.{owns, own_known, marks_for, marked, alike_marks, slot_count, slot_in, noting, note_of, slot_of}
use Rattle.ledger.specs.State.{contents_in, log_of, order_at, slots_at, looked_at, value_in, state_of, may_look, Steps, Looked}
use Rattle.ledger.specs.declared.ledger.Ledger.{Ledger}
use Rattle.ledger.proofs.Ties.{at_log, marks_are, marked_within, own_reads_is, reads_is, ready_to}

-- a row that is changed again
pub set_again : {X : Type 0} (rs : List (List X)) (i : ℕ) (r : List X) (f : List X → List X) → set (set rs i r) i (f (get_or (set rs i r) i [])) ≡ set rs i (f r)
set_again [] i r f = refl
set_again (x ∷ rs) zero r f = refl
set_again (x ∷ rs) (suc i) r f = ap (λ l. x ∷ l) (set_again rs i r f)

-- one key more
module _ (h : ℕ) (f : ℕ → ℕ) where
  noting_own_suc : (ks : List ℕ) (vs : List (Option ℕ)) (i : ℕ) → i < length ks → owns h (get_or ks i 0) ≡ true →
      noting h f (take (suc i) ks) vs ≡ set (noting h f (take i ks) vs) i (Some (f (get_or ks i 0)))
  noting_own_suc [] vs i l o = absurd (omega arith)
  noting_own_suc (k ∷ ks) [] zero l o = refl
  noting_own_suc (k ∷ ks) (v ∷ vs) zero l o = ap (λ w. w ∷ vs) (cond-true (owns h k) (Some (f k)) v o)
  noting_own_suc (k ∷ ks) [] (suc i) l o = refl
  noting_own_suc (k ∷ ks) (v ∷ vs) (suc i) l o = ap (λ l. cond (owns h k) (Some (f k)) v ∷ l) (noting_own_suc ks vs i (omega arith) o)

  noting_other_suc : (ks : List ℕ) (vs : List (Option ℕ)) (i : ℕ) → i < length ks → owns h (get_or ks i 0) ≡ false →
      noting h f (take (suc i) ks) vs ≡ noting h f (take i ks) vs
  noting_other_suc [] vs i l o = absurd (omega arith)
  noting_other_suc (k ∷ ks) [] zero l o = refl
  noting_other_suc (k ∷ ks) (v ∷ vs) zero l o = ap (λ w. w ∷ vs) (cond-false (owns h k) (Some (f k)) v o)
  noting_other_suc (k ∷ ks) [] (suc i) l o = refl
  noting_other_suc (k ∷ ks) (v ∷ vs) (suc i) l o = ap (λ l. cond (owns h k) (Some (f k)) v ∷ l) (noting_other_suc ks vs i (omega arith) o)

  -- the loop over the keys: what is in the note and in the rows after some of them
  module _ (ks : List ℕ) (rs : List (List (Option ℕ))) (at : ℕ) where
    abbrev pub NotedUpto : ℕ → List ℕ → List (List (Option ℕ)) → Type 0
    NotedUpto i ns rs' = (ns ≡ map f (filter (owns h) (take i ks))) × (rs' ≡ set rs at (noting h f (take i ks) (get_or rs at [])))

    -- how many there are by then
    pub noted_few : (i : ℕ) (ns : List ℕ) (rs' : List (List (Option ℕ))) → i < length ks → length ks ≤ 16 → NotedUpto i ns rs' → length ns < 16
    noted_few i ns rs' l few p =
        let e : length ns ≡ length (filter (owns h) (take i ks)) = ap length p.0 ∙ length-map (filter (owns h) (take i ks)) f in
        omega (arith, length-filter (owns h) (take i ks), count_by-le-length (owns h) (take i ks), length-take i ks)

    pub noted_own : (i v : ℕ) (ns ns' : List ℕ) (rs' rs'' : List (List (Option ℕ))) → i < length ks → owns h (get_or ks i 0) ≡ true → v ≡ f (get_or ks i 0) →
        ns' ≡ ns ++ v ∷ [] → rs'' ≡ set rs' at (set (get_or rs' at []) i (Some v)) → NotedUpto i ns rs' → NotedUpto (i + 1) ns' rs''
    noted_own i v ns ns' rs' rs'' l o e n r p =
        let k : ℕ = get_or ks i 0 in
        let kept : filter (owns h) (take (i + 1) ks) ≡ filter (owns h) (take i ks) ++ k ∷ [] =
        filter_more (owns h) ks i 0 l ∙ ap (λ l. filter (owns h) (take i ks) ++ l) (cond-true (owns h k) (k ∷ []) [] o) in (
          n ∙ ap (λ l. l ++ v ∷ []) p.0 ∙ ap (λ w. map f (filter (owns h) (take i ks)) ++ w ∷ []) e ∙ sym (map-append f (filter (owns h) (take i ks)) (k ∷ [])) ∙ ap (map f) (sym kept),
          r ∙ ap (λ l. set l at (set (get_or l at []) i (Some v))) p.1 ∙ set_again rs at (noting h f (take i ks) (get_or rs at [])) (λ l. set l i (Some v))
              ∙ ap (λ w. set rs at (set (noting h f (take i ks) (get_or rs at [])) i (Some w))) e
              ∙ ap (set rs at) (sym (noting_own_suc ks (get_or rs at []) i l o)) ∙ ap (λ n. set rs at (noting h f (take n ks) (get_or rs at []))) (sym (add-one i)),
        )

    pub noted_other : (i : ℕ) (ns ns' : List ℕ) (rs' rs'' : List (List (Option ℕ))) → i < length ks → owns h (get_or ks i 0) ≡ false →
        ns' ≡ ns → rs'' ≡ rs' → NotedUpto i ns rs' → NotedUpto (i + 1) ns' rs''
    noted_other i ns ns' rs' rs'' l o n r p =
        let k : ℕ = get_or ks i 0 in
        let kept : filter (owns h) (take (i + 1) ks) ≡ filter (owns h) (take i ks) =
        filter_more (owns h) ks i 0 l ∙ ap (λ l. filter (owns h) (take i ks) ++ l) (cond-false (owns h k) (k ∷ []) [] o) ∙ append-nil (filter (owns h) (take i ks)) in (
          n ∙ p.0 ∙ ap (map f) (sym kept),
          r ∙ p.1 ∙ ap (set rs at) (sym (noting_other_suc ks (get_or rs at []) i l o)) ∙ ap (λ n. set rs at (noting h f (take n ks) (get_or rs at []))) (sym (add-one i)),
        )

-- what is noted is the house's own values, and nothing else changes
module _ (h : ℕ) where
  pub length_noting : (f : ℕ → ℕ) (ks : List ℕ) (vs : List (Option ℕ)) → length (noting h f ks vs) ≡ length vs
  length_noting f [] vs = refl
  length_noting f (k ∷ ks) [] = refl
  length_noting f (k ∷ ks) (v ∷ vs) = ap suc (length_noting f ks vs)

  pub note_of_noting : (f : ℕ → ℕ) (ks : List ℕ) (vs : List (Option ℕ)) → length vs ≡ length ks → note_of h ks (noting h f ks vs) ≡ map f (filter (owns h) ks)
  note_of_noting f [] vs e = refl
  note_of_noting f (k ∷ ks) [] e = absurd (omega arith)
  note_of_noting f (k ∷ ks) (v ∷ vs) e = by (owns h k) (note_of_noting f ks vs (omega arith))
    where
      by : (b : Bool) → note_of h ks (noting h f ks vs) ≡ map f (filter (owns h) ks) →
          cond b (unwrap_or (cond b (Some (f k)) v) 0 ∷ note_of h ks (noting h f ks vs)) (note_of h ks (noting h f ks vs)) ≡ map f (cond b (k ∷ filter (owns h) ks) (filter (owns h) ks))
      by true e = ap (λ l. f k ∷ l) e
      by false e = e

  pub slot_of_noting : (f : ℕ → ℕ) (ks : List ℕ) (vs : List (Option ℕ)) (k : ℕ) → owns h k ≡ false → slot_of ks (noting h f ks vs) k ≡ slot_of ks vs k
  slot_of_noting f [] vs k o = refl
  slot_of_noting f (x ∷ ks) [] k o = refl
  slot_of_noting f (x ∷ ks) (v ∷ vs) k o =
      cond_both (eqb k x) (cond (owns h x) (Some (f x)) v) (slot_of ks (noting h f ks vs) k) (λ w. w ≡ cond (eqb k x) v (slot_of ks vs k))
      (λ q. cond-false (owns h x) (Some (f x)) v (ap (owns h) (sym (eqb-true k x q)) ∙ o) ∙ sym (cond-true (eqb k x) v (slot_of ks vs k) q))
      (λ q. slot_of_noting f ks vs k o ∙ sym (cond-false (eqb k x) v (slot_of ks vs k) q))

  pub own_known_noting : (f : ℕ → ℕ) (ks : List ℕ) (vs : List (Option ℕ)) → own_known h ks (noting h f ks vs) ≡ true
  own_known_noting f [] vs = refl
  own_known_noting f (k ∷ ks) [] = refl
  own_known_noting f (k ∷ ks) (v ∷ vs) = by (owns h k) (own_known_noting f ks vs)
    where
      by : (b : Bool) → own_known h ks (noting h f ks vs) ≡ true → (cond b (is_some (cond b (Some (f k)) v)) true && own_known h ks (noting h f ks vs)) ≡ true
      by true e = e
      by false e = e

  -- only the values of its own keys matter
  pub noting_agree : (f g : ℕ → ℕ) (ks : List ℕ) (vs : List (Option ℕ)) → ((k : ℕ) → owns h k ≡ true → f k ≡ g k) → noting h f ks vs ≡ noting h g ks vs
  noting_agree f g [] vs a = refl
  noting_agree f g (k ∷ ks) [] a = refl
  noting_agree f g (k ∷ ks) (v ∷ vs) a = by (owns h k) (a k) (noting_agree f g ks vs a)
    where
      by : (b : Bool) → (b ≡ true → f k ≡ g k) → noting h f ks vs ≡ noting h g ks vs → ◌≡◌ {A = List (Option ℕ)} (cond b (Some (f k)) v ∷ noting h f ks vs) (cond b (Some (g k)) v ∷ noting h g ks vs)
      by true e r = let q : f k ≡ g k = e refl in cc
      by false e r = ap (λ l. v ∷ l) r

  pub map_own_agree : (f g : ℕ → ℕ) (ks : List ℕ) → ((k : ℕ) → owns h k ≡ true → f k ≡ g k) → map f (filter (owns h) ks) ≡ map g (filter (owns h) ks)
  map_own_agree f g [] a = refl
  map_own_agree f g (k ∷ ks) a = by (owns h k) (a k) (map_own_agree f g ks a)
    where
      by : (b : Bool) → (b ≡ true → f k ≡ g k) → map f (filter (owns h) ks) ≡ map g (filter (owns h) ks) →
          map f (cond b (k ∷ filter (owns h) ks) (filter (owns h) ks)) ≡ map g (cond b (k ∷ filter (owns h) ks) (filter (owns h) ks))
      by true e r = let q : f k ≡ g k = e refl in cc
      by false e r = r

-- the keys that the code finds in an order's bytes
pub reads_in : (bs : List ℕ) → (contents_in bs).reads ≡ (transaction bs).reads
reads_in bs = by (decoded bs)
  where
    by : (o : Option Contents) → (unwrap_or o nothing).reads ≡ (meaning_or o).reads
    by None = refl
    by (Some c) = refl

-- an order that touches the house has a slot for each key that it reads
some_marks : (w : Bool) (ms : List Mark) → marked w ms ≡ true → length ms ≡ 0 → ⊥
some_marks w [] e z = both_ways false refl e
some_marks w (m ∷ ms) e z = omega arith

pub slots_full : (s : Ledger) (w : Bool) (i : ℕ) → marked w (marks_of s.turns i) ≡ true → length (slots_at s i) ≡ length (order_at s i).reads
slots_full s w i e =
    let n : ℕ = length (marks_for s.owner.number (order_at s i)) in
    s.wide i ∙ cond-false (eqb n 0) 0 (length (order_at s i).reads) (ne_eqb n 0 (some_marks w (marks_for s.owner.number (order_at s i)) (ap (marked w) (sym (marks_are s i)) ∙ e)))

-- a list changed at one place, place by place
pub at_set : {X : Type 0} (xs : List X) (i n : ℕ) (x d : X) → i < length xs → get_or (set xs i x) n d ≡ cond (eqb n i) x (get_or xs n d)
at_set xs i n x d l =
    cond_both (eqb n i) x (get_or xs n d) (λ y. get_or (set xs i x) n d ≡ y) (λ q. ap (λ m. get_or (set xs i x) m d) (eqb-true n i q) ∙ get_or-set_same xs i x d l)
    (λ q. get_or-set_other xs i n x d (eqb-false n i q))

pub same_count : (t t' : Turns) → t'.marks ≡ t.marks → count_of t' ≡ count_of t
same_count t t' e = t'.counted ∙ ap (λ m. length (rows_of m)) e ∙ sym t.counted

-- the state of a house, from what a ledger has
abbrev pub house_with : (h have : ℕ) (values : List ℕ) (looked : ℕ → Bool) (reads : ℕ → List ℕ) (slots : ℕ → List (Option ℕ)) (done writes : ℕ → Bool) → House
house_with h have values looked reads slots done writes =
    record {
      have = have;
      value = λ k. cond (owns h k) (get_or values (k / 16) 0) 0;
      noted = λ n. cond (looked n) (Some (note_of h (reads n) (slots n))) None;
      synced = λ n. false;
      wrote = λ n. done n && writes n;
      heard = λ n k. cond (owns h k) None (slot_of (reads n) (slots n) k);
      place = 0;
      saved = λ k. 0;
      copied = λ g. 0;
    }

-- an order that writes here stays as it is, and one that does not is done
module _ (s : Ledger) (i : ℕ) where
  abbrev pub OnceLooked : List Bool → Type 0
  OnceLooked ds = ds ≡ cond (marked true (marks_of s.turns i)) (vec_items s.turns.done) (set (vec_items s.turns.done) i true)

  pub looked_and_writes : true ≡ marked true (marks_of s.turns i) → OnceLooked (vec_items s.turns.done)
  looked_and_writes w = sym (cond-true (marked true (marks_of s.turns i)) (vec_items s.turns.done) (set (vec_items s.turns.done) i true) (sym w))

  pub looked_only : false ≡ marked true (marks_of s.turns i) → (ds : List Bool) → ds ≡ set (vec_items s.turns.done) i true → OnceLooked ds
  looked_only w ds e = e ∙ sym (cond-false (marked true (marks_of s.turns i)) (vec_items s.turns.done) (set (vec_items s.turns.done) i true) (sym w))

-- a ledger s that looks for the order at i
module _ (s : Ledger) (i : ℕ) (may : may_look s i ≡ true) where
  pub reads_here : marked false (marks_of s.turns i) ≡ true
  reads_here = (and_parts (marked false (marks_of s.turns i)) (not (looked_at s i) && ready (marks_of s.turns) (done_of s.turns) i) may).0

  not_looked : looked_at s i ≡ false
  not_looked =
      let p = and_parts (marked false (marks_of s.turns i)) (not (looked_at s i) && ready (marks_of s.turns) (done_of s.turns) i) may in
      not-true (looked_at s i) (and_parts (not (looked_at s i)) (ready (marks_of s.turns) (done_of s.turns) i) p.1).0

  is_ready : ready (marks_of s.turns) (done_of s.turns) i ≡ true
  is_ready =
      let p = and_parts (marked false (marks_of s.turns i)) (not (looked_at s i) && ready (marks_of s.turns) (done_of s.turns) i) may in
      (and_parts (not (looked_at s i)) (ready (marks_of s.turns) (done_of s.turns) i) p.1).1

  pub within : i < count_of s.turns
  within = marked_within s false i reads_here

  pub within_looked : i < vec_len s.looked
  within_looked = omega (arith, within, s.noted)

  looked_at_is : (n : ℕ) → get_or (set (vec_items s.looked) i true) n false ≡ cond (eqb n i) true (looked_at s n)
  looked_at_is n = at_set (vec_items s.looked) i n true false (omega (arith, within_looked, s.looked.ok.0))

  slots_at_is : (vs : List (Option ℕ)) (n : ℕ) → get_or (set (rows_of s.slots) i vs) n [] ≡ cond (eqb n i) vs (slots_at s n)
  slots_at_is vs n = at_set (rows_of s.slots) i n vs [] (omega (arith, within, s.slotted))

  -- what it notes
  abbrev row : List (Option ℕ)
  row = noting s.owner.number (value_in s) (order_at s i).reads (slots_at s i)

  pub wide_again : (rs : List (List (Option ℕ))) → rs ≡ set (rows_of s.slots) i row → (n : ℕ) → length (get_or rs n []) ≡ slot_count s.owner.number (order_at s n)
  wide_again rs e n = ap (λ l. length (get_or l n [])) e ∙ ap length (slots_at_is row n) ∙ cond_both (eqb n i) row (slots_at s n) (λ l. length l ≡ slot_count s.owner.number (order_at s n)) here (λ _. s.wide n)
    where
      here : eqb n i ≡ true → length row ≡ slot_count s.owner.number (order_at s n)
      here q = length_noting s.owner.number (value_in s) (order_at s i).reads (slots_at s i) ∙ s.wide i ∙ ap (λ m. slot_count s.owner.number (order_at s m)) (sym (eqb-true n i q))

  pub filled_again : (rs : List (List (Option ℕ))) → rs ≡ set (rows_of s.slots) i row → (n : ℕ) → get_or (set (vec_items s.looked) i true) n false ≡ true → own_known s.owner.number (order_at s n).reads (get_or rs n []) ≡ true
  filled_again rs e n l =
      ap (λ rs. own_known s.owner.number (order_at s n).reads (get_or rs n [])) e ∙ ap (own_known s.owner.number (order_at s n).reads) (slots_at_is row n)
      ∙ cond_both (eqb n i) row (slots_at s n) (λ vs. own_known s.owner.number (order_at s n).reads vs ≡ true)
      (λ q. ap (λ m. own_known s.owner.number (order_at s m).reads row) (eqb-true n i q) ∙ own_known_noting s.owner.number (value_in s) (order_at s i).reads (slots_at s i))
      (λ q. s.filled n (sym (cond-false (eqb n i) true (looked_at s n) q) ∙ sym (looked_at_is n) ∙ l))

  -- what was found in its values for the keys of the order
  module _ (ks xs : List ℕ) (keys_are : ks ≡ (order_at s i).reads) (values_are : xs ≡ vec_items s.values.own) where
    own_value : (k : ℕ) → owns s.owner.number k ≡ true → slot_in xs k ≡ value_in s k
    own_value k o = ap (λ l. slot_in l k) values_are ∙ sym (cond-true (owns s.owner.number k) (slot_in (vec_items s.values.own) k) 0 o)

    pub row_is : (rs : List (List (Option ℕ))) → rs ≡ set (rows_of s.slots) i (noting s.owner.number (λ k. slot_in xs k) ks (slots_at s i)) → rs ≡ set (rows_of s.slots) i row
    row_is rs e =
        e ∙ ap (set (rows_of s.slots) i) (noting_agree s.owner.number (λ k. slot_in xs k) (value_in s) ks (slots_at s i) own_value ∙ ap (λ l. noting s.owner.number (value_in s) l (slots_at s i)) keys_are)

    pub note_is : (ns : List ℕ) → ns ≡ map (λ k. slot_in xs k) (filter (owns s.owner.number) ks) → ns ≡ map (value_in s) (filter (owns s.owner.number) (order_at s i).reads)
    note_is ns e = e ∙ map_own_agree s.owner.number (λ k. slot_in xs k) (value_in s) ks own_value ∙ ap (λ l. map (value_in s) (filter (owns s.owner.number) l)) keys_are

  -- t: the turns after it, in which the order is done unless it writes here
  module _ (t : Turns) (same_marks : t.marks ≡ s.turns.marks) (done_is : OnceLooked s i (vec_items t.done)) where
    abbrev writes : Bool
    writes = marked true (marks_of s.turns i)

    done_at : (n : ℕ) → done_of t n ≡ cond writes (done_of s.turns n) (cond (eqb n i) true (done_of s.turns n))
    done_at n = ap (λ l. get_or l n false) done_is ∙ by writes
      where
        by : (w : Bool) → get_or (cond w (vec_items s.turns.done) (set (vec_items s.turns.done) i true)) n false ≡ cond w (done_of s.turns n) (cond (eqb n i) true (done_of s.turns n))
        by true = refl
        by false = at_set (vec_items s.turns.done) i n true false (omega (arith, within, s.turns.done.ok.0))

    done_elsewhere : (n : ℕ) → eqb n i ≡ false → done_of t n ≡ done_of s.turns n
    done_elsewhere n q = done_at n ∙ by writes
      where
        by : (w : Bool) → cond w (done_of s.turns n) (cond (eqb n i) true (done_of s.turns n)) ≡ done_of s.turns n
        by true = refl
        by false = cond-false (eqb n i) true (done_of s.turns n) q

    done_here : (n : ℕ) → eqb n i ≡ true → writes ≡ false → done_of t n ≡ true
    done_here n q e = done_at n ∙ cond-false writes (done_of s.turns n) (cond (eqb n i) true (done_of s.turns n)) e ∙ cond-true (eqb n i) true (done_of s.turns n) q

    marks_at : (n : ℕ) → marks_of t n ≡ marks_of s.turns n
    marks_at n = ap (λ m. get_or (rows_of m) n []) same_marks

    pub matched_again : (n : ℕ) → alike_marks (marks_of t n) (marks_for s.owner.number (order_at s n)) ≡ true
    matched_again n = ap (λ ms. alike_marks ms (marks_for s.owner.number (order_at s n))) (marks_at n) ∙ s.matched n

    pub seen_again : (n : ℕ) → done_of t n ≡ true → marked false (marks_of t n) ≡ true → get_or (set (vec_items s.looked) i true) n false ≡ true
    seen_again n d m =
        looked_at_is n ∙ cond_both (eqb n i) true (looked_at s n) (λ b. b ≡ true) (λ _. refl)
        (λ q. s.seen n (sym (done_elsewhere n q) ∙ d) (ap (marked false) (sym (marks_at n)) ∙ m))

    pub read_again : (n : ℕ) → n < vec_len s.looked → marked true (marks_of t n) ≡ false → done_of t n ≡ (not (marked false (marks_of t n)) || get_or (set (vec_items s.looked) i true) n false)
    read_again n l m =
        cond_both (eqb n i) true (looked_at s n) (λ b. done_of t n ≡ (not (marked false (marks_of t n)) || b))
        (λ q. done_here n q (ap (λ j. marked true (marks_of s.turns j)) (sym (eqb-true n i q)) ∙ ap (marked true) (sym (marks_at n)) ∙ m) ∙ sym (or_right (not (marked false (marks_of t n))) true refl))
        (λ q. done_elsewhere n q ∙ s.read n l (ap (marked true) (sym (marks_at n)) ∙ m) ∙ ap (λ ms. not (marked false ms) || looked_at s n) (sym (marks_at n)))
        ∙ ap (λ b. not (marked false (marks_of t n)) || b) (sym (looked_at_is n))

  -- s': the ledger after it
  module _ (s' : Ledger) (number_is : s'.owner.number ≡ s.owner.number) (orders_are : rows_of s'.orders ≡ rows_of s.orders) (same_marks : s'.turns.marks ≡ s.turns.marks)
      (done_is : OnceLooked s i (vec_items s'.turns.done))
      (slots_are : rows_of s'.slots ≡ set (rows_of s.slots) i row) (looked_is : vec_items s'.looked ≡ set (vec_items s.looked) i true) (values_are : vec_items s'.values.own ≡ vec_items s.values.own) where
    abbrev wr : ℕ → Bool
    wr n = marked true (marks_of s.turns n)

    abbrev done' : ℕ → Bool
    done' n = cond (wr i) (done_of s.turns n) (cond (eqb n i) true (done_of s.turns n))

    abbrev slots' : ℕ → List (Option ℕ)
    slots' n = cond (eqb n i) row (slots_at s n)

    abbrev looked' : ℕ → Bool
    looked' n = cond (eqb n i) true (looked_at s n)

    state_after : state_of s' ≡ house_with s.owner.number (count_of s.turns) (vec_items s.values.own) looked' (λ n. (order_at s n).reads) slots' done' wr
    state_after =
        let count = same_count s.turns s'.turns same_marks in
        let look_at : (n : ℕ) → looked_at s' n ≡ looked' n = λ n. ap (λ l. get_or l n false) looked_is ∙ looked_at_is n in
        let slot_at : (n : ℕ) → slots_at s' n ≡ slots' n = λ n. ap (λ l. get_or l n []) slots_are ∙ slots_at_is row n in
        let do_at : (n : ℕ) → done_of s'.turns n ≡ done' n = done_at s'.turns same_marks done_is in
        λ x. house_with (number_is x) (count x) (values_are x) (λ n. look_at n x) (λ n. (transaction (get_or (orders_are x) n [])).reads) (λ n. slot_at n x) (λ n. do_at n x)
        (λ n. marked true (get_or (rows_of (same_marks x)) n []))

    abbrev note : List ℕ
    note = map (value_in s) (filter (owns s.owner.number) (order_at s i).reads)

    noted_at : (n : ℕ) → put i (Some note) (state_of s).noted n ≡ cond (looked' n) (Some (note_of s.owner.number (order_at s n).reads (slots' n))) None
    noted_at n = by (eqb n i) (λ q. ap (λ m. note_of s.owner.number (order_at s m).reads row) (eqb-true n i q) ∙ note_of_noting s.owner.number (value_in s) (order_at s i).reads (slots_at s i) (slots_full s false i reads_here))
      where
        by : (b : Bool) → (b ≡ true → note_of s.owner.number (order_at s n).reads row ≡ note) →
            cond b (Some note) (cond (looked_at s n) (Some (note_of s.owner.number (order_at s n).reads (slots_at s n))) None)
            ≡ cond (cond b true (looked_at s n)) (Some (note_of s.owner.number (order_at s n).reads (cond b row (slots_at s n)))) None
        by true e = ap Some (sym (e refl))
        by false e = refl

    wrote_at : (n : ℕ) → (done_of s.turns n && wr n) ≡ (done' n && wr n)
    wrote_at n = by (wr i) refl (eqb n i) (λ q. eqb-true n i q)
      where
        by : (w : Bool) → wr i ≡ w → (b : Bool) → (b ≡ true → n ≡ i) → (done_of s.turns n && wr n) ≡ (cond w (done_of s.turns n) (cond b true (done_of s.turns n)) && wr n)
        by true e b q = refl
        by false e true q = let z : wr n ≡ false = ap wr (q refl) ∙ e in and_right (done_of s.turns n) (wr n) z ∙ sym z
        by false e false q = refl

    heard_at : (n k : ℕ) → (state_of s).heard n k ≡ cond (owns s.owner.number k) None (slot_of (order_at s n).reads (slots' n) k)
    heard_at n k = by (owns s.owner.number k) refl (eqb n i) (λ q. eqb-true n i q)
      where
        by : (o : Bool) → owns s.owner.number k ≡ o → (b : Bool) → (b ≡ true → n ≡ i) →
            cond o None (slot_of (order_at s n).reads (slots_at s n) k) ≡ cond o None (slot_of (order_at s n).reads (cond b row (slots_at s n)) k)
        by true e b q = refl
        by false e true q =
            ap (λ m. slot_of (order_at s m).reads (slots_at s m) k) (q refl) ∙ sym (slot_of_noting s.owner.number (value_in s) (order_at s i).reads (slots_at s i) k e)
            ∙ ap (λ m. slot_of (order_at s m).reads row k) (sym (q refl))
        by false e false q = refl

    -- the machine's step
    look_steps : Steps (look i) s s'
    look_steps more soup =
        let os : List Transaction = log_of s' ++ more in
        let own : ℕ → ℕ → ℕ = λ j k. k % 16 in
        let log : (j : ℕ) → j < count_of s.turns → at (log_of s' ++ more) j ≡ order_at s j =
        λ j l. at_log s' j (omega (arith, same_count s.turns s'.turns same_marks)) more ∙ ap (λ rs. transaction (get_or rs j [])) orders_are in
        let none : (state_of s).noted i ≡ None = cond-false (looked_at s i) (Some (note_of s.owner.number (order_at s i).reads (slots_at s i))) None not_looked in
        let keys = own_reads_is s os log i within in
        subst (λ t. Act (log_of s' ++ more) (base (log_of s' ++ more)) s.owner.number soup (look i) (state_of s) t [])
        ((λ x. record {
          have = count_of s.turns;
          value = value_in s;
          noted = λ n. (ap (λ ks. put i (Some (map (value_in s) ks)) (state_of s).noted n) keys ∙ noted_at n) x;
          synced = λ n. false;
          wrote = λ n. wrote_at n x;
          heard = λ n k. heard_at n k x;
          place = 0;
          saved = λ k. 0;
          copied = λ g. 0;
        })
        ∙ sym state_after)
        (looks (state_of s) i within (omega arith) (reads_is s os log i within ∙ reads_here) none (ready_to s os log i within is_ready))

    pub looked_from : (ns : List ℕ) → ns ≡ map (value_in s) (filter (owns s.owner.number) (order_at s i).reads) → Looked s s' i ns
    looked_from ns notes =
        record {
          may = may;
          steps = look_steps;
          notes = notes;
          kept = record { number_is = number_is; orders_are = orders_are; marks_are = same_marks };
          done_is = done_is;
          slots_are = slots_are;
          looked_is = looked_is;
          values_are = values_are;
        }
