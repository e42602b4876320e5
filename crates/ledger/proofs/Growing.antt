-- An order more in a ledger: what it says of the lists, of the machine's state, and what the ledger keeps.
--   Lists         the orders, their marks, which are done, their slots, which were noted
--   More h bs n   the order with the bytes bs came to the n orders of house h
use Rattle.std.proofs.Common.{◌≡◌, ℕ, zero, suc, ◌+◌, ◌/◌, ◌<◌, ◌≤◌, Bool, true, false, cond, not, ◌&&◌, ◌||◌, eqb, ◌⊎◌, List, [], ◌∷◌, ◌++◌, length, get_or, take, replicate, is_ok, IfErr, Some, None, Ok, Err, vec_items, Option, Result, sym, refl, ap, ◌∙◌, subst, inl, inr, arith, MatchResult}
use Rattle.std.specs.Option.{option_map}
use Rattle.std.specs.Result.{result_ok}
use Rattle.std.proofs.lemmas.List.{get_or_append_left, get_or_push, get_or_past, length_push, length-append, length-map, length-replicate, take-replicate}
use Rattle.std.proofs.lemmas.Bool.{cases_eq, cases_lt, eq-eqb, ne_eqb, both_ways, cond-true, cond-false}
use Rattle.orders.specs.Codec.{decoded}
use Rattle.orders.specs.Contents.{Contents, nothing}
use Rattle.orders.specs.Meaning.{transaction, meaning_or}
use Rattle.orders.specs.Transaction.{Transaction}
use Rattle.protocol.specs.House.{House, base}
use Rattle.protocol.specs.Machine.{grow, Act, grows}
use Rattle.rows.specs.Lists.{rows_of}
use Rattle.turns.specs.Queues.{both}
use Rattle.turns.specs.State as turns
use Rattle.turns.specs.State.{count_of}
use Rattle.turns.specs.declared.entry.Mark.{Mark}
use Rattle.turns.specs.declared.error.TurnsError.{TurnsError}
use Rattle.turns.specs.declared.error.TurnsError.TheVariants as errors
use Rattle.ledger.specs.Own.{owns, marks_for, own_marks, alike_marks, marked, slot_count, note_of, slot_of, own_known}
use Rattle.ledger.specs.Refusals.{of_turns}
use Rattle.ledger.specs.State.{Grown, log_of, state_of, value_in, looked_at, order_at, slots_at, RefusesOrder}
use Rattle.ledger.specs.declared.ledger.Ledger.{Ledger}
use Rattle.ledger.proofs.AlikeMarks.{alike_marks_refl}

-- what an order that was read from some bytes has for keys, malformed or not, is what the bytes mean
pub keys_meant : {X : Type 0} {Y : Type 0} (r : Result X Y) (bs : List ℕ) (c : Contents) → decoded bs ≡ option_map (λ _. c) (result_ok r) → IfErr r (λ _. c ≡ nothing) →
    ((transaction bs).reads ≡ c.reads) × ((transaction bs).writes ≡ c.writes)
keys_meant (Ok x) bs c is _ = (ap (λ o. (meaning_or o).reads) is, ap (λ o. (meaning_or o).writes) is)
keys_meant (Err y) bs c is empty = (ap (λ o. (meaning_or o).reads) is ∙ sym (ap (λ (d : Contents). d.reads) empty), ap (λ o. (meaning_or o).writes) is ∙ sym (ap (λ (d : Contents). d.writes) empty))

-- the marks of the order that was read are those that the bytes mean
pub marks_meant : (h : ℕ) (bs : List ℕ) (c : Contents) (row : List Mark) → ((transaction bs).reads ≡ c.reads) × ((transaction bs).writes ≡ c.writes) → row ≡ own_marks true h c.writes ++ own_marks false h c.reads →
    row ≡ marks_for h (transaction bs)
marks_meant h bs c row e is = is ∙ (λ i. own_marks true h (sym e.1 i) ++ own_marks false h (sym e.0 i))

-- and so is the number of its slots
pub width_meant : (h : ℕ) (bs : List ℕ) (c : Contents) (row : List Mark) (n w : ℕ) → (transaction bs).reads ≡ c.reads → row ≡ marks_for h (transaction bs) → length row ≡ n →
    ((n ≡ 0) × (w ≡ 0)) ⊎ ((n ≡ 0 → ⊥) × (w ≡ length c.reads)) → w ≡ slot_count h (transaction bs)
width_meant h bs c row n w reads is long way =
    let t : length (marks_for h (transaction bs)) ≡ n = ap length (sym is) ∙ long in
    let all = length (transaction bs).reads in
    elim way [
      | inl p ↦ p.1 ∙ sym (cond-true (eqb (length (marks_for h (transaction bs))) 0) 0 all (eq-eqb (length (marks_for h (transaction bs))) 0 (t ∙ p.0)))
      | inr p ↦ p.1 ∙ ap length (sym reads) ∙ sym (cond-false (eqb (length (marks_for h (transaction bs))) 0) 0 all (ne_eqb (length (marks_for h (transaction bs))) 0 (λ z. p.0 (sym t ∙ z))))
    ]

-- there was room for a row, so it is there now
pub row_pushed : {T : Type 0} {X : Type 0} {Y : Type 0} (r : Result X Y) (old mid new : List (List T)) (row : List T) → is_ok r ≡ true → MatchResult r (λ _. new ≡ mid ++ row ∷ []) (λ _. new ≡ mid) → mid ≡ old → new ≡ old ++ row ∷ []
row_pushed (Ok x) old mid new row ok p same = p ∙ ap (λ l. l ++ row ∷ []) same
row_pushed (Err y) old mid new row ok q same = absurd (both_ways false refl ok)

pub refused_by_turns : (e : TurnsError) (s : Ledger) (bs : List ℕ) → turns.Refuses e s.turns (marks_for s.owner.number (transaction bs)) → RefusesOrder (of_turns e) s bs
refused_by_turns errors.Full s bs r = r
refused_by_turns errors.Memory s bs r = (r.0, inr (inr (inr r.1)))

-- one element more
module _ {A : Type 0} (xs ys : List A) (y d : A) (n : ℕ) (len : length xs ≡ n) (is : ys ≡ xs ++ y ∷ []) where
  pub last_is : get_or ys n d ≡ y
  last_is = ap (λ l. get_or l n d) is ∙ get_or_push xs y d n len

  pub others_stay : (i : ℕ) → (i ≡ n → ⊥) → get_or ys i d ≡ get_or xs i d
  others_stay i ne =
      elim (cases_lt i n) [
        | inl lt ↦ ap (λ l. get_or l i d) is ∙ get_or_append_left xs (y ∷ []) d i (omega arith)
        | inr ge ↦
            let long : length (xs ++ y ∷ []) ≡ length xs + 1 = length_push xs y in
            ap (λ l. get_or l i d) is ∙ get_or_past (xs ++ y ∷ []) i d (omega arith) ∙ sym (get_or_past xs i d (omega arith))
      ]

  pub one_longer : length ys ≡ n + 1
  one_longer = ap length is ∙ length_push xs y ∙ ap (λ m. m + 1) len

-- a slot that nothing was told
unknown : (ks : List ℕ) (n k : ℕ) → slot_of ks (replicate n None) k ≡ None
unknown [] n k = refl
unknown (x ∷ ks) zero k = refl
unknown (x ∷ ks) (suc n) k = unheard (eqb k x) (slot_of ks (replicate n None) k) (unknown ks n k) where
  unheard : (b : Bool) (o : Option ℕ) → o ≡ None → cond b None o ≡ None
  unheard true o e = refl
  unheard false o e = e

pub unslotted : (ks : List ℕ) (k : ℕ) → slot_of ks [] k ≡ None
unslotted [] k = refl
unslotted (x ∷ ks) k = refl

more_than_none : (n : ℕ) → eqb (suc n) 0 ≡ false
more_than_none n = ne_eqb (suc n) 0 (λ e. omega arith)

-- an order that touches nothing is done at once: it wrote nothing, and there was nothing to note
idle_wrote : (ms : List Mark) → (eqb (length ms) 0 && marked true ms) ≡ false
idle_wrote [] = refl
idle_wrote (m ∷ ms) = ap (λ t. t && marked true (m ∷ ms)) (more_than_none (length ms))

idle_seen : (ms : List Mark) → eqb (length ms) 0 ≡ true → marked false ms ≡ true → false ≡ true
idle_seen [] e m = m
idle_seen (x ∷ ms) e m = sym (more_than_none (length ms)) ∙ e

idle_read : (ms : List Mark) → marked true ms ≡ false → eqb (length ms) 0 ≡ (not (marked false ms) || false)
idle_read [] e = refl
idle_read (m ∷ ms) e = more_than_none (length ms) ∙ reads_it m.writes (marked true ms) (marked false ms) e where
  reads_it : (w t f : Bool) → (both true w || t) ≡ false → false ≡ (not (both false w || f) || false)
  reads_it true t f e = absurd (both_ways true e refl)
  reads_it false t f e = refl

pub record Lists : Type 0 where
  pub orders : List (List ℕ)
  pub marks : List (List Mark)
  pub done : List Bool
  pub slots : List (List (Option ℕ))
  pub looked : List Bool

pub record More (h : ℕ) (bs : List ℕ) (n : ℕ) (a b : Lists) : Type 0 where
  pub orders_long : length a.orders ≡ n
  pub marks_long : length a.marks ≡ n
  pub done_long : length a.done ≡ n
  pub slots_long : length a.slots ≡ n
  pub looked_long : length a.looked ≡ n
  pub orders_are : b.orders ≡ a.orders ++ bs ∷ []
  pub marks_are : b.marks ≡ a.marks ++ marks_for h (transaction bs) ∷ []
  pub done_is : b.done ≡ a.done ++ eqb (length (marks_for h (transaction bs))) 0 ∷ []
  pub slots_are : b.slots ≡ a.slots ++ replicate (slot_count h (transaction bs)) None ∷ []
  pub looked_is : b.looked ≡ a.looked ++ false ∷ []

module _ (h : ℕ) (bs : List ℕ) (n : ℕ) (a b : Lists) (m : More h bs n a b) where
  order_here : get_or b.orders n [] ≡ bs
  order_here = last_is a.orders b.orders bs [] n m.orders_long m.orders_are

  marks_here : get_or b.marks n [] ≡ marks_for h (transaction bs)
  marks_here = last_is a.marks b.marks (marks_for h (transaction bs)) [] n m.marks_long m.marks_are

  done_here : get_or b.done n false ≡ eqb (length (marks_for h (transaction bs))) 0
  done_here = last_is a.done b.done (eqb (length (marks_for h (transaction bs))) 0) false n m.done_long m.done_is

  slots_here : get_or b.slots n [] ≡ replicate (slot_count h (transaction bs)) None
  slots_here = last_is a.slots b.slots (replicate (slot_count h (transaction bs)) None) [] n m.slots_long m.slots_are

  looked_here : get_or b.looked n false ≡ false
  looked_here = last_is a.looked b.looked false false n m.looked_long m.looked_is

  module _ (i : ℕ) (ne : i ≡ n → ⊥) where
    order_else : get_or b.orders i [] ≡ get_or a.orders i []
    order_else = others_stay a.orders b.orders bs [] n m.orders_long m.orders_are i ne

    marks_else : get_or b.marks i [] ≡ get_or a.marks i []
    marks_else = others_stay a.marks b.marks (marks_for h (transaction bs)) [] n m.marks_long m.marks_are i ne

    done_else : get_or b.done i false ≡ get_or a.done i false
    done_else = others_stay a.done b.done (eqb (length (marks_for h (transaction bs))) 0) false n m.done_long m.done_is i ne

    slots_else : get_or b.slots i [] ≡ get_or a.slots i []
    slots_else = others_stay a.slots b.slots (replicate (slot_count h (transaction bs)) None) [] n m.slots_long m.slots_are i ne

    looked_else : get_or b.looked i false ≡ get_or a.looked i false
    looked_else = others_stay a.looked b.looked false false n m.looked_long m.looked_is i ne

  -- what holds at each place, of the new one and of the others
  at_each : (P : ℕ → Type 0) → P n → ((i : ℕ) → (i ≡ n → ⊥) → P i) → (i : ℕ) → P i
  at_each P here else i = elim (cases_eq i n) [ inl e ↦ subst P (sym e) here | inr ne ↦ else i ne ]

  pub matched_grown : ((i : ℕ) → alike_marks (get_or a.marks i []) (marks_for h (transaction (get_or a.orders i []))) ≡ true) →
      (i : ℕ) → alike_marks (get_or b.marks i []) (marks_for h (transaction (get_or b.orders i []))) ≡ true
  matched_grown old =
      at_each (λ i. alike_marks (get_or b.marks i []) (marks_for h (transaction (get_or b.orders i []))) ≡ true)
      ((λ j. alike_marks (marks_here j) (marks_for h (transaction (order_here j)))) ∙ alike_marks_refl (marks_for h (transaction bs)))
      (λ i ne. (λ j. alike_marks (marks_else i ne j) (marks_for h (transaction (order_else i ne j)))) ∙ old i)

  pub wide_grown : ((i : ℕ) → length (get_or a.slots i []) ≡ slot_count h (transaction (get_or a.orders i []))) →
      (i : ℕ) → length (get_or b.slots i []) ≡ slot_count h (transaction (get_or b.orders i []))
  wide_grown old =
      at_each (λ i. length (get_or b.slots i []) ≡ slot_count h (transaction (get_or b.orders i [])))
      (ap length slots_here ∙ length-replicate (slot_count h (transaction bs)) None ∙ ap (λ o. slot_count h (transaction o)) (sym order_here))
      (λ i ne. ap length (slots_else i ne) ∙ old i ∙ ap (λ o. slot_count h (transaction o)) (sym (order_else i ne)))

  pub seen_grown : ((i : ℕ) → get_or a.done i false ≡ true → marked false (get_or a.marks i []) ≡ true → get_or a.looked i false ≡ true) →
      (i : ℕ) → get_or b.done i false ≡ true → marked false (get_or b.marks i []) ≡ true → get_or b.looked i false ≡ true
  seen_grown old =
      at_each (λ i. get_or b.done i false ≡ true → marked false (get_or b.marks i []) ≡ true → get_or b.looked i false ≡ true)
      (λ d r. looked_here ∙ idle_seen (marks_for h (transaction bs)) (sym done_here ∙ d) (ap (marked false) (sym marks_here) ∙ r))
      (λ i ne d r. looked_else i ne ∙ old i (sym (done_else i ne) ∙ d) (ap (marked false) (sym (marks_else i ne)) ∙ r))

  pub filled_grown : ((i : ℕ) → get_or a.looked i false ≡ true → own_known h (transaction (get_or a.orders i [])).reads (get_or a.slots i []) ≡ true) →
      (i : ℕ) → get_or b.looked i false ≡ true → own_known h (transaction (get_or b.orders i [])).reads (get_or b.slots i []) ≡ true
  filled_grown old =
      at_each (λ i. get_or b.looked i false ≡ true → own_known h (transaction (get_or b.orders i [])).reads (get_or b.slots i []) ≡ true)
      (λ l. absurd (both_ways (get_or b.looked n false) looked_here l))
      (λ i ne l. (λ x. own_known h (transaction (order_else i ne x)).reads (slots_else i ne x)) ∙ old i (sym (looked_else i ne) ∙ l))

  pub read_grown : (p q : ℕ) → p ≡ n → q ≡ n + 1 →
      ((i : ℕ) → i < p → marked true (get_or a.marks i []) ≡ false → get_or a.done i false ≡ (not (marked false (get_or a.marks i [])) || get_or a.looked i false)) →
      (i : ℕ) → i < q → marked true (get_or b.marks i []) ≡ false → get_or b.done i false ≡ (not (marked false (get_or b.marks i [])) || get_or b.looked i false)
  read_grown p q p-is q-is old =
      at_each (λ i. i < q → marked true (get_or b.marks i []) ≡ false → get_or b.done i false ≡ (not (marked false (get_or b.marks i [])) || get_or b.looked i false))
      (λ _ w. done_here ∙ idle_read (marks_for h (transaction bs)) (ap (marked true) (sym marks_here) ∙ w) ∙ sym (λ j. not (marked false (marks_here j)) || looked_here j))
      (λ i ne lt w. done_else i ne ∙ old i (omega arith) (ap (marked true) (sym (marks_else i ne)) ∙ w) ∙ sym (λ j. not (marked false (marks_else i ne j)) || looked_else i ne j))

  pub noted_grown : (i : ℕ) →
      cond (get_or a.looked i false) (Some (note_of h (transaction (get_or a.orders i [])).reads (get_or a.slots i []))) None
      ≡ cond (get_or b.looked i false) (Some (note_of h (transaction (get_or b.orders i [])).reads (get_or b.slots i []))) None
  noted_grown =
      at_each (λ i. cond (get_or a.looked i false) (Some (note_of h (transaction (get_or a.orders i [])).reads (get_or a.slots i []))) None
      ≡ cond (get_or b.looked i false) (Some (note_of h (transaction (get_or b.orders i [])).reads (get_or b.slots i []))) None)
      (ap (λ t. cond t (Some (note_of h (transaction (get_or a.orders n [])).reads (get_or a.slots n []))) None) (get_or_past a.looked n false (omega (arith, m.looked_long)))
      ∙ sym (ap (λ t. cond t (Some (note_of h (transaction (get_or b.orders n [])).reads (get_or b.slots n []))) None) looked_here))
      (λ i ne. sym (λ j. cond (looked_else i ne j) (Some (note_of h (transaction (order_else i ne j)).reads (slots_else i ne j))) None))

  pub wrote_grown : (i : ℕ) → (get_or a.done i false && marked true (get_or a.marks i [])) ≡ (get_or b.done i false && marked true (get_or b.marks i []))
  wrote_grown =
      at_each (λ i. (get_or a.done i false && marked true (get_or a.marks i [])) ≡ (get_or b.done i false && marked true (get_or b.marks i [])))
      (ap (λ t. t && marked true (get_or a.marks n [])) (get_or_past a.done n false (omega (arith, m.done_long)))
      ∙ sym ((λ j. done_here j && marked true (marks_here j)) ∙ idle_wrote (marks_for h (transaction bs))))
      (λ i ne. sym (λ j. done_else i ne j && marked true (marks_else i ne j)))

  pub heard_grown : (i k : ℕ) →
      cond (owns h k) None (slot_of (transaction (get_or a.orders i [])).reads (get_or a.slots i []) k)
      ≡ cond (owns h k) None (slot_of (transaction (get_or b.orders i [])).reads (get_or b.slots i []) k)
  heard_grown =
      at_each (λ i. (k : ℕ) → cond (owns h k) None (slot_of (transaction (get_or a.orders i [])).reads (get_or a.slots i []) k)
      ≡ cond (owns h k) None (slot_of (transaction (get_or b.orders i [])).reads (get_or b.slots i []) k))
      (λ k. ap (λ o. cond (owns h k) None o)
      (ap (λ s. slot_of (transaction (get_or a.orders n [])).reads s k) (get_or_past a.slots n [] (omega (arith, m.slots_long)))
      ∙ unslotted (transaction (get_or a.orders n [])).reads k
      ∙ sym (ap (λ s. slot_of (transaction (get_or b.orders n [])).reads s k) slots_here ∙ unknown (transaction (get_or b.orders n [])).reads (slot_count h (transaction bs)) k)))
      (λ i ne k. sym (λ j. cond (owns h k) None (slot_of (transaction (order_else i ne j)).reads (slots_else i ne j) k)))

abbrev pub lists_of : Ledger → Lists
lists_of s = record { orders = rows_of s.orders; marks = rows_of s.turns.marks; done = vec_items s.turns.done; slots = rows_of s.slots; looked = vec_items s.looked }

-- an order that was read, and where its marks and its slots come from
--   keys       its keys are those that the bytes mean
--   row        its marks, of which there are n
--   w          how many slots it has
pub record Taken (s : Ledger) (bs : List ℕ) (row : List Mark) (n w : ℕ) : Type 0 where
  pub order : Contents
  pub keys : ((transaction bs).reads ≡ order.reads) × ((transaction bs).writes ≡ order.writes)
  pub row_is : row ≡ own_marks true s.owner.number order.writes ++ own_marks false s.owner.number order.reads
  pub row_long : length row ≡ n
  pub way : ((n ≡ 0) × (w ≡ 0)) ⊎ ((n ≡ 0 → ⊥) × (w ≡ length order.reads))
  pub few : w ≤ 16

abbrev pub none : ℕ → List (Option ℕ)
none w = take w (replicate 16 None)

module _ (s : Ledger) (bs : List ℕ) (row : List Mark) (n w : ℕ) (t : Taken s bs row n w) where
  pub row_meant : row ≡ marks_for s.owner.number (transaction bs)
  row_meant = marks_meant s.owner.number bs t.order row t.keys t.row_is

  none_is : none w ≡ replicate w None
  none_is = take-replicate w 16 None t.few

  pub none_long : length (none w) ≡ w
  none_long = ap length none_is ∙ length-replicate w None

  pub more_from : (b : Lists) → b.orders ≡ rows_of s.orders ++ bs ∷ [] → b.marks ≡ rows_of s.turns.marks ++ row ∷ [] → b.done ≡ vec_items s.turns.done ++ eqb (length row) 0 ∷ [] →
      b.slots ≡ rows_of s.slots ++ none w ∷ [] → b.looked ≡ vec_items s.looked ++ false ∷ [] → More s.owner.number bs (count_of s.turns) (lists_of s) b
  more_from b orders_are marks_are done_is slots_are looked_is =
      record {
        orders_long = s.ordered;
        marks_long = sym s.turns.counted;
        done_long = sym s.turns.done.ok.0;
        slots_long = s.slotted;
        looked_long = sym s.looked.ok.0 ∙ s.noted;
        orders_are = orders_are;
        marks_are = marks_are ∙ ap (λ r. rows_of s.turns.marks ++ r ∷ []) row_meant;
        done_is = done_is ∙ ap (λ (r : List Mark). vec_items s.turns.done ++ eqb (length r) 0 ∷ []) row_meant;
        slots_are = slots_are ∙ ap (λ r. rows_of s.slots ++ r ∷ []) (none_is ∙ ap (λ m. replicate m None) (width_meant s.owner.number bs t.order row n w t.keys.0 row_meant t.row_long t.way));
        looked_is = looked_is;
      }

-- the machine's step, and all that differs
module _ (s s' : Ledger) (bs : List ℕ) (m : More s.owner.number bs (count_of s.turns) (lists_of s) (lists_of s')) (number_is : s'.owner.number ≡ s.owner.number) (values_are : vec_items s'.values.own ≡ vec_items s.values.own) where
  count_grown : suc (count_of s.turns) ≡ count_of s'.turns
  count_grown =
      let e : length (vec_items s'.turns.done) ≡ count_of s.turns + 1 = one_longer (vec_items s.turns.done) (vec_items s'.turns.done) (eqb (length (marks_for s.owner.number (transaction bs))) 0) false (count_of s.turns) m.done_long m.done_is in
      let l = s'.turns.done.ok.0 in
      omega arith

  value_grown : (k : ℕ) → value_in s k ≡ value_in s' k
  value_grown k = sym (λ j. cond (owns (number_is j) k) (get_or (values_are j) (k / 16) 0) 0)

  state_grown : ◌≡◌ {A = House} (record { have = suc (count_of s.turns); value = value_in s; noted = (state_of s).noted; synced = λ i. false; wrote = (state_of s).wrote; heard = (state_of s).heard; place = 0; saved = λ k. 0; copied = λ g. 0 }) (state_of s')
  state_grown =
      let h = s.owner.number in
      let noted' : (h' : ℕ) (i : ℕ) → Option (List ℕ) = λ h' i. cond (looked_at s' i) (Some (note_of h' (order_at s' i).reads (slots_at s' i))) None in
      let heard' : (h' : ℕ) (i k : ℕ) → Option ℕ = λ h' i k. cond (owns h' k) None (slot_of (order_at s' i).reads (slots_at s' i) k) in
      let n : (i : ℕ) → (state_of s).noted i ≡ (state_of s').noted i = λ i. noted_grown h bs (count_of s.turns) (lists_of s) (lists_of s') m i ∙ ap (λ g. noted' g i) (sym number_is) in
      let w : (i : ℕ) → (state_of s).wrote i ≡ (state_of s').wrote i = λ i. wrote_grown h bs (count_of s.turns) (lists_of s) (lists_of s') m i in
      let e : (i k : ℕ) → (state_of s).heard i k ≡ (state_of s').heard i k = λ i k. heard_grown h bs (count_of s.turns) (lists_of s) (lists_of s') m i k ∙ ap (λ g. heard' g i k) (sym number_is) in
      λ j. record {
        have = count_grown j;
        value = λ k. value_grown k j;
        noted = λ i. n i j;
        synced = λ i. false;
        wrote = λ i. w i j;
        heard = λ i k. e i k j;
        place = 0;
        saved = λ k. 0;
        copied = λ g. 0;
      }

  log_grown : (more : List Transaction) → count_of s.turns < length (log_of s' ++ more)
  log_grown more =
      let o : length (rows_of s'.orders) ≡ count_of s.turns + 1 = one_longer (rows_of s.orders) (rows_of s'.orders) bs [] (count_of s.turns) m.orders_long m.orders_are in
      let p : length (log_of s' ++ more) ≡ length (log_of s') + length more = length-append (log_of s') more in
      let q : length (log_of s') ≡ length (rows_of s'.orders) = length-map (rows_of s'.orders) transaction in
      omega arith

  pub grown : Grown s s' bs
  grown =
      record {
        steps = λ more soup. subst (λ t. Act (log_of s' ++ more) (base (log_of s' ++ more)) s.owner.number soup grow (state_of s) t []) state_grown (grows (state_of s) (log_grown more));
        number_is = number_is;
        orders_are = m.orders_are;
        marks_are = m.marks_are;
        done_is = m.done_is;
        slots_are = m.slots_are;
        looked_is = m.looked_is;
        values_are = values_are;
      }

-- what the ledger keeps
module _ (s : Ledger) (bs : List ℕ) (b : Lists) (m : More s.owner.number bs (count_of s.turns) (lists_of s) b) where
  pub orders_longer : length b.orders ≡ count_of s.turns + 1
  orders_longer = one_longer (rows_of s.orders) b.orders bs [] (count_of s.turns) m.orders_long m.orders_are

  pub done_longer : length b.done ≡ count_of s.turns + 1
  done_longer = one_longer (vec_items s.turns.done) b.done (eqb (length (marks_for s.owner.number (transaction bs))) 0) false (count_of s.turns) m.done_long m.done_is

  pub slots_longer : length b.slots ≡ count_of s.turns + 1
  slots_longer = one_longer (rows_of s.slots) b.slots (replicate (slot_count s.owner.number (transaction bs)) None) [] (count_of s.turns) m.slots_long m.slots_are

  pub looked_longer : length b.looked ≡ count_of s.turns + 1
  looked_longer = one_longer (vec_items s.looked) b.looked false false (count_of s.turns) m.looked_long m.looked_is
