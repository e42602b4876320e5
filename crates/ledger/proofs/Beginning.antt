-- A ledger with no orders.
use Rattle.std.proofs.Common.{◌≡◌, ℕ, ◌/◌, Bool, true, false, cond, ◌&&◌, List, [], length, get_or, replicate, Some, None, vec_items, Option, sym, refl, ap, ◌∙◌, subst, inl, inr, arith}
use Rattle.std.proofs.lemmas.List.{get_or-replicate, get_or_past, length-replicate}
use Rattle.std.proofs.lemmas.Bool.{cases_lt}
use Rattle.orders.specs.Codec.{decoded}
use Rattle.orders.specs.Meaning.{transaction}
use Rattle.rows.specs.Lists.{rows_of}
use Rattle.turns.specs.State.{count_of, marks_of}
use Rattle.turns.specs.declared.entry.Mark.{Mark}
use Rattle.ledger.specs.Own.{owns, marks_for, alike_marks, marked, slot_count, slot_of, note_of}
use Rattle.ledger.specs.State.{Fresh, state_of, value_in, order_at, slots_at}
use Rattle.ledger.specs.declared.ledger.Ledger.{Ledger}
use Rattle.ledger.proofs.Growing.{unslotted}

-- no bytes are no order: they have no keys
no_marks : (h : ℕ) → marks_for h (transaction []) ≡ []
unfolding decoded
no_marks h = refl

no_slots : (h : ℕ) → slot_count h (transaction []) ≡ 0
unfolding decoded
no_slots h = refl

-- what a ledger keeps holds of none
module _ (h : ℕ) (os : List (List ℕ)) (ms : List (List Mark)) (ss : List (List (Option ℕ))) (ds ls : List Bool) (orders_are : os ≡ []) (marks_are : ms ≡ []) (slots_are : ss ≡ []) (done_is : ds ≡ []) (looked_is : ls ≡ []) where
  pub matched_at_first : (i : ℕ) → alike_marks (get_or ms i []) (marks_for h (transaction (get_or os i []))) ≡ true
  matched_at_first i = (λ j. alike_marks (get_or (marks_are j) i []) (marks_for h (transaction (get_or (orders_are j) i [])))) ∙ ap (alike_marks []) (no_marks h)

  pub wide_at_first : (i : ℕ) → length (get_or ss i []) ≡ slot_count h (transaction (get_or os i []))
  wide_at_first i = ap (λ l. length (get_or l i [])) slots_are ∙ sym (ap (λ l. slot_count h (transaction (get_or l i []))) orders_are ∙ no_slots h)

  pub seen_at_first : (i : ℕ) → get_or ds i false ≡ true → marked false (get_or ms i []) ≡ true → get_or ls i false ≡ true
  seen_at_first i d _ = ap (λ l. get_or l i false) looked_is ∙ sym (ap (λ l. get_or l i false) done_is) ∙ d

both_none : {A : Type 0} (b : Bool) (x : A) → cond b x x ≡ x
both_none true x = refl
both_none false x = refl

zeros : (n i : ℕ) → ◌≡◌ {A = ℕ} (get_or (replicate n 0) i 0) 0
zeros n i = elim (cases_lt i n) [ inl lt ↦ get_or-replicate n i 0 0 lt | inr ge ↦ get_or_past (replicate n 0) i 0 (omega (arith, length-replicate {A = ℕ} n 0)) ]

module _ (s : Ledger) (orders_are : rows_of s.orders ≡ []) (marks_are : rows_of s.turns.marks ≡ []) (slots_are : rows_of s.slots ≡ []) (done_is : vec_items s.turns.done ≡ []) (looked_is : vec_items s.looked ≡ []) (n : ℕ) (values_are : vec_items s.values.own ≡ replicate n 0) where
  none_had : count_of s.turns ≡ 0
  none_had = s.turns.done.ok.0 ∙ ap length done_is

  value_0 : (k : ℕ) → value_in s k ≡ 0
  value_0 k = ap (λ v. cond (owns s.owner.number k) v 0) (ap (λ l. get_or l (k / 16) 0) values_are ∙ zeros n (k / 16)) ∙ both_none (owns s.owner.number k) 0

  none_noted : (i : ℕ) → (state_of s).noted i ≡ None
  none_noted i = ap (λ l. cond (get_or l i false) (Some (note_of s.owner.number (order_at s i).reads (slots_at s i))) None) looked_is

  none_wrote : (i : ℕ) → (state_of s).wrote i ≡ false
  none_wrote i = ap (λ l. get_or l i false && marked true (marks_of s.turns i)) done_is

  none_heard : (i k : ℕ) → (state_of s).heard i k ≡ None
  none_heard i k = ap (cond (owns s.owner.number k) None) (ap (λ l. slot_of (order_at s i).reads (get_or l i []) k) slots_are ∙ unslotted (order_at s i).reads k) ∙ both_none (owns s.owner.number k) None

  pub fresh_at_first : Fresh s s.owner.number
  fresh_at_first =
      record {
        number_is = refl;
        orders_are = orders_are;
        marks_are = marks_are;
        done_is = done_is;
        slots_are = slots_are;
        looked_is = looked_is;
        state_is = λ j. record { have = none_had j; value = λ k. value_0 k j; noted = λ i. none_noted i j; synced = λ i. false; wrote = λ i. none_wrote i j; heard = λ i k. none_heard i k j; place = 0; saved = λ k. 0; copied = λ g. 0 };
      }

pub fresh_by : (s : Ledger) (h n : ℕ) → h ≡ n → Fresh s h → Fresh s n
fresh_by s h n = subst (Fresh s)
