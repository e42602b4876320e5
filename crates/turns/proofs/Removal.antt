-- Laws of a queue from which the entries of a place are taken.
use Rattle.std.proofs.Common.{◌≡◌, ℕ, zero, suc, ◌+◌, ◌<◌, ◌≤◌, Bool, true, false, cond, not, eqb, leb, ltb, List, [], ◌∷◌, length, drop, get_or, Some, None, Option, MatchOption, subst, sym, refl, ap, ◌∙◌, inl, inr, arith}
use Rattle.std.specs.Bool.{then_some}
use Rattle.std.specs.List.{position_or_len, remove}
use Rattle.std.proofs.lemmas.Option.{none-some}
use Rattle.std.proofs.lemmas.Bool.{cases_eq, cases_lt, lt-ltb, le-ltb, le-leb, lt-leb, ltb-false, eq-eqb, ne_eqb, cond-true, cond-false}
use Rattle.turns.specs.Queues.{without, without_from}
use Rattle.turns.specs.declared.entry.Entry.{Entry}

module _ (i : ℕ) where
  abbrev reaches : Entry → Bool
  reaches e = leb i e.place

  -- where the first entry stands at which the looking stops
  abbrev at : List Entry → ℕ
  at es = position_or_len reaches es

  -- what looking at the first entry says
  module _ (e : Entry) (es : List Entry) where
    without_at : without i (e ∷ es) ≡ cond (ltb i e.place) (e ∷ es) (cond (eqb e.place i) (without i es) (e ∷ without i es))
    unfolding without
    without_at = refl

    without_above : i < e.place → without i (e ∷ es) ≡ e ∷ es
    without_above h = without_at ∙ cond-true (ltb i e.place) (e ∷ es) (cond (eqb e.place i) (without i es) (e ∷ without i es)) (lt-ltb i e.place h)

    without_upto : e.place ≤ i → without i (e ∷ es) ≡ cond (eqb e.place i) (without i es) (e ∷ without i es)
    without_upto h = without_at ∙ cond-false (ltb i e.place) (e ∷ es) (cond (eqb e.place i) (without i es) (e ∷ without i es)) (le-ltb i e.place h)

    without_own : e.place ≡ i → without i (e ∷ es) ≡ without i es
    without_own h = without_upto (omega arith) ∙ cond-true (eqb e.place i) (without i es) (e ∷ without i es) (eq-eqb e.place i h)

    without_below : e.place < i → without i (e ∷ es) ≡ e ∷ without i es
    without_below h = without_upto (omega arith) ∙ cond-false (eqb e.place i) (without i es) (e ∷ without i es) (ne_eqb e.place i (λ s. absurd (omega arith)))

    at_here : i ≤ e.place → at (e ∷ es) ≡ 0
    at_here h = ap (λ b. cond (not b) (1 + at es) 0) (le-leb i e.place h)

    at_next : e.place < i → at (e ∷ es) ≡ suc (at es)
    at_next h = let next : 1 + at es ≡ suc (at es) = omega arith in ap (λ b. cond (not b) (1 + at es) 0) (lt-leb i e.place h) ∙ next

  -- what the front entry says
  pub front_beyond : (es : List Entry) (d : Entry) → 0 < length es → d ≡ get_or es 0 d → i < d.place → without i es ≡ es
  front_beyond [] d l is h = absurd (omega arith)
  front_beyond (e ∷ es) d l is h = without_above e es (omega (arith, h, ap (λ (x : Entry). x.place) is))

  pub front_own : (es : List Entry) (d : Entry) → 0 < length es → d ≡ get_or es 0 d → d.place ≡ i → without i (drop 1 es) ≡ without i es
  front_own [] d l is h = absurd (omega arith)
  front_own (e ∷ es) d l is h = sym (without_own e es (sym (ap (λ (x : Entry). x.place) is) ∙ h))

  -- the looking goes through all
  all_below : (es : List Entry) → length es ≤ at es → without i es ≡ es
  unfolding without
  all_below [] h = refl
  all_below (e ∷ es) h =
      elim (cases_lt e.place i) [
        | inl below ↦ without_below e es below ∙ ap (λ ds. e ∷ ds) (all_below es (omega (arith, at_next e es below)))
        | inr r ↦ absurd (omega (arith, at_here e es r))
      ]

  -- it stops at an entry of a later place
  stops_beyond : (es : List Entry) (d : Entry) → at es < length es → ((get_or es (at es) d).place ≡ i → ⊥) → without i es ≡ es
  stops_beyond [] d h n = absurd (omega arith)
  stops_beyond (e ∷ es) d h n =
      elim (cases_lt e.place i) [
        | inl below ↦ without_below e es below ∙ ap (λ ds. e ∷ ds) (stops_beyond es d (omega (arith, at_next e es below)) (λ s. n (ap (λ k. (get_or (e ∷ es) k d).place) (at_next e es below) ∙ s)))
        | inr r ↦
            let other : e.place ≡ i → ⊥ = λ s. n (ap (λ k. (get_or (e ∷ es) k d).place) (at_here e es r) ∙ s) in
            elim (cases_eq e.place i) [
              | inl s ↦ absurd (other s)
              | inr ne ↦ without_above e es (omega (arith, ne))
            ]
      ]

  -- it stops at an entry of the place
  stops_at : (es : List Entry) (d : Entry) → at es < length es → (get_or es (at es) d).place ≡ i → without_from i (at es) (remove es (at es)) ≡ without i es
  unfolding without_from
  stops_at [] d h s = absurd (omega arith)
  stops_at (e ∷ es) d h s =
      elim (cases_lt e.place i) [
        | inl below ↦
            let there : (get_or es (at es) d).place ≡ i = sym (ap (λ k. (get_or (e ∷ es) k d).place) (at_next e es below)) ∙ s in
            ap (λ k. without_from i k (remove (e ∷ es) k)) (at_next e es below) ∙ ap (λ ds. e ∷ ds) (stops_at es d (omega (arith, at_next e es below)) there) ∙ sym (without_below e es below)
        | inr r ↦
            let here : e.place ≡ i = sym (ap (λ k. (get_or (e ∷ es) k d).place) (at_here e es r)) ∙ s in
            ap (λ k. without_from i k (remove (e ∷ es) k)) (at_here e es r) ∙ sym (without_own e es here)
      ]

  -- the same from an index on
  pub none_from : (k : ℕ) (es : List Entry) → length (drop k es) ≤ at (drop k es) → without_from i k es ≡ es
  unfolding without_from
  none_from zero es h = all_below es h
  none_from (suc k) [] h = refl
  none_from (suc k) (e ∷ es) h = ap (λ ds. e ∷ ds) (none_from k es h)

  beyond_from : (k j : ℕ) (es : List Entry) (d : Entry) → j ≡ k + at (drop k es) → at (drop k es) < length (drop k es) → ((get_or es j d).place ≡ i → ⊥) → without_from i k es ≡ es
  unfolding without_from
  beyond_from zero j es d is l n = let same : j ≡ at es = omega (arith, is) in stops_beyond es d l (λ s. n (ap (λ x. (get_or es x d).place) same ∙ s))
  beyond_from (suc k) zero es d is l n = absurd (omega (arith, is))
  beyond_from (suc k) (suc j) [] d is l n = refl
  beyond_from (suc k) (suc j) (e ∷ es) d is l n = ap (λ ds. e ∷ ds) (beyond_from k j es d (omega (arith, is)) l n)

  found_from : (k j : ℕ) (es : List Entry) (d : Entry) → j ≡ k + at (drop k es) → at (drop k es) < length (drop k es) → (get_or es j d).place ≡ i
      → (j < length es) × (without_from i j (remove es j) ≡ without_from i k es)
  unfolding without_from
  found_from zero j es d is l s =
      let same : j ≡ at es = omega (arith, is) in
      (omega (arith, is), ap (λ x. without_from i x (remove es x)) same ∙ stops_at es d l (sym (ap (λ x. (get_or es x d).place) same) ∙ s))
  found_from (suc k) zero es d is l s = absurd (omega (arith, is))
  found_from (suc k) (suc j) [] d is l s = absurd (omega arith)
  found_from (suc k) (suc j) (e ∷ es) d is l s = let r = found_from k j es d (omega (arith, is)) l s in (omega (arith, r.0), ap (λ ds. e ∷ ds) r.1)

  -- what the entry says at which the looking stops
  pub some_from : (k j : ℕ) (es : List Entry) (d : Entry) → j ≡ k + at (drop k es) → at (drop k es) < length (drop k es)
      → MatchOption (then_some (eqb (get_or es j d).place i) j) (without_from i k es ≡ es) (λ x. (x < length es) × (without_from i x (remove es x) ≡ without_from i k es))
  some_from k j es d is l =
      elim (cases_eq (get_or es j d).place i) [
        | inl s ↦ subst (λ b. Says (then_some b j)) (sym (eq-eqb (get_or es j d).place i s)) (found_from k j es d is l s)
        | inr n ↦ subst (λ b. Says (then_some b j)) (sym (ne_eqb (get_or es j d).place i n)) (beyond_from k j es d is l n)
      ]
    where
      Says : Option ℕ → Type 0
      Says r = MatchOption r (without_from i k es ≡ es) (λ x. (x < length es) × (without_from i x (remove es x) ≡ without_from i k es))

-- a search that went through all
pub not_found : (a n : ℕ) → cond (ltb a n) (Some a) None ≡ None → n ≤ a
not_found a n h = ltb-false a n (cond_none (ltb a n) h)
  where
    cond_none : (b : Bool) → cond b (Some a) None ≡ None → b ≡ false
    cond_none true e = absurd (none-some a (sym e))
    cond_none false e = refl
