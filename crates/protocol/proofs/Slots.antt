-- What is done in a house, what its slots hold, and what it knows.
use Rattle.std.proofs.Common.{◌≡◌, ℕ, ◌<◌, ◌≤◌, Bool, true, false, cond, ◌&&◌, ◌||◌, eqb, ltb, ◌⊎◌, List, map, is_some, Some, None, Option, sym, refl, ap, ◌∙◌, inl, inr, arith}
use Rattle.std.proofs.lemmas.Bool.{both_ways, ltb-true, lt-ltb, le-ltb, and_from, or_cases, or_from, or_left, or_right, cond-true, cond_both, cases_lt, cases_Bool}
use Rattle.orders.specs.Transaction.{Transaction, lookup, is_in}
use Rattle.protocol.specs.Log.{at, stood, reads_in, writes_in, own_reads, reads, writes, conflict}
use Rattle.protocol.specs.House.{House, done, from_note, knows}
use Rattle.protocol.proofs.Invariant.{shadow, Settled, Good}
use Rattle.protocol.proofs.Standing.{own_reads_from_reads_in, lookup_map, shadow_between}

pub value_from_some : {A : Type 0} (o : Option A) → is_some o ≡ true → (x : A) × (o ≡ Some x)
value_from_some None e = let z : ◌≡◌ {A = ℕ} 0 1 = cc in absurd (omega arith)
value_from_some (Some x) e = (x, refl)

module _ (os : List Transaction) (own : ℕ → ℕ → ℕ) (h : ℕ) where
  -- what is done
  module _ (s : House) (j : ℕ) where
    abbrev otherwise : Bool
    otherwise = cond (reads os own h j) (is_some (s.noted j)) true

    pub done_before : j < s.place → done os own h s j ≡ true
    done_before l = or_left (ltb j s.place) (cond (writes os own h j) (s.wrote j) otherwise) (lt-ltb j s.place l)

    module _ (w : writes os own h j ≡ true) where
      pub done_writer : done os own h s j ≡ (ltb j s.place || s.wrote j)
      done_writer = ap (λ b. ltb j s.place || b) (cond-true (writes os own h j) (s.wrote j) otherwise w)

      pub done_by_write : s.wrote j ≡ true → done os own h s j ≡ true
      done_by_write e = done_writer ∙ or_right (ltb j s.place) (s.wrote j) e

      pub cases_done : done os own h s j ≡ true → (j < s.place) ⊎ (s.wrote j ≡ true)
      cases_done d = elim (or_cases (ltb j s.place) (s.wrote j) (sym done_writer ∙ d)) [ inl l ↦ inl (ltb-true j s.place l) | inr e ↦ inr e ]

      pub undone : s.place ≤ j → s.wrote j ≡ false → done os own h s j ≡ false
      undone l e = done_writer ∙ or_from (ltb j s.place) (s.wrote j) (le-ltb j s.place l) e

    pub cases_done_reader : reads os own h j ≡ true → done os own h s j ≡ true → (j < s.place) ⊎ ((s.wrote j ≡ true) ⊎ (is_some (s.noted j) ≡ true))
    cases_done_reader r d =
        elim (or_cases (ltb j s.place) (cond (writes os own h j) (s.wrote j) otherwise) d) [
          | inl l ↦ inl (ltb-true j s.place l)
          | inr e ↦ inr (cond_both (writes os own h j) (s.wrote j) otherwise
              (λ b. b ≡ true → (s.wrote j ≡ true) ⊎ (is_some (s.noted j) ≡ true))
              (λ _ x. inl x) (λ _ x. inr (sym (cond-true (reads os own h j) (is_some (s.noted j)) true r) ∙ x)) e)
        ]

  -- orders that meet at a key
  module _ (i j k : ℕ) where
    pub conflict_read_write : reads_in os own h i k ≡ true → writes_in os own h j k ≡ true → conflict os own h i j k ≡ true
    conflict_read_write r w =
        or_right (writes_in os own h i k && (writes_in os own h j k || reads_in os own h j k)) (reads_in os own h i k && writes_in os own h j k)
        (and_from (reads_in os own h i k) (writes_in os own h j k) r w)

    conflict_by_write : writes_in os own h i k ≡ true → (writes_in os own h j k || reads_in os own h j k) ≡ true → conflict os own h i j k ≡ true
    conflict_by_write w e =
        or_left (writes_in os own h i k && (writes_in os own h j k || reads_in os own h j k)) (reads_in os own h i k && writes_in os own h j k)
        (and_from (writes_in os own h i k) (writes_in os own h j k || reads_in os own h j k) w e)

    pub conflict_write_write : writes_in os own h i k ≡ true → writes_in os own h j k ≡ true → conflict os own h i j k ≡ true
    conflict_write_write w e = conflict_by_write w (or_left (writes_in os own h j k) (reads_in os own h j k) e)

    pub conflict_write_read : writes_in os own h i k ≡ true → reads_in os own h j k ≡ true → conflict os own h i j k ≡ true
    conflict_write_read w e = conflict_by_write w (or_right (writes_in os own h j k) (reads_in os own h j k) e)

module _ (os : List Transaction) (own : ℕ → ℕ → ℕ) (first : ℕ → ℕ) (h : ℕ) (s : House) where
  -- where the writers of a key that are done are those before i, its value is what its slot holds there
  pub value_at : (k c i : ℕ) → Settled os own first h s k c →
      ((j : ℕ) → j < i → writes_in os own h j k ≡ true → done os own h s j ≡ true) →
      ((j : ℕ) → i ≤ j → writes_in os own h j k ≡ true → done os own h s j ≡ false) → s.value k ≡ shadow os own first h i k
  value_at k c i t early late =
      t.is ∙ elim (cases_lt c i) [
        | inl l ↦ shadow_between os own first h k c i (omega arith) (λ j a b. none j (t.later j a) (early j b))
        | inr l ↦ sym (shadow_between os own first h k i c l (λ j a b. none j (late j a) (t.earlier j b)))
      ]
    where
      none : (j : ℕ) → (writes_in os own h j k ≡ true → done os own h s j ≡ false) → (writes_in os own h j k ≡ true → done os own h s j ≡ true) → writes_in os own h j k ≡ false
      none j f t' = elim (cases_Bool (writes_in os own h j k)) [ inl w ↦ absurd (both_ways (done os own h s j) (f w) (t' w)) | inr e ↦ e ]

  -- whatever the house knows of an order is right
  pub knows_right : Good os own first h s → (i k v : ℕ) → is_in k (at os i).reads ≡ true → knows os own h s i k ≡ Some v → v ≡ stood os first i k
  knows_right g i k v r =
      cond_both (eqb (own i k) h) (from_note os own h i (s.noted i) k) (s.heard i k) (λ o. o ≡ Some v → v ≡ stood os first i k)
      (λ e. by_note (own_reads_from_reads_in os own h i k (and_from (is_in k (at os i).reads) (eqb (own i k) h) r e)) (s.noted i) refl)
      (λ _ e. g.heard_right i k v e)
    where
      by_note : is_in k (own_reads os own h i) ≡ true → (o : Option (List ℕ)) → s.noted i ≡ o → from_note os own h i o k ≡ Some v → v ≡ stood os first i k
      by_note l None e q = let z : ◌≡◌ {A = ℕ} 0 1 = cc in absurd (omega arith)
      by_note l (Some vs) e q =
          let a : vs ≡ map (stood os first i) (own_reads os own h i) = g.noted_right i vs e in
          let b : v ≡ lookup (own_reads os own h i) vs k 0 = cc in
          b ∙ ap (λ x. lookup (own_reads os own h i) x k 0) a ∙ lookup_map (stood os first i) (own_reads os own h i) k 0 l
