-- Laws of what stands in a key by the log, and of the slot that a house has for it.
use Rattle.std.proofs.Common.{◌≡◌, ℕ, zero, suc, ◌<◌, ◌≤◌, Bool, true, false, ◌&&◌, ◌||◌, eqb, List, [], ◌∷◌, map, length, take, filter, sym, refl, ap, ◌∙◌, inl, inr, arith}
use Rattle.std.proofs.lemmas.List.{take_all, get_or_past}
use Rattle.std.proofs.lemmas.Bool.{both_ways, and_parts, and_from, and_cases, or_cases, or_left, or_right, cond-true, cond-false, cond_both, cases_lt, eqb-true, eq-eqb}
use Rattle.orders.specs.Transaction.{Transaction, lookup, is_in, after, serial, idle}
use Rattle.orders.proofs.Transactions.{written_outside}
use Rattle.protocol.specs.Log.{at, stood, some, reads_in, writes_in, own_reads, own_writes, reads, writes}
use Rattle.protocol.specs.House.{Plan, Sound}
use Rattle.protocol.proofs.Invariant.{shadow}

-- keys of a list
some_from_is_in : (k : ℕ) (ks : List ℕ) → is_in k ks ≡ true → some ks ≡ true
some_from_is_in k [] e = e
some_from_is_in k (x ∷ ks) e = refl

is_in_kept : (test : ℕ → Bool) (k : ℕ) (ks : List ℕ) → is_in k ks ≡ true → test k ≡ true → is_in k (filter test ks) ≡ true
is_in_kept test k [] e t = e
is_in_kept test k (x ∷ ks) e t =
    elim (or_cases (eqb k x) (is_in k ks) e) [
      | inl q ↦
          let y : test x ≡ true = ap test (sym (eqb-true k x q)) ∙ t in
          ap (is_in k) (cond-true (test x) (x ∷ filter test ks) (filter test ks) y) ∙ or_left (eqb k x) (is_in k (filter test ks)) q
      | inr q ↦
          cond_both (test x) (x ∷ filter test ks) (filter test ks) (λ l. is_in k l ≡ true)
          (λ _. or_right (eqb k x) (is_in k (filter test ks)) (is_in_kept test k ks q t)) (λ _. is_in_kept test k ks q t)
    ]

kept_is_in : (test : ℕ → Bool) (k : ℕ) (ks : List ℕ) → is_in k (filter test ks) ≡ true → (is_in k ks && test k) ≡ true
kept_is_in test k [] e = e
kept_is_in test k (x ∷ ks) e =
    cond_both (test x) (x ∷ filter test ks) (filter test ks) (λ l. is_in k l ≡ true → (is_in k (x ∷ ks) && test k) ≡ true) (here (kept_is_in test k ks)) (λ _ e. there (kept_is_in test k ks e)) e
  where
    there : (is_in k ks && test k) ≡ true → ((eqb k x || is_in k ks) && test k) ≡ true
    there e = let p = and_parts (is_in k ks) (test k) e in and_from (eqb k x || is_in k ks) (test k) (or_right (eqb k x) (is_in k ks) p.0) p.1

    here : (is_in k (filter test ks) ≡ true → (is_in k ks && test k) ≡ true) → test x ≡ true → (eqb k x || is_in k (filter test ks)) ≡ true → ((eqb k x || is_in k ks) && test k) ≡ true
    here rest t e =
        elim (or_cases (eqb k x) (is_in k (filter test ks)) e) [
          | inl q ↦ and_from (eqb k x || is_in k ks) (test k) (or_left (eqb k x) (is_in k ks) q) (ap test (eqb-true k x q) ∙ t)
          | inr q ↦ there (rest q)
        ]

pub lookup_map : (f : ℕ → ℕ) (ks : List ℕ) (k d : ℕ) → is_in k ks ≡ true → lookup ks (map f ks) k d ≡ f k
lookup_map f [] k d e = let z : ◌≡◌ {A = ℕ} 0 1 = cc in absurd (omega arith)
lookup_map f (x ∷ ks) k d e =
    elim (or_cases (eqb k x) (is_in k ks) e) [
      | inl q ↦ cond-true (eqb k x) (f x) (lookup ks (map f ks) k d) q ∙ ap f (sym (eqb-true k x q))
      | inr q ↦ cond_both (eqb k x) (f x) (lookup ks (map f ks) k d) (λ v. v ≡ f k) (λ y. ap f (sym (eqb-true k x y))) (λ _. lookup_map f ks k d q)
    ]

-- the keys of an order in a house
module _ (os : List Transaction) (own : ℕ → ℕ → ℕ) (h i k : ℕ) where
  pub own_reads_from_reads_in : reads_in os own h i k ≡ true → is_in k (own_reads os own h i) ≡ true
  own_reads_from_reads_in e = let p = and_parts (is_in k (at os i).reads) (eqb (own i k) h) e in is_in_kept (λ x. eqb (own i x) h) k (at os i).reads p.0 p.1

  pub reads_in_from_own_reads : is_in k (own_reads os own h i) ≡ true → reads_in os own h i k ≡ true
  reads_in_from_own_reads e = kept_is_in (λ x. eqb (own i x) h) k (at os i).reads e

  pub reads_from_reads_in : reads_in os own h i k ≡ true → reads os own h i ≡ true
  reads_from_reads_in e = some_from_is_in k (own_reads os own h i) (own_reads_from_reads_in e)

  pub writes_from_writes_in : writes_in os own h i k ≡ true → writes os own h i ≡ true
  writes_from_writes_in e =
      let p = and_parts (is_in k (at os i).writes) (eqb (own (suc i) k) h) e in
      some_from_is_in k (own_writes os own h i) (is_in_kept (λ x. eqb (own (suc i) x) h) k (at os i).writes p.0 p.1)

-- what an order leaves alone
pub after_outside : (t : Transaction) (f : ℕ → ℕ) (k : ℕ) → is_in k t.writes ≡ false → after t f k ≡ f k
unfolding after
after_outside t f k e = written_outside t.writes (t.outcome (map f t.reads)) k (f k) e

-- beyond the end of the log stands the order that does nothing
pub idle_beyond : (os : List Transaction) (i : ℕ) → length os ≤ i → at os i ≡ idle
idle_beyond os i l = get_or_past os i idle l

pub none_writes_beyond : (os : List Transaction) (own : ℕ → ℕ → ℕ) (h i k : ℕ) → length os ≤ i → writes_in os own h i k ≡ false
none_writes_beyond os own h i k l = ap (λ t. is_in k t.writes && eqb (own (suc i) k) h) (idle_beyond os i l)

-- what stood is what doing the orders before it serially leaves
stood_idle : (first : ℕ → ℕ) (i : ℕ) → stood [] first i ≡ first
unfolding stood after
stood_idle first zero = refl
stood_idle first (suc i) = stood_idle first i

stood_cons : (o : Transaction) (os : List Transaction) (first : ℕ → ℕ) (i : ℕ) → stood (o ∷ os) first (suc i) ≡ stood os (after o first) i
unfolding stood
stood_cons o os first zero = refl
stood_cons o os first (suc i) = ap (after (at os i)) (stood_cons o os first i)

pub stood_serial : (os : List Transaction) (first : ℕ → ℕ) (i : ℕ) → stood os first i ≡ serial (take i os) first
unfolding stood serial
stood_serial os first zero = refl
stood_serial [] first (suc i) = stood_idle first (suc i)
stood_serial (o ∷ os) first (suc i) = stood_cons o os first i ∙ stood_serial os (after o first) i

pub stood_end : (os : List Transaction) (first : ℕ → ℕ) → stood os first (length os) ≡ serial os first
stood_end os first = stood_serial os first (length os) ∙ ap (λ l. serial l first) (take_all (length os) os (omega arith))

pub stood_suc : (os : List Transaction) (first : ℕ → ℕ) (i k : ℕ) → stood os first (suc i) k ≡ after (at os i) (stood os first i) k
unfolding stood
stood_suc os first i k = refl

module _ (os : List Transaction) (own : ℕ → ℕ → ℕ) (first : ℕ → ℕ) (h : ℕ) where
  pub shadow_start : (k : ℕ) → shadow os own first h 0 k ≡ first k
  unfolding shadow
  shadow_start k = refl

  pub shadow_written : (c k : ℕ) → writes_in os own h c k ≡ true → shadow os own first h (suc c) k ≡ stood os first (suc c) k
  unfolding shadow
  shadow_written c k e = cond-true (writes_in os own h c k) (stood os first (suc c) k) (shadow os own first h c k) e

  shadow_kept : (c k : ℕ) → writes_in os own h c k ≡ false → shadow os own first h (suc c) k ≡ shadow os own first h c k
  unfolding shadow
  shadow_kept c k e = cond-false (writes_in os own h c k) (stood os first (suc c) k) (shadow os own first h c k) e

  -- a slot that no order from c up to d writes stays as it was
  pub shadow_between : (k c d : ℕ) → c ≤ d → ((j : ℕ) → c ≤ j → j < d → writes_in os own h j k ≡ false) → shadow os own first h c k ≡ shadow os own first h d k
  shadow_between k c zero l none = ap (λ x. shadow os own first h x k) (omega arith)
  shadow_between k c (suc d) l none =
      elim (cases_lt d c) [
        | inl m ↦ ap (λ x. shadow os own first h x k) (omega arith)
        | inr m ↦ shadow_between k c d m (λ j a b. none j a (omega arith)) ∙ sym (shadow_kept d k (none d m (omega arith)))
      ]

-- the house that has a key has in its slot what stands there
pub shadow_own : (os : List Transaction) (p : Plan) (first : ℕ → ℕ) (sound : Sound os p) (h c k : ℕ) → p.own c k ≡ h → shadow os p.own first h c k ≡ stood os first c k
unfolding shadow stood
shadow_own os p first sound h zero k e = refl
shadow_own os p first sound h (suc c) k e =
    cond_both (writes_in os p.own h c k) (after (at os c) (stood os first c) k) (shadow os p.own first h c k) (λ v. v ≡ after (at os c) (stood os first c) k) (λ _. refl) (λ w.
    elim (and_cases (is_in k (at os c).writes) (eqb (p.own (suc c) k) h) w) [
      | inl out ↦
          let had : p.own c k ≡ h = elim (sound.moves c k) [ inl same ↦ sym same ∙ e | inr both ↦ absurd (both_ways (is_in k (at os c).writes) out both.1) ] in
          shadow_own os p first sound h c k had ∙ sym (after_outside (at os c) (stood os first c) k out)
      | inr n ↦ absurd (both_ways (eqb (p.own (suc c) k) h) n (eq-eqb (p.own (suc c) k) h e))
    ])
