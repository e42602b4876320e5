-- Orders that conflict by their marks are those that meet at a key of the house.
use Rattle.std.proofs.Common.{◌≡◌, ℕ, ◌%◌, Bool, true, false, ◌&&◌, ◌||◌, eqb, ◌⊎◌, List, [], ◌∷◌, ◌++◌, filter, sym, refl, ap, ◌∙◌, inl, inr, arith}
use Rattle.std.proofs.lemmas.Bool.{both_ways, eqb-true, eq-eqb, cond-true, cond-false, cond_both, cases_Bool, and_parts, and_from, or_cases, or_left, or_right}
use Rattle.orders.specs.Transaction.{Transaction, is_in}
use Rattle.protocol.specs.Log.{some}
use Rattle.turns.specs.Marks.{slot, blocks, conflicts}
use Rattle.turns.specs.Queues.{both}
use Rattle.turns.specs.declared.entry.Mark.{Mark}
use Rattle.ledger.specs.Own.{owns, own_marks, marks_for, marked}

or_false : (b : Bool) → (b || false) ≡ b
or_false true = refl
or_false false = refl

or_assoc : (a b c : Bool) → ((a || b) || c) ≡ (a || (b || c))
or_assoc true b c = refl
or_assoc false b c = refl

-- marks of two lists
marked_append : (w : Bool) (ms ns : List Mark) → marked w (ms ++ ns) ≡ (marked w ms || marked w ns)
marked_append w [] ns = refl
marked_append w (m ∷ ms) ns = ap (λ b. both w m.writes || b) (marked_append w ms ns) ∙ sym (or_assoc (both w m.writes) (marked w ms) (marked w ns))

blocks_append : (w : Bool) (q : ℕ) (ms ns : List Mark) → blocks w q (ms ++ ns) ≡ (blocks w q ms || blocks w q ns)
blocks_append w q [] ns = refl
blocks_append w q (m ∷ ms) ns =
    ap (λ b. (eqb (slot m.key) q && (w || m.writes)) || b) (blocks_append w q ms ns)
    ∙ sym (or_assoc (eqb (slot m.key) q && (w || m.writes)) (blocks w q ms) (blocks w q ns))

conflicts_append : (ms ns os : List Mark) → conflicts (ms ++ ns) os ≡ (conflicts ms os || conflicts ns os)
conflicts_append [] ns os = refl
conflicts_append (m ∷ ms) ns os =
    ap (λ b. blocks m.writes (slot m.key) os || b) (conflicts_append ms ns os)
    ∙ sym (or_assoc (blocks m.writes (slot m.key) os) (conflicts ms os) (conflicts ns os))

-- marks of one kind
marked_same : (w : Bool) (h : ℕ) (ks : List ℕ) → marked w (own_marks w h ks) ≡ some (filter (owns h) ks)
marked_same w h [] = refl
marked_same w h (k ∷ ks) =
    elim (cases_Bool (owns h k)) [
      | inl e ↦
          ap (marked w) (cond-true (owns h k) (record { key = k; writes = w } ∷ own_marks w h ks) (own_marks w h ks) e)
          ∙ or_left (both w w) (marked w (own_marks w h ks)) (itself w)
          ∙ sym (ap some (cond-true (owns h k) (k ∷ filter (owns h) ks) (filter (owns h) ks) e))
      | inr e ↦
          ap (marked w) (cond-false (owns h k) (record { key = k; writes = w } ∷ own_marks w h ks) (own_marks w h ks) e) ∙ marked_same w h ks
          ∙ sym (ap some (cond-false (owns h k) (k ∷ filter (owns h) ks) (filter (owns h) ks) e))
    ]
  where
    itself : (w : Bool) → both w w ≡ true
    itself true = refl
    itself false = refl

marked_other : (w v : Bool) (h : ℕ) (ks : List ℕ) → both w v ≡ false → marked w (own_marks v h ks) ≡ false
marked_other w v h [] d = refl
marked_other w v h (k ∷ ks) d =
    cond_both (owns h k) (record { key = k; writes = v } ∷ own_marks v h ks) (own_marks v h ks) (λ ms. marked w ms ≡ false)
    (λ _. ap (λ b. b || marked w (own_marks v h ks)) d ∙ marked_other w v h ks d) (λ _. marked_other w v h ks d)

module _ (h : ℕ) (t : Transaction) where
  pub marked_reads : marked false (marks_for h t) ≡ some (filter (owns h) t.reads)
  marked_reads =
      marked_append false (own_marks true h t.writes) (own_marks false h t.reads)
      ∙ ap (λ b. b || marked false (own_marks false h t.reads)) (marked_other false true h t.writes refl) ∙ marked_same false h t.reads

  pub marked_writes : marked true (marks_for h t) ≡ some (filter (owns h) t.writes)
  marked_writes =
      marked_append true (own_marks true h t.writes) (own_marks false h t.reads)
      ∙ ap (λ b. marked true (own_marks true h t.writes) || b) (marked_other true false h t.reads refl) ∙ or_false (marked true (own_marks true h t.writes)) ∙ marked_same true h t.writes

-- a key of the house, and who has to wait there
blocks_from : (w v : Bool) (h k : ℕ) (ks : List ℕ) → is_in k ks ≡ true → owns h k ≡ true → (w || v) ≡ true → blocks w (slot k) (own_marks v h ks) ≡ true
blocks_from w v h k [] i o b = absurd (both_ways false refl i)
blocks_from w v h k (x ∷ ks) i o b =
    elim (or_cases (eqb k x) (is_in k ks) i) [
      | inl e ↦
          let same : k ≡ x = eqb-true k x e in
          ap (blocks w (slot k)) (cond-true (owns h x) (record { key = x; writes = v } ∷ own_marks v h ks) (own_marks v h ks) (ap (owns h) (sym same) ∙ o))
          ∙ or_left (eqb (slot x) (slot k) && (w || v)) (blocks w (slot k) (own_marks v h ks)) (and_from (eqb (slot x) (slot k)) (w || v) (eq-eqb (slot x) (slot k) (ap slot (sym same))) b)
      | inr e ↦
          cond_both (owns h x) (record { key = x; writes = v } ∷ own_marks v h ks) (own_marks v h ks) (λ ms. blocks w (slot k) ms ≡ true)
          (λ _. or_right (eqb (slot x) (slot k) && (w || v)) (blocks w (slot k) (own_marks v h ks)) (blocks_from w v h k ks e o b)) (λ _. blocks_from w v h k ks e o b)
    ]

conflicts_from : (w : Bool) (h k : ℕ) (ks : List ℕ) (ns : List Mark) → is_in k ks ≡ true → owns h k ≡ true → blocks w (slot k) ns ≡ true → conflicts (own_marks w h ks) ns ≡ true
conflicts_from w h k [] ns i o b = absurd (both_ways false refl i)
conflicts_from w h k (x ∷ ks) ns i o b =
    elim (or_cases (eqb k x) (is_in k ks) i) [
      | inl e ↦
          let same : k ≡ x = eqb-true k x e in
          ap (λ ms. conflicts ms ns) (cond-true (owns h x) (record { key = x; writes = w } ∷ own_marks w h ks) (own_marks w h ks) (ap (owns h) (sym same) ∙ o))
          ∙ or_left (blocks w (slot x) ns) (conflicts (own_marks w h ks) ns) (ap (λ y. blocks w (slot y) ns) (sym same) ∙ b)
      | inr e ↦
          cond_both (owns h x) (record { key = x; writes = w } ∷ own_marks w h ks) (own_marks w h ks) (λ ms. conflicts ms ns ≡ true)
          (λ _. or_right (blocks w (slot x) ns) (conflicts (own_marks w h ks) ns) (conflicts_from w h k ks ns e o b)) (λ _. conflicts_from w h k ks ns e o b)
    ]

-- the key at which one waits
blocks_key : (w v : Bool) (h q : ℕ) (ks : List ℕ) → blocks w q (own_marks v h ks) ≡ true → (k : ℕ) × (is_in k ks ≡ true) × (owns h k ≡ true) × (slot k ≡ q) × ((w || v) ≡ true)
blocks_key w v h q [] b = absurd (both_ways false refl b)
blocks_key w v h q (x ∷ ks) b =
    elim (cases_Bool (owns h x)) [
      | inl o ↦
          elim (or_cases (eqb (slot x) q && (w || v)) (blocks w q (own_marks v h ks)) (sym (ap (blocks w q) (cond-true (owns h x) (record { key = x; writes = v } ∷ own_marks v h ks) (own_marks v h ks) o)) ∙ b)) [
            | inl e ↦
                let p = and_parts (eqb (slot x) q) (w || v) e in
                (x, or_left (eqb x x) (is_in x ks) (eq-eqb x x refl), o, eqb-true (slot x) q p.0, p.1)
            | inr e ↦ further (blocks_key w v h q ks e)
          ]
      | inr o ↦ further (blocks_key w v h q ks (sym (ap (blocks w q) (cond-false (owns h x) (record { key = x; writes = v } ∷ own_marks v h ks) (own_marks v h ks) o)) ∙ b))
    ]
  where
    further : (k : ℕ) × (is_in k ks ≡ true) × (owns h k ≡ true) × (slot k ≡ q) × ((w || v) ≡ true) → (k : ℕ) × (is_in k (x ∷ ks) ≡ true) × (owns h k ≡ true) × (slot k ≡ q) × ((w || v) ≡ true)
    further r = (r.0, or_right (eqb r.0 x) (is_in r.0 ks) r.1, r.2, r.3, r.4)

conflicts_key : (w : Bool) (h : ℕ) (ks : List ℕ) (ns : List Mark) → conflicts (own_marks w h ks) ns ≡ true → (k : ℕ) × (is_in k ks ≡ true) × (owns h k ≡ true) × (blocks w (slot k) ns ≡ true)
conflicts_key w h [] ns c = absurd (both_ways false refl c)
conflicts_key w h (x ∷ ks) ns c =
    elim (cases_Bool (owns h x)) [
      | inl o ↦
          elim (or_cases (blocks w (slot x) ns) (conflicts (own_marks w h ks) ns) (sym (ap (λ ms. conflicts ms ns) (cond-true (owns h x) (record { key = x; writes = w } ∷ own_marks w h ks) (own_marks w h ks) o)) ∙ c)) [
            | inl e ↦ (x, or_left (eqb x x) (is_in x ks) (eq-eqb x x refl), o, e)
            | inr e ↦ further (conflicts_key w h ks ns e)
          ]
      | inr o ↦ further (conflicts_key w h ks ns (sym (ap (λ ms. conflicts ms ns) (cond-false (owns h x) (record { key = x; writes = w } ∷ own_marks w h ks) (own_marks w h ks) o)) ∙ c))
    ]
  where
    further : (k : ℕ) × (is_in k ks ≡ true) × (owns h k ≡ true) × (blocks w (slot k) ns ≡ true) → (k : ℕ) × (is_in k (x ∷ ks) ≡ true) × (owns h k ≡ true) × (blocks w (slot k) ns ≡ true)
    further r = (r.0, or_right (eqb r.0 x) (is_in r.0 ks) r.1, r.2, r.3)

-- keys of one house with one number there are one key
same_key : (h k x : ℕ) → owns h k ≡ true → owns h x ≡ true → slot k ≡ slot x → k ≡ x
same_key h k x a b e =
    let p : k % 16 ≡ h = eqb-true (k % 16) h a in
    let q : x % 16 ≡ h = eqb-true (x % 16) h b in
    omega arith

-- the orders t and u meet at a key of house h
module _ (h : ℕ) (t u : Transaction) where
  abbrev meets : ℕ → Bool
  meets k =
      ((is_in k t.writes && owns h k) && ((is_in k u.writes && owns h k) || (is_in k u.reads && owns h k)))
      || ((is_in k t.reads && owns h k) && (is_in k u.writes && owns h k))

  blocks_writes : (w : Bool) (k : ℕ) → is_in k u.writes ≡ true → owns h k ≡ true → blocks w (slot k) (marks_for h u) ≡ true
  blocks_writes w k i o =
      blocks_append w (slot k) (own_marks true h u.writes) (own_marks false h u.reads)
      ∙ or_left (blocks w (slot k) (own_marks true h u.writes)) (blocks w (slot k) (own_marks false h u.reads)) (blocks_from w true h k u.writes i o (or_right w true refl))

  blocks_reads : (k : ℕ) → is_in k u.reads ≡ true → owns h k ≡ true → blocks true (slot k) (marks_for h u) ≡ true
  blocks_reads k i o =
      blocks_append true (slot k) (own_marks true h u.writes) (own_marks false h u.reads)
      ∙ or_right (blocks true (slot k) (own_marks true h u.writes)) (blocks true (slot k) (own_marks false h u.reads)) (blocks_from true false h k u.reads i o refl)

  by_write : (k : ℕ) → is_in k t.writes ≡ true → owns h k ≡ true → blocks true (slot k) (marks_for h u) ≡ true → conflicts (marks_for h t) (marks_for h u) ≡ true
  by_write k i o b =
      conflicts_append (own_marks true h t.writes) (own_marks false h t.reads) (marks_for h u)
      ∙ or_left (conflicts (own_marks true h t.writes) (marks_for h u)) (conflicts (own_marks false h t.reads) (marks_for h u)) (conflicts_from true h k t.writes (marks_for h u) i o b)

  by_read : (k : ℕ) → is_in k t.reads ≡ true → owns h k ≡ true → blocks false (slot k) (marks_for h u) ≡ true → conflicts (marks_for h t) (marks_for h u) ≡ true
  by_read k i o b =
      conflicts_append (own_marks true h t.writes) (own_marks false h t.reads) (marks_for h u)
      ∙ or_right (conflicts (own_marks true h t.writes) (marks_for h u)) (conflicts (own_marks false h t.reads) (marks_for h u)) (conflicts_from false h k t.reads (marks_for h u) i o b)

  pub conflicts_from_meets : (k : ℕ) → meets k ≡ true → conflicts (marks_for h t) (marks_for h u) ≡ true
  conflicts_from_meets k m =
      elim (or_cases ((is_in k t.writes && owns h k) && ((is_in k u.writes && owns h k) || (is_in k u.reads && owns h k))) ((is_in k t.reads && owns h k) && (is_in k u.writes && owns h k)) m) [
        | inl e ↦
            let p = and_parts (is_in k t.writes && owns h k) ((is_in k u.writes && owns h k) || (is_in k u.reads && owns h k)) e in
            let q = and_parts (is_in k t.writes) (owns h k) p.0 in
            elim (or_cases (is_in k u.writes && owns h k) (is_in k u.reads && owns h k) p.1) [
              | inl f ↦ by_write k q.0 q.1 (blocks_writes true k (and_parts (is_in k u.writes) (owns h k) f).0 q.1)
              | inr f ↦ by_write k q.0 q.1 (blocks_reads k (and_parts (is_in k u.reads) (owns h k) f).0 q.1)
            ]
        | inr e ↦
            let p = and_parts (is_in k t.reads && owns h k) (is_in k u.writes && owns h k) e in
            let q = and_parts (is_in k t.reads) (owns h k) p.0 in
            by_read k q.0 q.1 (blocks_writes false k (and_parts (is_in k u.writes) (owns h k) p.1).0 q.1)
      ]

  blocks_inside : (w : Bool) (q : ℕ) → blocks w q (marks_for h u) ≡ true → (k : ℕ) × (owns h k ≡ true) × (slot k ≡ q) × ((is_in k u.writes ≡ true) ⊎ ((is_in k u.reads ≡ true) × (w ≡ true)))
  blocks_inside w q b =
      elim (or_cases (blocks w q (own_marks true h u.writes)) (blocks w q (own_marks false h u.reads)) (sym (blocks_append w q (own_marks true h u.writes) (own_marks false h u.reads)) ∙ b)) [
        | inl e ↦ let r = blocks_key w true h q u.writes e in (r.0, r.2, r.3, inl r.1)
        | inr e ↦ let r = blocks_key w false h q u.reads e in (r.0, r.2, r.3, inr (r.1, sym (or_false w) ∙ r.4))
      ]

  pub meets_from_conflicts : conflicts (marks_for h t) (marks_for h u) ≡ true → (k : ℕ) × (meets k ≡ true)
  meets_from_conflicts c =
      elim (or_cases (conflicts (own_marks true h t.writes) (marks_for h u)) (conflicts (own_marks false h t.reads) (marks_for h u))
      (sym (conflicts_append (own_marks true h t.writes) (own_marks false h t.reads) (marks_for h u)) ∙ c)) [
        | inl e ↦ let r = conflicts_key true h t.writes (marks_for h u) e in (r.0, writer r.0 r.1 r.2 (blocks_inside true (slot r.0) r.3))
        | inr e ↦ let r = conflicts_key false h t.reads (marks_for h u) e in (r.0, reader r.0 r.1 r.2 (blocks_inside false (slot r.0) r.3))
      ]
    where
      writer : (k : ℕ) → is_in k t.writes ≡ true → owns h k ≡ true → (x : ℕ) × (owns h x ≡ true) × (slot x ≡ slot k) × ((is_in x u.writes ≡ true) ⊎ ((is_in x u.reads ≡ true) × (true ≡ true))) → meets k ≡ true
      writer k i o r =
          let same : r.0 ≡ k = same_key h r.0 k r.1 o r.2 in
          or_left ((is_in k t.writes && owns h k) && ((is_in k u.writes && owns h k) || (is_in k u.reads && owns h k))) ((is_in k t.reads && owns h k) && (is_in k u.writes && owns h k))
          (and_from (is_in k t.writes && owns h k) ((is_in k u.writes && owns h k) || (is_in k u.reads && owns h k)) (and_from (is_in k t.writes) (owns h k) i o)
          (elim r.3 [
            | inl e ↦ or_left (is_in k u.writes && owns h k) (is_in k u.reads && owns h k) (and_from (is_in k u.writes) (owns h k) (ap (λ y. is_in y u.writes) (sym same) ∙ e) o)
            | inr e ↦ or_right (is_in k u.writes && owns h k) (is_in k u.reads && owns h k) (and_from (is_in k u.reads) (owns h k) (ap (λ y. is_in y u.reads) (sym same) ∙ e.0) o)
          ]))

      reader : (k : ℕ) → is_in k t.reads ≡ true → owns h k ≡ true → (x : ℕ) × (owns h x ≡ true) × (slot x ≡ slot k) × ((is_in x u.writes ≡ true) ⊎ ((is_in x u.reads ≡ true) × (false ≡ true))) → meets k ≡ true
      reader k i o r =
          let same : r.0 ≡ k = same_key h r.0 k r.1 o r.2 in
          or_right ((is_in k t.writes && owns h k) && ((is_in k u.writes && owns h k) || (is_in k u.reads && owns h k))) ((is_in k t.reads && owns h k) && (is_in k u.writes && owns h k))
          (elim r.3 [
            | inl e ↦ and_from (is_in k t.reads && owns h k) (is_in k u.writes && owns h k) (and_from (is_in k t.reads) (owns h k) i o) (and_from (is_in k u.writes) (owns h k) (ap (λ y. is_in y u.writes) (sym same) ∙ e) o)
            | inr e ↦ absurd (both_ways false refl e.1)
          ])
