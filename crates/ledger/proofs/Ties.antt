-- What a ledger says of its orders is what the machine says of the house.
use Rattle.std.proofs.Common.{◌≡◌, ℕ, ◌%◌, ◌<◌, Bool, true, false, cond, not, ◌&&◌, ◌||◌, List, [], ◌∷◌, ◌++◌, is_some, Some, None, filter, sym, refl, ap, ◌∙◌, inl, inr, arith}
use Rattle.std.proofs.lemmas.List.{length-map, get_or-map, get_or_append_left, get_or_past}
use Rattle.std.proofs.lemmas.Bool.{both_ways, le-ltb, cases_Bool, cases_lt}
use Rattle.orders.specs.Meaning.{transaction}
use Rattle.orders.specs.Transaction.{Transaction, idle}
use Rattle.protocol.specs.Log.{at, some, own_reads, reads, writes, conflict}
use Rattle.protocol.specs.House.{done, Ready}
use Rattle.rows.specs.Lists.{rows_of}
use Rattle.turns.specs.Marks.{ready, conflicts}
use Rattle.turns.specs.State.{marks_of, done_of, count_of}
use Rattle.turns.proofs.Waking.{clear_false, clear_true}
use Rattle.ledger.specs.Own.{owns, marks_for, marked, note_of}
use Rattle.ledger.specs.State.{log_of, order_at, slots_at, looked_at, state_of}
use Rattle.ledger.specs.declared.ledger.Ledger.{Ledger}
use Rattle.ledger.proofs.AlikeMarks.{same_from_alike_marks}
use Rattle.ledger.proofs.Conflicts.{marked_reads, marked_writes, conflicts_from_meets, meets_from_conflicts}

-- the log that the house has, and any that begins so
module _ (s : Ledger) (i : ℕ) (l : i < count_of s.turns) where
  pub at_own : at (log_of s) i ≡ order_at s i
  at_own = get_or-map transaction (rows_of s.orders) i [] idle (omega (arith, s.ordered))

  pub at_log : (more : List Transaction) → at (log_of s ++ more) i ≡ order_at s i
  at_log more =
      get_or_append_left (log_of s) more idle i (omega (arith, s.ordered, length-map (rows_of s.orders) transaction)) ∙ at_own

pub marks_are : (s : Ledger) (i : ℕ) → marks_of s.turns i ≡ marks_for s.owner.number (order_at s i)
marks_are s i = same_from_alike_marks (marks_of s.turns i) (marks_for s.owner.number (order_at s i)) (s.matched i)

pub marked_within : (s : Ledger) (w : Bool) (i : ℕ) → marked w (marks_of s.turns i) ≡ true → i < count_of s.turns
marked_within s w i e =
    elim (cases_lt i (count_of s.turns)) [
      | inl l ↦ l
      | inr l ↦ absurd (both_ways (marked w (marks_of s.turns i)) (ap (marked w) (get_or_past (rows_of s.turns.marks) i [] (omega (arith, s.turns.counted)))) e)
    ]

-- os: a log that begins with what the house has
module _ (s : Ledger) (os : List Transaction) (log : (j : ℕ) → j < count_of s.turns → at os j ≡ order_at s j) where
  abbrev own : ℕ → ℕ → ℕ
  own i k = k % 16

  pub own_reads_of : (g i : ℕ) → i < count_of s.turns → own_reads os own g i ≡ filter (owns g) (order_at s i).reads
  own_reads_of g i l = ap (λ t. filter (owns g) t.reads) (log i l)

  pub own_reads_is : (i : ℕ) → i < count_of s.turns → own_reads os own s.owner.number i ≡ filter (owns s.owner.number) (order_at s i).reads
  own_reads_is = own_reads_of s.owner.number

  pub reads_is : (i : ℕ) → i < count_of s.turns → reads os own s.owner.number i ≡ marked false (marks_of s.turns i)
  reads_is i l = ap some (own_reads_is i l) ∙ sym (marked_reads s.owner.number (order_at s i)) ∙ ap (marked false) (sym (marks_are s i))

  pub writes_is : (i : ℕ) → i < count_of s.turns → writes os own s.owner.number i ≡ marked true (marks_of s.turns i)
  writes_is i l =
      ap (λ t. some (filter (owns s.owner.number) t.writes)) (log i l) ∙ sym (marked_writes s.owner.number (order_at s i)) ∙ ap (marked true) (sym (marks_are s i))

  -- what is done
  module _ (i : ℕ) (l : i < count_of s.turns) where
    rest : Bool
    rest = cond (reads os own s.owner.number i) (is_some ((state_of s).noted i)) true

    done_parts : done os own s.owner.number (state_of s) i ≡ cond (marked true (marks_of s.turns i)) (done_of s.turns i && marked true (marks_of s.turns i)) (cond (marked false (marks_of s.turns i)) (is_some ((state_of s).noted i)) true)
    done_parts =
        ap (λ b. b || cond (writes os own s.owner.number i) ((state_of s).wrote i) (cond (reads os own s.owner.number i) (is_some ((state_of s).noted i)) true)) (le-ltb i 0 (omega arith))
        ∙ ap (λ b. cond b ((state_of s).wrote i) (cond (reads os own s.owner.number i) (is_some ((state_of s).noted i)) true)) (writes_is i l)
        ∙ ap (λ b. cond (marked true (marks_of s.turns i)) ((state_of s).wrote i) (cond b (is_some ((state_of s).noted i)) true)) (reads_is i l)

    pub noted_some : is_some ((state_of s).noted i) ≡ looked_at s i
    noted_some = by (looked_at s i)
      where
        by : (b : Bool) → is_some (cond b (Some (note_of s.owner.number (order_at s i).reads (slots_at s i))) None) ≡ b
        by true = refl
        by false = refl

    pub done_is : done os own s.owner.number (state_of s) i ≡ done_of s.turns i
    done_is = done_parts ∙ by (marked true (marks_of s.turns i)) refl
      where
        right : (d : Bool) → (d && true) ≡ d
        right true = refl
        right false = refl

        reader : (r : Bool) → cond r (looked_at s i) true ≡ (not r || looked_at s i)
        reader true = refl
        reader false = refl

        by : (w : Bool) → marked true (marks_of s.turns i) ≡ w → cond w (done_of s.turns i && w) (cond (marked false (marks_of s.turns i)) (is_some ((state_of s).noted i)) true) ≡ done_of s.turns i
        by true e = right (done_of s.turns i)
        by false e =
            ap (λ b. cond (marked false (marks_of s.turns i)) b true) noted_some ∙ reader (marked false (marks_of s.turns i)) ∙ sym (s.read i (omega (arith, s.noted)) e)

  -- whose turn it is
  conflict_is : (i j k : ℕ) → i < count_of s.turns → j < count_of s.turns → conflict os own s.owner.number i j k ≡ true → conflicts (marks_of s.turns i) (marks_of s.turns j) ≡ true
  conflict_is i j k a b c =
      ap (λ ms. conflicts ms (marks_of s.turns j)) (marks_are s i) ∙ ap (conflicts (marks_for s.owner.number (order_at s i))) (marks_are s j)
      ∙ conflicts_from_meets s.owner.number (order_at s i) (order_at s j) k (sym (at_both i j k a b) ∙ c)
    where
      abbrev_meets : Transaction → Transaction → ℕ → Bool
      abbrev_meets t u k = conflict (t ∷ (u ∷ [])) own s.owner.number 0 1 k

      at_both : (i j k : ℕ) → i < count_of s.turns → j < count_of s.turns → conflict os own s.owner.number i j k ≡ abbrev_meets (order_at s i) (order_at s j) k
      at_both i j k a b = let p = log i a in let q = log j b in λ x. abbrev_meets (p x) (q x) k

  pub ready_to : (i : ℕ) → i < count_of s.turns → ready (marks_of s.turns) (done_of s.turns) i ≡ true → Ready os own s.owner.number (state_of s) i
  ready_to i l r j k b c =
      done_is j (omega arith) ∙ clear_true (marks_of s.turns) (done_of s.turns) (marks_of s.turns i) i j r b (conflict_is i j k l (omega arith) c)

  pub ready_from : (i : ℕ) → i < count_of s.turns → Ready os own s.owner.number (state_of s) i → ready (marks_of s.turns) (done_of s.turns) i ≡ true
  ready_from i l r =
      elim (cases_Bool (ready (marks_of s.turns) (done_of s.turns) i)) [
        | inl e ↦ e
        | inr e ↦ absurd (stuck (clear_false (marks_of s.turns) (done_of s.turns) (marks_of s.turns i) i e))
      ]
    where
      stuck : (p : ℕ) × (p < i) × (done_of s.turns p ≡ false) × (conflicts (marks_of s.turns i) (marks_of s.turns p) ≡ true) → ⊥
      stuck x =
          let m = meets_from_conflicts s.owner.number (order_at s i) (order_at s x.0) (ap (conflicts (marks_for s.owner.number (order_at s i))) (sym (marks_are s x.0)) ∙ ap (λ ms. conflicts ms (marks_of s.turns x.0)) (sym (marks_are s i)) ∙ x.3) in
          let lt : x.0 < count_of s.turns = omega (arith, x.1) in
          let p = log i l in
          let q = log x.0 lt in
          let c : conflict os own s.owner.number i x.0 m.0 ≡ true = (λ y. conflict (p y ∷ (q y ∷ [])) own s.owner.number 0 1 m.0) ∙ m.1 in
          both_ways (done_of s.turns x.0) x.2 (sym (done_is x.0 lt) ∙ r x.0 m.0 x.1 c)
