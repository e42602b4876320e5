-- What may be done after an order comes, a look, a write, or what is told.
use Rattle.std.proofs.Common.{◌≡◌, ℕ, zero, suc, ◌<◌, ◌≤◌, Bool, true, false, cond, not, ◌&&◌, ◌||◌, eqb, ltb, leb, List, [], ◌∷◌, length, get_or, set, Some, None, sym, refl, ap, ◌∙◌, inl, inr, arith}
use Rattle.std.proofs.lemmas.List.{get_or-set_same, get_or-set_other}
use Rattle.std.proofs.lemmas.Bool.{both_ways, not-true, not_from_false, and_parts, and_from, and_left, and_right, or_cases, or_left, or_right, cases_Bool, cases_eq, cond-true, cond-false, eqb-true, eq-eqb, ne_eqb, leb-true, le-leb, lt-ltb}
use Rattle.orders.specs.Transaction.{is_in}
use Rattle.orders.specs.Valid.{rising}
use Rattle.turns.specs.Marks.{put, ready, clear, conflicts}
use Rattle.turns.specs.State.{marks_of, done_of, count_of, Wakes}
use Rattle.turns.specs.declared.entry.Mark.{Mark}
use Rattle.ledger.specs.Own.{marked, known}
use Rattle.ledger.specs.State.{looked_at, slots_at, may_look, may_write}
use Rattle.ledger.specs.declared.ledger.Ledger.{Ledger}
use Rattle.ledger.proofs.Ties.{marked_within}
use Rattle.shard.specs.Tasks.{place_of, has, live, may_do, tasks_at, listed, places}
use Rattle.shard.specs.declared.task.Task.{Task}
use Rattle.shard.specs.declared.task.Task.TheVariants.{Look, Write}

-- the parts of what may be done
module _ (s : Ledger) (i : ℕ) where
  abbrev reads_here : Bool
  reads_here = marked false (marks_of s.turns i)

  abbrev writes_here : Bool
  writes_here = marked true (marks_of s.turns i)

  abbrev turn : Bool
  turn = ready (marks_of s.turns) (done_of s.turns) i

  abbrev looked : Bool
  looked = looked_at s i || not reads_here

  pub look_parts : may_look s i ≡ true → (reads_here ≡ true) × (looked_at s i ≡ false) × (turn ≡ true)
  look_parts e =
      let p = and_parts reads_here (not (looked_at s i) && turn) e in
      let q = and_parts (not (looked_at s i)) turn p.1 in
      (p.0, not-true (looked_at s i) q.0, q.1)

  look_from : reads_here ≡ true → looked_at s i ≡ false → may_look s i ≡ turn
  look_from r l = (λ x. r x && (not (looked_at s i) && turn)) ∙ ap (λ b. not b && turn) l

  pub write_parts : may_write s i ≡ true → (writes_here ≡ true) × (done_of s.turns i ≡ false) × (looked ≡ true) × (known (slots_at s i) ≡ true) × (turn ≡ true)
  write_parts e =
      let p = and_parts writes_here (not (done_of s.turns i) && (looked && (known (slots_at s i) && turn))) e in
      let q = and_parts (not (done_of s.turns i)) (looked && (known (slots_at s i) && turn)) p.1 in
      let r = and_parts looked (known (slots_at s i) && turn) q.1 in
      let t = and_parts (known (slots_at s i)) turn r.1 in
      (p.0, not-true (done_of s.turns i) q.0, r.0, t.0, t.1)

  write_from : writes_here ≡ true → done_of s.turns i ≡ false → looked ≡ true → known (slots_at s i) ≡ true → may_write s i ≡ turn
  write_from w d l k =
      (λ x. w x && (not (done_of s.turns i) && (looked && (known (slots_at s i) && turn)))) ∙ (λ x. not (d x) && (looked && (known (slots_at s i) && turn)))
      ∙ (λ x. l x && (known (slots_at s i) && turn)) ∙ (λ x. k x && turn)

  -- never both
  pub look_or_write : may_look s i ≡ true → may_write s i ≡ false
  look_or_write e =
      elim (cases_Bool (may_write s i)) [
        | inl w ↦ absurd (both_ways looked (unread (look_parts e).1 (look_parts e).0) (write_parts w).2)
        | inr w ↦ w
      ]
    where
      unread : looked_at s i ≡ false → reads_here ≡ true → looked ≡ false
      unread l r = (λ x. l x || not reads_here) ∙ ap not r

pub may_live : (s : Ledger) (t : Task) → may_do s t ≡ true → live s t ≡ true
may_live s (Look i) m = not_from_false (looked_at s i) (look_parts s i m).1
may_live s (Write i) m = not_from_false (done_of s.turns i) (write_parts s i m).1

swap : (a b : Bool) → (a && b) ≡ (b && a)
swap true true = refl
swap true false = refl
swap false true = refl
swap false false = refl

-- a place in front of others
here : (b n m : Bool) → (b ≡ true → m ≡ true) → (b || (n && m)) ≡ ((b || n) && m)
here true n m f = sym (f refl)
here false n m f = refl

elsewhere : (b n m : Bool) → (b ≡ true → m ≡ false) → (n && m) ≡ ((b || n) && m)
elsewhere true n m f = ap (λ x. n && x) (f refl) ∙ and_right n false refl ∙ sym (f refl)
elsewhere false n m f = refl

-- tasks of some places
module _ (s : Ledger) where
  pub has_look : (j : ℕ) (is : List ℕ) → has (Look j) (tasks_at s is) ≡ (is_in j is && may_look s j)
  has_look j [] = refl
  has_look j (i ∷ is) = by (may_look s i) (may_write s i) refl (has_look j is)
    where
      at : Bool → Bool → List Task
      at l w = listed (cond l (Some (Look i)) (cond w (Some (Write i)) None)) (tasks_at s is)

      by : (l w : Bool) → may_look s i ≡ l → has (Look j) (tasks_at s is) ≡ (is_in j is && may_look s j) → has (Look j) (at l w) ≡ (is_in j (i ∷ is) && may_look s j)
      by true w e r = ap (λ b. eqb j i || b) r ∙ here (eqb j i) (is_in j is) (may_look s j) (λ q. ap (may_look s) (eqb-true j i q) ∙ e)
      by false true e r = r ∙ elsewhere (eqb j i) (is_in j is) (may_look s j) (λ q. ap (may_look s) (eqb-true j i q) ∙ e)
      by false false e r = r ∙ elsewhere (eqb j i) (is_in j is) (may_look s j) (λ q. ap (may_look s) (eqb-true j i q) ∙ e)

  pub has_write : (j : ℕ) (is : List ℕ) → has (Write j) (tasks_at s is) ≡ (is_in j is && may_write s j)
  has_write j [] = refl
  has_write j (i ∷ is) = by (may_look s i) (may_write s i) refl refl (has_write j is)
    where
      at : Bool → Bool → List Task
      at l w = listed (cond l (Some (Look i)) (cond w (Some (Write i)) None)) (tasks_at s is)

      by : (l w : Bool) → may_look s i ≡ l → may_write s i ≡ w → has (Write j) (tasks_at s is) ≡ (is_in j is && may_write s j) → has (Write j) (at l w) ≡ (is_in j (i ∷ is) && may_write s j)
      by true w e f r = r ∙ elsewhere (eqb j i) (is_in j is) (may_write s j) (λ q. ap (may_write s) (eqb-true j i q) ∙ look_or_write s i e)
      by false true e f r = ap (λ b. eqb j i || b) r ∙ here (eqb j i) (is_in j is) (may_write s j) (λ q. ap (may_write s) (eqb-true j i q) ∙ f)
      by false false e f r = r ∙ elsewhere (eqb j i) (is_in j is) (may_write s j) (λ q. ap (may_write s) (eqb-true j i q) ∙ f)

  pub rising_tasks : (low : ℕ) (is : List ℕ) → rising low is ≡ true → rising low (places (tasks_at s is)) ≡ true
  rising_tasks low [] r = refl
  rising_tasks low (i ∷ is) r =
      let p = and_parts (leb low i) (rising (suc i) is) r in
      let rest = rising_tasks (suc i) is p.1 in
      by (may_look s i) (may_write s i) p.0 rest
    where
      lower : (n m : ℕ) (xs : List ℕ) → n ≤ m → rising m xs ≡ true → rising n xs ≡ true
      lower n m [] l r = refl
      lower n m (x ∷ xs) l r = let p = and_parts (leb m x) (rising (suc x) xs) r in and_from (leb n x) (rising (suc x) xs) (le-leb n x (omega (arith, leb-true m x p.0))) p.1

      by : (l w : Bool) → leb low i ≡ true → rising (suc i) (places (tasks_at s is)) ≡ true → rising low (places (listed (cond l (Some (Look i)) (cond w (Some (Write i)) None)) (tasks_at s is))) ≡ true
      by true w a b = and_from (leb low i) (rising (suc i) (places (tasks_at s is))) a b
      by false true a b = and_from (leb low i) (rising (suc i) (places (tasks_at s is))) a b
      by false false a b = lower low (suc i) (places (tasks_at s is)) (omega (arith, leb-true low i a)) b

-- more orders done keep nobody waiting
clear_more : (marks : ℕ → List Mark) (done done' : ℕ → Bool) (ms : List Mark) (n : ℕ) → ((p : ℕ) → done p ≡ true → done' p ≡ true) → clear marks done ms n ≡ true → clear marks done' ms n ≡ true
unfolding clear
clear_more marks done done' ms zero more e = refl
clear_more marks done done' ms (suc n) more e =
    let p = and_parts (clear marks done ms n) (done n || not (conflicts ms (marks n))) e in
    and_from (clear marks done' ms n) (done' n || not (conflicts ms (marks n))) (clear_more marks done done' ms n more p.0)
    (elim (or_cases (done n) (not (conflicts ms (marks n))) p.1) [
      | inl d ↦ or_left (done' n) (not (conflicts ms (marks n))) (more n d)
      | inr c ↦ or_right (done' n) (not (conflicts ms (marks n))) c
    ])

pub set_put : (xs : List Bool) (i : ℕ) → i < length xs → (λ j. get_or (set xs i true) j false) ≡ put i true (λ j. get_or xs j false)
set_put xs i l = λ x j. each j x
  where
    each : (j : ℕ) → get_or (set xs i true) j false ≡ put i true (λ j. get_or xs j false) j
    each j =
        elim (cases_eq j i) [
          | inl e ↦ ap (λ k. get_or (set xs i true) k false) e ∙ get_or-set_same xs i true false l ∙ sym (cond-true (eqb j i) true (get_or xs j false) (eq-eqb j i e))
          | inr ne ↦ get_or-set_other xs i j true false ne ∙ sym (cond-false (eqb j i) true (get_or xs j false) (ne_eqb j i ne))
        ]

-- the order at i is done: whoever waited for it alone goes on
module _ (s s' : Ledger) (i : ℕ) (woken : List ℕ) (marks_are : marks_of s'.turns ≡ marks_of s.turns) (done_is : done_of s'.turns ≡ put i true (done_of s.turns))
    (looked_is : (j : ℕ) → (j ≡ i → ⊥) → looked_at s' j ≡ looked_at s j) (slots_are : (j : ℕ) → (j ≡ i → ⊥) → slots_at s' j ≡ slots_at s j)
    (still : looked_at s i ≡ true → looked_at s' i ≡ true) (gone : may_look s i ≡ true → looked_at s' i ≡ true) (no_look : may_look s' i ≡ false) (wake : Wakes s.turns i woken) where
  done_more : (j : ℕ) → done_of s.turns j ≡ true → done_of s'.turns j ≡ true
  done_more j d = ap (λ f. f j) done_is ∙ either (eqb j i) (done_of s.turns j) d
    where
      either : (b x : Bool) → x ≡ true → cond b true x ≡ true
      either true x e = refl
      either false x e = e

  done_other : (j : ℕ) → (j ≡ i → ⊥) → done_of s'.turns j ≡ done_of s.turns j
  done_other j ne = ap (λ f. f j) done_is ∙ cond-false (eqb j i) true (done_of s.turns j) (ne_eqb j i ne)

  done_here : done_of s'.turns i ≡ true
  done_here = ap (λ f. f i) done_is ∙ cond-true (eqb i i) true (done_of s.turns i) (eq-eqb i i refl)

  marked_is : (w : Bool) (j : ℕ) → marked w (marks_of s'.turns j) ≡ marked w (marks_of s.turns j)
  marked_is w j = ap (λ f. marked w (f j)) marks_are

  turn_is : (j : ℕ) → ready (marks_of s'.turns) (done_of s'.turns) j ≡ ready (marks_of s.turns) (put i true (done_of s.turns)) j
  turn_is j = λ x. ready (marks_are x) (done_is x) j

  turn_more : (j : ℕ) → turn s j ≡ true → ready (marks_of s'.turns) (done_of s'.turns) j ≡ true
  turn_more j r =
      ap (λ f. ready f (done_of s'.turns) j) marks_are ∙ clear_more (marks_of s.turns) (done_of s.turns) (done_of s'.turns) (marks_of s.turns j) j done_more r

  no_write : may_write s' i ≡ false
  no_write = elim (cases_Bool (may_write s' i)) [ inl w ↦ absurd (both_ways (done_of s'.turns i) (write_parts s' i w).1 done_here) | inr w ↦ w ]

  pub finish_older : (t : Task) → live s' t ≡ true → live s t ≡ true
  finish_older (Look j) e =
      not_from_false (looked_at s j) (elim (cases_Bool (looked_at s j)) [
        | inl l ↦ absurd (both_ways (looked_at s' j) (not-true (looked_at s' j) e) (elim (cases_eq j i) [ inl q ↦ ap (looked_at s') q ∙ still (ap (looked_at s) (sym q) ∙ l) | inr ne ↦ looked_is j ne ∙ l ]))
        | inr l ↦ l
      ])
  finish_older (Write j) e =
      not_from_false (done_of s.turns j) (elim (cases_Bool (done_of s.turns j)) [
        | inl d ↦ absurd (both_ways (done_of s'.turns j) (not-true (done_of s'.turns j) e) (done_more j d))
        | inr d ↦ d
      ])

  looked_after : (j : ℕ) → (j ≡ i → ⊥) → looked s' j ≡ looked s j
  looked_after j ne = let a = looked_is j ne in let b = marked_is false j in λ x. a x || not (b x)

  pub finish_stays : (t : Task) → may_do s t ≡ true → live s' t ≡ true → may_do s' t ≡ true
  finish_stays (Look j) m l =
      elim (cases_eq j i) [
        | inl q ↦ absurd (both_ways (looked_at s' j) (not-true (looked_at s' j) l) (ap (looked_at s') q ∙ gone (ap (may_look s) (sym q) ∙ m)))
        | inr ne ↦
            let p = look_parts s j m in
            look_from s' j (marked_is false j ∙ p.0) (looked_is j ne ∙ p.1) ∙ turn_more j p.2
      ]
  finish_stays (Write j) m l =
      elim (cases_eq j i) [
        | inl q ↦ absurd (both_ways (done_of s'.turns j) (not-true (done_of s'.turns j) l) (ap (done_of s'.turns) q ∙ done_here))
        | inr ne ↦
            let p = write_parts s j m in
            write_from s' j (marked_is true j ∙ p.0) (done_other j ne ∙ p.1) (looked_after j ne ∙ p.2) (ap known (slots_are j ne) ∙ p.3) ∙ turn_more j p.4
      ]

  -- an undone order that may go on now was woken, unless it might go on before
  woken_is : (j : ℕ) → j < count_of s.turns → done_of s.turns j ≡ false → ready (marks_of s'.turns) (done_of s'.turns) j ≡ true → is_in j woken ≡ not (turn s j)
  woken_is j l d r =
      wake.are j ∙ (λ x. lt x && (not (done_of s.turns j) && (not (turn s j) && ready (marks_of s.turns) (put i true (done_of s.turns)) j))) ∙ (λ x. not (d x) && (not (turn s j) && ready (marks_of s.turns) (put i true (done_of s.turns)) j))
      ∙ ap (λ b. not (turn s j) && b) (sym (turn_is j) ∙ r) ∙ right (not (turn s j))
    where
      lt : ltb j (count_of s.turns) ≡ true
      lt = lt-ltb j (count_of s.turns) l

      right : (b : Bool) → (b && true) ≡ b
      right true = refl
      right false = refl

  pub finish_fresh : (t : Task) → has t (tasks_at s' woken) ≡ (may_do s' t && not (may_do s t))
  finish_fresh (Look j) =
      has_look s' j woken ∙ elim (cases_Bool (may_look s' j)) [
        | inl m ↦
            let ne : j ≡ i → ⊥ = λ q. both_ways (may_look s' j) (ap (may_look s') q ∙ no_look) m in
            let p = look_parts s' j m in
            let a : marked false (marks_of s.turns j) ≡ true = sym (marked_is false j) ∙ p.0 in
            let b : looked_at s j ≡ false = sym (looked_is j ne) ∙ p.1 in
            let d : done_of s.turns j ≡ false = elim (cases_Bool (done_of s.turns j)) [ inl x ↦ absurd (both_ways (looked_at s j) b (s.seen j x a)) | inr x ↦ x ] in
            (λ x. woken_is j (marked_within s false j a) d p.2 x && may_look s' j) ∙ swap (not (turn s j)) (may_look s' j) ∙ ap (λ b. may_look s' j && not b) (sym (look_from s j a b))
        | inr m ↦ and_right (is_in j woken) (may_look s' j) m ∙ sym (and_left (may_look s' j) (not (may_look s j)) m)
      ]
  finish_fresh (Write j) =
      has_write s' j woken ∙ elim (cases_Bool (may_write s' j)) [
        | inl m ↦
            let ne : j ≡ i → ⊥ = λ q. both_ways (may_write s' j) (ap (may_write s') q ∙ no_write) m in
            let p = write_parts s' j m in
            let a : marked true (marks_of s.turns j) ≡ true = sym (marked_is true j) ∙ p.0 in
            let d : done_of s.turns j ≡ false = sym (done_other j ne) ∙ p.1 in
            (λ x. woken_is j (marked_within s true j a) d p.4 x && may_write s' j) ∙ swap (not (turn s j)) (may_write s' j)
            ∙ ap (λ b. may_write s' j && not b) (sym (write_from s j a d (sym (looked_after j ne) ∙ p.2) (ap known (sym (slots_are j ne)) ∙ p.3)))
        | inr m ↦ and_right (is_in j woken) (may_write s' j) m ∙ sym (and_left (may_write s' j) (not (may_write s j)) m)
      ]

-- a step of one order alone: nothing is done, and no other order is touched
module _ (s s' : Ledger) (i : ℕ) (marks_are : (j : ℕ) → (j ≡ i → ⊥) → marks_of s'.turns j ≡ marks_of s.turns j)
    (turns_are : (j : ℕ) → (j ≡ i → ⊥) → ready (marks_of s'.turns) (done_of s'.turns) j ≡ ready (marks_of s.turns) (done_of s.turns) j)
    (done_is : (j : ℕ) → (j ≡ i → ⊥) → done_of s'.turns j ≡ done_of s.turns j)
    (looked_is : (j : ℕ) → (j ≡ i → ⊥) → looked_at s' j ≡ looked_at s j) (slots_are : (j : ℕ) → (j ≡ i → ⊥) → slots_at s' j ≡ slots_at s j) where
  pub other_may : (t : Task) → (place_of t ≡ i → ⊥) → may_do s' t ≡ may_do s t
  other_may (Look j) ne =
      let a = marks_are j ne in let b = looked_is j ne in let c = turns_are j ne in
      λ x. marked false (a x) && (not (b x) && c x)
  other_may (Write j) ne =
      let a = marks_are j ne in let b = looked_is j ne in let c = turns_are j ne in let d = done_is j ne in let e = slots_are j ne in
      λ x. marked true (a x) && (not (d x) && ((b x || not (marked false (a x))) && (known (e x) && c x)))

  pub other_live : (t : Task) → (place_of t ≡ i → ⊥) → live s' t ≡ live s t
  other_live (Look j) ne = ap not (looked_is j ne)
  other_live (Write j) ne = ap not (done_is j ne)
