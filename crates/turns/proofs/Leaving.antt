-- The queues once an order has come behind the others, and once it is done.
use Rattle.std.proofs.Common.{◌≡◌, ℕ, zero, suc, ◌<◌, ◌≤◌, Bool, true, false, cond, ◌&&◌, eqb, ltb, List, [], ◌∷◌, ◌++◌, length, get_or, set, sym, refl, ap, ◌∙◌, inl, inr, arith}
use Rattle.std.proofs.lemmas.List.{append-nil, append_assoc, length-set, get_or-set_same, get_or-set_other}
use Rattle.std.proofs.lemmas.Bool.{cond-true, cond-false, cond_both, cases_lt, cases_eq, le-ltb, lt-ltb, eq-eqb, ne_eqb, or_parts}
use Rattle.turns.specs.Marks.{slot, blocks, put}
use Rattle.turns.specs.Queues.{entry, entered, queue, without, enter_all}
use Rattle.turns.specs.declared.entry.Mark.{Mark}
use Rattle.turns.specs.declared.entry.Entry.{Entry}
use Rattle.turns.proofs.Looking.{Before, queue_before}

-- a queue depends on the orders that it is of
pub queue_agrees : (marks marks' : ℕ → List Mark) (done done' : ℕ → Bool) (q n : ℕ) →
    ((j : ℕ) → j < n → marks j ≡ marks' j) → ((j : ℕ) → j < n → done j ≡ done' j) → queue marks done q n ≡ queue marks' done' q n
unfolding queue
queue_agrees marks marks' done done' q zero m d = refl
queue_agrees marks marks' done done' q (suc n) m d =
    let a : queue marks done q n ≡ queue marks' done' q n = queue_agrees marks marks' done done' q n (λ j l. m j (omega arith)) (λ j l. d j (omega arith)) in
    let b : marks n ≡ marks' n = m n (omega arith) in
    let c : done n ≡ done' n = d n (omega arith) in
    cc

-- taking an order out
module _ (i : ℕ) where
  without_append : (xs ys : List Entry) → Before (suc i) xs → without i (xs ++ ys) ≡ without i xs ++ without i ys
  unfolding without
  without_append [] ys a = refl
  without_append (x ∷ xs) ys a =
      let t : ltb i x.place ≡ false = le-ltb i x.place (omega (arith, a.0)) in
      let e = without_append xs ys a.1 in
      cond-false (ltb i x.place) (x ∷ (xs ++ ys)) (cond (eqb x.place i) (without i (xs ++ ys)) (x ∷ without i (xs ++ ys))) t
      ∙ ap (λ l. cond (eqb x.place i) l (x ∷ l)) e
      ∙ out (eqb x.place i)
      ∙ ap (λ l. l ++ without i ys) (sym (cond-false (ltb i x.place) (x ∷ xs) (cond (eqb x.place i) (without i xs) (x ∷ without i xs)) t))
    where
      out : (b : Bool) → cond b (without i xs ++ without i ys) (x ∷ (without i xs ++ without i ys)) ≡ cond b (without i xs) (x ∷ without i xs) ++ without i ys
      out true = refl
      out false = refl

  without_entered_late : (q j : ℕ) (ms : List Mark) → i < j → without i (entered q j ms) ≡ entered q j ms
  unfolding without
  without_entered_late q j [] l = refl
  without_entered_late q j (m ∷ ms) l =
      cond_both (eqb (slot m.key) q) (entry j m.writes ∷ entered q j ms) (entered q j ms) (λ es. without i es ≡ es)
      (λ _. cond-true (ltb i j) (entry j m.writes ∷ entered q j ms) (cond (eqb j i) (without i (entered q j ms)) (entry j m.writes ∷ without i (entered q j ms))) (lt-ltb i j l))
      (λ _. without_entered_late q j ms l)

  without_late : (xs : List Entry) (q j : ℕ) (ms : List Mark) → i < j → without i (xs ++ entered q j ms) ≡ without i xs ++ entered q j ms
  unfolding without
  without_late [] q j ms l = without_entered_late q j ms l
  without_late (x ∷ xs) q j ms l =
      ap (λ es. cond (ltb i x.place) (x ∷ (xs ++ entered q j ms)) (cond (eqb x.place i) es (x ∷ es))) (without_late xs q j ms l)
      ∙ out (ltb i x.place) (eqb x.place i)
    where
      out : (a b : Bool) → cond a (x ∷ (xs ++ entered q j ms)) (cond b (without i xs ++ entered q j ms) (x ∷ (without i xs ++ entered q j ms))) ≡ cond a (x ∷ xs) (cond b (without i xs) (x ∷ without i xs)) ++ entered q j ms
      out true b = refl
      out false true = refl
      out false false = refl

  without_entered_early : (q j : ℕ) (ms : List Mark) → j < i → without i (entered q j ms) ≡ entered q j ms
  unfolding without
  without_entered_early q j [] l = refl
  without_entered_early q j (m ∷ ms) l =
      cond_both (eqb (slot m.key) q) (entry j m.writes ∷ entered q j ms) (entered q j ms) (λ es. without i es ≡ es)
      (λ _. cond-false (ltb i j) (entry j m.writes ∷ entered q j ms) (cond (eqb j i) (without i (entered q j ms)) (entry j m.writes ∷ without i (entered q j ms))) (le-ltb i j (omega arith))
      ∙ cond-false (eqb j i) (without i (entered q j ms)) (entry j m.writes ∷ without i (entered q j ms)) (ne_eqb j i (λ e. omega arith))
      ∙ ap (λ es. entry j m.writes ∷ es) (without_entered_early q j ms l))
      (λ _. without_entered_early q j ms l)

  without_entered : (q : ℕ) (ms : List Mark) → without i (entered q i ms) ≡ []
  unfolding without
  without_entered q [] = refl
  without_entered q (m ∷ ms) =
      cond_both (eqb (slot m.key) q) (entry i m.writes ∷ entered q i ms) (entered q i ms) (λ es. without i es ≡ [])
      (λ _. cond-false (ltb i i) (entry i m.writes ∷ entered q i ms) (cond (eqb i i) (without i (entered q i ms)) (entry i m.writes ∷ without i (entered q i ms))) (le-ltb i i (omega arith))
      ∙ cond-true (eqb i i) (without i (entered q i ms)) (entry i m.writes ∷ without i (entered q i ms)) (eq-eqb i i refl) ∙ without_entered q ms)
      (λ _. without_entered q ms)

  module _ (marks : ℕ → List Mark) (done : ℕ → Bool) (q : ℕ) where
    abbrev last : ℕ → List Entry
    last n = cond (done n) [] (entered q n (marks n))

    at_it : put i true done i ≡ true
    at_it = cond-true (eqb i i) true (done i) (eq-eqb i i refl)

    elsewhere : (n : ℕ) → (n ≡ i → ⊥) → put i true done n ≡ done n
    elsewhere n ne = cond-false (eqb n i) true (done n) (ne_eqb n i ne)

    without_last : (n : ℕ) → n ≤ i → without i (last n) ≡ cond (put i true done n) [] (entered q n (marks n))
    unfolding without
    without_last n l =
        elim (cases_lt n i) [
          | inl m ↦ ap (λ b. without i (cond b [] (entered q n (marks n)))) (sym (elsewhere n (λ e. omega arith)))
              ∙ cond_both (put i true done n) [] (entered q n (marks n)) (λ es. without i es ≡ es) (λ _. refl) (λ _. without_entered_early q n (marks n) m)
          | inr m ↦
              let e : n ≡ i = omega arith in
              cond_both (done n) [] (entered q n (marks n)) (λ es. without i es ≡ []) (λ _. refl) (λ _. ap (λ j. without i (entered q j (marks n))) e ∙ without_entered q (marks n))
              ∙ sym (cond-true (put i true done n) [] (entered q n (marks n)) (ap (put i true done) e ∙ at_it))
        ]

    -- an order that is done is in no queue
    pub without_queue : (n : ℕ) → without i (queue marks done q n) ≡ queue marks (put i true done) q n
    unfolding queue without
    without_queue zero = refl
    without_queue (suc n) =
        elim (cases_lt i n) [
          | inl m ↦
              cond_both (done n) [] (entered q n (marks n)) (λ es. without i (queue marks done q n ++ es) ≡ without i (queue marks done q n) ++ es)
              (λ _. ap (without i) (append-nil (queue marks done q n)) ∙ sym (append-nil (without i (queue marks done q n)))) (λ _. without_late (queue marks done q n) q n (marks n) m)
              ∙ ap (λ es. es ++ last n) (without_queue n)
              ∙ ap (λ b. queue marks (put i true done) q n ++ cond b [] (entered q n (marks n))) (sym (elsewhere n (λ e. omega arith)))
          | inr m ↦
              without_append (queue marks done q n) (last n) (weaker n (suc i) (queue marks done q n) (omega arith) (queue_before marks done q n))
              ∙ ap (λ es. es ++ without i (last n)) (without_queue n)
              ∙ ap (λ es. queue marks (put i true done) q n ++ es) (without_last n m)
        ]
      where
        weaker : (n m : ℕ) (es : List Entry) → n ≤ m → Before n es → Before m es
        weaker n m [] l a = tt
        weaker n m (e ∷ es) l a = (omega (arith, a.0), weaker n m es l a.1)

    -- where it has no key nothing changes
    pub queue_untouched : (n : ℕ) → blocks true q (marks i) ≡ false → queue marks (put i true done) q n ≡ queue marks done q n
    unfolding queue
    queue_untouched zero e = refl
    queue_untouched (suc n) e =
        ap (λ es. es ++ cond (put i true done n) [] (entered q n (marks n))) (queue_untouched n e)
        ∙ ap (λ es. queue marks done q n ++ es) (elim (cases_eq n i) [
          | inl s ↦ nothing (put i true done n) (none (marks n) (ap (λ j. blocks true q (marks j)) s ∙ e)) ∙ sym (nothing (done n) (none (marks n) (ap (λ j. blocks true q (marks j)) s ∙ e)))
          | inr ne ↦ ap (λ b. cond b [] (entered q n (marks n))) (elsewhere n ne)
        ])
      where
        none : (ms : List Mark) → blocks true q ms ≡ false → entered q n ms ≡ []
        none [] e = refl
        none (m ∷ ms) e =
            let p = or_parts (eqb (slot m.key) q && true) (blocks true q ms) e in
            cond-false (eqb (slot m.key) q) (entry n m.writes ∷ entered q n ms) (entered q n ms) (and_true_false (eqb (slot m.key) q) p.0) ∙ none ms p.1
          where
            and_true_false : (b : Bool) → (b && true) ≡ false → b ≡ false
            and_true_false true f = f
            and_true_false false f = refl

        nothing : (b : Bool) → entered q n (marks n) ≡ [] → cond b [] (entered q n (marks n)) ≡ []
        nothing true f = refl
        nothing false f = f

-- all queues at once
pub enter_all_queue : (i : ℕ) (ms : List Mark) (qs : List (List Entry)) (q : ℕ) → q < length qs → get_or (enter_all i ms qs) q [] ≡ get_or qs q [] ++ entered q i ms
unfolding enter_all
enter_all_queue i [] qs q l = sym (append-nil (get_or qs q []))
enter_all_queue i (m ∷ ms) qs q l =
    enter_all_queue i ms (set qs (slot m.key) (get_or qs (slot m.key) [] ++ entry i m.writes ∷ [])) q (omega (arith, length-set qs (slot m.key) (get_or qs (slot m.key) [] ++ entry i m.writes ∷ [])))
    ∙ elim (cases_eq (slot m.key) q) [
      | inl e ↦
          ap (λ es. es ++ entered q i ms) (ap (λ s. get_or (set qs s (get_or qs s [] ++ entry i m.writes ∷ [])) q []) e ∙ get_or-set_same qs q (get_or qs q [] ++ entry i m.writes ∷ []) [] l)
          ∙ append_assoc (get_or qs q []) (entry i m.writes ∷ []) (entered q i ms)
          ∙ ap (λ es. get_or qs q [] ++ es) (sym (cond-true (eqb (slot m.key) q) (entry i m.writes ∷ entered q i ms) (entered q i ms) (eq-eqb (slot m.key) q e)))
      | inr ne ↦
          ap (λ es. es ++ entered q i ms) (get_or-set_other qs (slot m.key) q (get_or qs (slot m.key) [] ++ entry i m.writes ∷ []) [] (λ e. ne (sym e)))
          ∙ ap (λ es. get_or qs q [] ++ es) (sym (cond-false (eqb (slot m.key) q) (entry i m.writes ∷ entered q i ms) (entered q i ms) (ne_eqb (slot m.key) q ne)))
    ]
