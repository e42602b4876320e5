-- What looking through a queue from its front finds is what the log says.
use Rattle.std.proofs.Common.{◌≡◌, ℕ, zero, suc, ◌<◌, ◌≤◌, Bool, true, false, cond, not, ◌&&◌, ◌||◌, eqb, ltb, List, [], ◌∷◌, ◌++◌, sym, refl, ap, ◌∙◌, inl, inr, arith}
use Rattle.std.specs.List.{AllByRecursion}
use Rattle.std.proofs.ByRecursion.{All-append, All-weaker}
use Rattle.std.proofs.lemmas.List.{append-nil}
use Rattle.std.proofs.lemmas.Bool.{cond-true, cond-false, cond_both, cases_lt, le-ltb, lt-ltb, ne_eqb}
use Rattle.turns.specs.Marks.{slot, blocks, conflicts, put, free, clear}
use Rattle.turns.specs.Queues.{entry, entered, queue, clear_in}
use Rattle.turns.specs.declared.entry.Mark.{Mark}
use Rattle.turns.specs.declared.entry.Entry.{Entry}

-- small facts on tests
or_true : (b : Bool) → (b || true) ≡ true
or_true true = refl
or_true false = refl

and_true : (b : Bool) → (b && true) ≡ b
and_true true = refl
and_true false = refl

and_assoc : (a b c : Bool) → ((a && b) && c) ≡ (a && (b && c))
and_assoc true b c = refl
and_assoc false b c = refl

split_wait : (f g b x y : Bool) → ((f && g) && (b || not (x || y))) ≡ ((f && (b || not x)) && (g && (b || not y)))
split_wait true true true x y = refl
split_wait true true false true true = refl
split_wait true true false true false = refl
split_wait true true false false true = refl
split_wait true true false false false = refl
split_wait true false true x y = refl
split_wait true false false true y = refl
split_wait true false false false y = refl
split_wait false g b x y = refl

module _ (marks : ℕ → List Mark) (done : ℕ → Bool) where
  pub clear_none : (n : ℕ) → clear marks done [] n ≡ true
  unfolding clear
  clear_none zero = refl
  clear_none (suc n) = ap (λ b. b && (done n || true)) (clear_none n) ∙ or_true (done n)

  pub clear_cons : (m : Mark) (ms : List Mark) (n : ℕ) → clear marks done (m ∷ ms) n ≡ (free marks done m.writes (slot m.key) n && clear marks done ms n)
  unfolding clear free
  clear_cons m ms zero = refl
  clear_cons m ms (suc n) =
      ap (λ b. b && (done n || not (conflicts (m ∷ ms) (marks n)))) (clear_cons m ms n)
      ∙ split_wait (free marks done m.writes (slot m.key) n) (clear marks done ms n) (done n) (blocks m.writes (slot m.key) (marks n)) (conflicts ms (marks n))

-- what is done at or after a place matters to none before it
module _ (marks : ℕ → List Mark) (done : ℕ → Bool) (i : ℕ) (ms : List Mark) where
  pub clear_put_later : (n : ℕ) → n ≤ i → clear marks (put i true done) ms n ≡ clear marks done ms n
  unfolding clear
  clear_put_later zero l = refl
  clear_put_later (suc n) l =
      let e : put i true done n ≡ done n = cond-false (eqb n i) true (done n) (ne_eqb n i (λ e. omega arith)) in
      let f : clear marks (put i true done) ms n ≡ clear marks done ms n = clear_put_later n (omega arith) in
      cc

-- the places of entries
abbrev pub Before : ℕ → List Entry → Type 0
Before n es = AllByRecursion (λ (e : Entry). e.place < n) es

before_more : (n m : ℕ) (es : List Entry) → n ≤ m → Before n es → Before m es
before_more n m es l a = All-weaker (λ (e : Entry). e.place < n) (λ (e : Entry). e.place < m) (λ e b. omega arith) es a

entered_before : (q i n : ℕ) (ms : List Mark) → i < n → Before n (entered q i ms)
entered_before q i n [] l = tt
entered_before q i n (m ∷ ms) l =
    cond_both (eqb (slot m.key) q) (entry i m.writes ∷ entered q i ms) (entered q i ms) (Before n) (λ _. (l, entered_before q i n ms l)) (λ _. entered_before q i n ms l)

module _ (marks : ℕ → List Mark) (done : ℕ → Bool) (q : ℕ) where
  pub queue_before : (n : ℕ) → Before n (queue marks done q n)
  unfolding queue
  queue_before zero = tt
  queue_before (suc n) =
      All-append (λ (e : Entry). e.place < suc n) (queue marks done q n) (cond (done n) [] (entered q n (marks n)))
      (before_more n (suc n) (queue marks done q n) (omega arith) (queue_before n))
      (cond_both (done n) [] (entered q n (marks n)) (Before (suc n)) (λ _. tt) (λ _. entered_before q n (suc n) (marks n) (omega arith)))

-- looking for whoever keeps one waiting
module _ (p b : ℕ) (w : Bool) where
  clear_in_append : (xs ys : List Entry) → Before p xs → clear_in p b w (xs ++ ys) ≡ (clear_in p b w xs && clear_in p b w ys)
  unfolding clear_in
  clear_in_append [] ys a = refl
  clear_in_append (x ∷ xs) ys a =
      let t : ltb x.place p ≡ true = lt-ltb x.place p a.0 in
      cond-true (ltb x.place p) ((eqb x.place b || not (w || x.writes)) && clear_in p b w (xs ++ ys)) true t
      ∙ ap (λ c. (eqb x.place b || not (w || x.writes)) && c) (clear_in_append xs ys a.1)
      ∙ sym (and_assoc (eqb x.place b || not (w || x.writes)) (clear_in p b w xs) (clear_in p b w ys))
      ∙ ap (λ c. c && clear_in p b w ys) (sym (cond-true (ltb x.place p) ((eqb x.place b || not (w || x.writes)) && clear_in p b w xs) true t))

  clear_in_entered_late : (q i : ℕ) (ms : List Mark) → p ≤ i → clear_in p b w (entered q i ms) ≡ true
  unfolding clear_in
  clear_in_entered_late q i [] l = refl
  clear_in_entered_late q i (m ∷ ms) l =
      cond_both (eqb (slot m.key) q) (entry i m.writes ∷ entered q i ms) (entered q i ms) (λ es. clear_in p b w es ≡ true)
      (λ _. cond-false (ltb i p) ((eqb i b || not (w || m.writes)) && clear_in p b w (entered q i ms)) true (le-ltb i p l)) (λ _. clear_in_entered_late q i ms l)

  -- entries at or after the place are not looked at
  clear_in_late : (xs : List Entry) (q i : ℕ) (ms : List Mark) → p ≤ i → clear_in p b w (xs ++ entered q i ms) ≡ clear_in p b w xs
  unfolding clear_in
  clear_in_late [] q i ms l = clear_in_entered_late q i ms l
  clear_in_late (x ∷ xs) q i ms l = ap (λ c. cond (ltb x.place p) ((eqb x.place b || not (w || x.writes)) && c) true) (clear_in_late xs q i ms l)

  clear_in_entered : (q i : ℕ) (ms : List Mark) → i < p → clear_in p b w (entered q i ms) ≡ (eqb i b || not (blocks w q ms))
  unfolding clear_in
  clear_in_entered q i [] l = sym (or_true (eqb i b))
  clear_in_entered q i (m ∷ ms) l =
      cond_both (eqb (slot m.key) q) (entry i m.writes ∷ entered q i ms) (entered q i ms) (λ es. clear_in p b w es ≡ (eqb i b || not (blocks w q (m ∷ ms))))
      (λ e. cond-true (ltb i p) ((eqb i b || not (w || m.writes)) && clear_in p b w (entered q i ms)) true (lt-ltb i p l)
      ∙ ap (λ c. (eqb i b || not (w || m.writes)) && c) (clear_in_entered q i ms l) ∙ joins (eqb i b) (w || m.writes) (blocks w q ms)
      ∙ ap (λ c. eqb i b || not ((c && (w || m.writes)) || blocks w q ms)) (sym e))
      (λ e. clear_in_entered q i ms l ∙ ap (λ c. eqb i b || not ((c && (w || m.writes)) || blocks w q ms)) (sym e))
    where
      joins : (b x y : Bool) → ((b || not x) && (b || not y)) ≡ (b || not (x || y))
      joins true x y = refl
      joins false true y = refl
      joins false false y = refl

  module _ (marks : ℕ → List Mark) (done : ℕ → Bool) (q : ℕ) where
    -- the queue of the first n orders, of which those before p matter
    clear_in_longer : (n : ℕ) → p ≤ n → clear_in p b w (queue marks done q n) ≡ clear_in p b w (queue marks done q p)
    unfolding queue
    clear_in_longer zero l = let e : zero ≡ p = omega arith in ap (λ n. clear_in p b w (queue marks done q n)) e
    clear_in_longer (suc n) l =
        elim (cases_lt n p) [
          | inl m ↦ let e : suc n ≡ p = omega arith in ap (λ n. clear_in p b w (queue marks done q n)) e
          | inr m ↦
              cond_both (done n) [] (entered q n (marks n)) (λ es. clear_in p b w (queue marks done q n ++ es) ≡ clear_in p b w (queue marks done q n))
              (λ _. ap (clear_in p b w) (append-nil (queue marks done q n))) (λ _. clear_in_late (queue marks done q n) q n (marks n) m)
              ∙ clear_in_longer n m
        ]

    clear_in_step : (n : ℕ) → n < p → clear_in p b w (cond (done n) [] (entered q n (marks n))) ≡ (put b true done n || not (blocks w q (marks n)))
    unfolding clear_in
    clear_in_step n l =
        cond_both (done n) [] (entered q n (marks n)) (λ es. clear_in p b w es ≡ (put b true done n || not (blocks w q (marks n))))
        (λ e. sym (ap (λ c. cond (eqb n b) true c || not (blocks w q (marks n))) e ∙ ap (λ c. c || not (blocks w q (marks n))) (either (eqb n b))))
        (λ e. clear_in_entered q n (marks n) l ∙ sym (ap (λ c. cond (eqb n b) true c || not (blocks w q (marks n))) e ∙ ap (λ c. c || not (blocks w q (marks n))) (itself (eqb n b))))
      where
        either : (x : Bool) → cond x true true ≡ true
        either true = refl
        either false = refl

        itself : (x : Bool) → cond x true false ≡ x
        itself true = refl
        itself false = refl

    clear_in_first : (n : ℕ) → n ≤ p → clear_in p b w (queue marks done q n) ≡ free marks (put b true done) w q n
    unfolding queue free clear_in
    clear_in_first zero l = refl
    clear_in_first (suc n) l =
        clear_in_append (queue marks done q n) (cond (done n) [] (entered q n (marks n))) (before_more n p (queue marks done q n) (omega arith) (queue_before marks done q n))
        ∙ ap (λ c. c && clear_in p b w (cond (done n) [] (entered q n (marks n)))) (clear_in_first n (omega arith))
        ∙ ap (λ c. free marks (put b true done) w q n && c) (clear_in_step n (omega arith))

    pub clear_in_queue : (n : ℕ) → p ≤ n → clear_in p b w (queue marks done q n) ≡ free marks (put b true done) w q p
    clear_in_queue n l = clear_in_longer n l ∙ clear_in_first p (omega arith)
