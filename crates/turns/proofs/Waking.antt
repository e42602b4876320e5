-- Whoever waits for an order and for no other is found where that order's keys are.
use Rattle.std.proofs.Common.{◌≡◌, ℕ, zero, suc, ◌<◌, ◌≤◌, Bool, true, false, cond, not, ◌&&◌, ◌||◌, eqb, ltb, List, [], ◌∷◌, ◌++◌, sym, refl, ap, ◌∙◌, inl, inr, arith}
use Rattle.std.proofs.lemmas.List.{append-nil, append_assoc}
use Rattle.std.proofs.lemmas.Bool.{both_ways, not-true, not-false, ltb-true, lt-ltb, eqb-true, eq-eqb, ne_eqb, cond-true, cond-false, cond_both, cases_Bool, cases_lt, and_parts, and_from, and_cases, or_cases, or_parts, or_left, or_right}
use Rattle.orders.specs.Transaction.{is_in}
use Rattle.turns.specs.Marks.{slot, blocks, conflicts, put, free, clear, ready, wakes}
use Rattle.turns.specs.Queues.{entry, entered, queue, clear_in, next_in, nexts}
use Rattle.turns.specs.declared.entry.Mark.{Mark}
use Rattle.turns.specs.declared.entry.Entry.{Entry}
use Rattle.turns.proofs.Looking.{Before, queue_before, clear_cons, clear_in_queue}

module _ (marks : ℕ → List Mark) (done : ℕ → Bool) where
  -- who keeps one waiting
  pub clear_false : (ms : List Mark) (n : ℕ) → clear marks done ms n ≡ false → (p : ℕ) × (p < n) × (done p ≡ false) × (conflicts ms (marks p) ≡ true)
  unfolding clear
  clear_false ms zero e = let z : ◌≡◌ {A = ℕ} 0 1 = cc in absurd (omega arith)
  clear_false ms (suc n) e =
      elim (and_cases (clear marks done ms n) (done n || not (conflicts ms (marks n))) e) [
        | inl f ↦ let r = clear_false ms n f in (r.0, omega (arith, r.1), r.2, r.3)
        | inr f ↦ let p = or_parts (done n) (not (conflicts ms (marks n))) f in (n, omega arith, p.0, not-false (conflicts ms (marks n)) p.1)
      ]

  pub clear_true : (ms : List Mark) (n p : ℕ) → clear marks done ms n ≡ true → p < n → conflicts ms (marks p) ≡ true → done p ≡ true
  unfolding clear
  clear_true ms zero p e l c = absurd (omega arith)
  clear_true ms (suc n) p e l c =
      let t = and_parts (clear marks done ms n) (done n || not (conflicts ms (marks n))) e in
      elim (cases_lt p n) [
        | inl m ↦ clear_true ms n p t.0 m c
        | inr m ↦
            let same : n ≡ p = omega arith in
            elim (or_cases (done n) (not (conflicts ms (marks n))) t.1) [
              | inl d ↦ ap done (sym same) ∙ d
              | inr f ↦ absurd (both_ways (conflicts ms (marks n)) (not-true (conflicts ms (marks n)) f) (ap (λ j. conflicts ms (marks j)) same ∙ c))
            ]
      ]

-- looking on from the entries of one done
module _ (i : ℕ) (w : Bool) where
  -- past entries that are its own or that, as it writes, only read
  past : (p j : ℕ) (v : Bool) (xs ys : List Entry) → Before p xs → clear_in p i v xs ≡ true → (v || w) ≡ true → is_in j (next_in i w ys) ≡ true → is_in j (next_in i w (xs ++ ys)) ≡ true
  unfolding next_in clear_in
  past p j v [] ys a c t h = h
  past p j v (x ∷ xs) ys a c t h =
      let e = sym (cond-true (ltb x.place p) ((eqb x.place i || not (v || x.writes)) && clear_in p i v xs) true (lt-ltb x.place p a.0)) ∙ c in
      let f = and_parts (eqb x.place i || not (v || x.writes)) (clear_in p i v xs) e in
      let rest = past p j v xs ys a.1 f.1 t h in
      cond_both (eqb x.place i) (next_in i w (xs ++ ys)) (x.place ∷ cond (w && not x.writes) (next_in i w (xs ++ ys)) []) (λ l. is_in j l ≡ true)
      (λ _. rest)
      (λ ne. or_right (eqb j x.place) (is_in j (cond (w && not x.writes) (next_in i w (xs ++ ys)) []))
      (ap (is_in j) (cond-true (w && not x.writes) (next_in i w (xs ++ ys)) [] (goes v w x.writes t (others (eqb x.place i) (not (v || x.writes)) f.0 ne))) ∙ rest))
    where
      others : (a b : Bool) → (a || b) ≡ true → a ≡ false → b ≡ true
      others true b e f = absurd (both_ways true f refl)
      others false b e f = e

      goes : (v w r : Bool) → (v || w) ≡ true → not (v || r) ≡ true → (w && not r) ≡ true
      goes true w r t n = absurd (both_ways true (sym n) refl)
      goes false true r t n = n
      goes false false r t n = absurd (both_ways false refl t)

  first : (q j : ℕ) (ms : List Mark) (rest : List Entry) → (j ≡ i → ⊥) → blocks true q ms ≡ true → is_in j (next_in i w (entered q j ms ++ rest)) ≡ true
  unfolding next_in
  first q j [] rest ne b = absurd (both_ways false refl b)
  first q j (m ∷ ms) rest ne b =
      cond_both (eqb (slot m.key) q) (entry j m.writes ∷ entered q j ms) (entered q j ms) (λ es. is_in j (next_in i w (es ++ rest)) ≡ true)
      (λ _. ap (is_in j) (cond-false (eqb j i) (next_in i w (entered q j ms ++ rest)) (j ∷ cond (w && not m.writes) (next_in i w (entered q j ms ++ rest)) []) (ne_eqb j i ne))
      ∙ or_left (eqb j j) (is_in j (cond (w && not m.writes) (next_in i w (entered q j ms ++ rest)) [])) (eq-eqb j j refl))
      (λ f. first q j ms rest ne (elim (or_cases (eqb (slot m.key) q && true) (blocks true q ms) b) [
        | inl x ↦ absurd (both_ways (eqb (slot m.key) q) f (and_parts (eqb (slot m.key) q) true x).0)
        | inr x ↦ x
      ]))

module _ (marks : ℕ → List Mark) (done : ℕ → Bool) where
  -- the entries of the orders from j on
  pub later : (q j n : ℕ) → j ≤ n → (rest : List Entry) × (queue marks done q n ≡ queue marks done q j ++ rest)
  unfolding queue
  later q j zero l = let e : j ≡ zero = omega arith in ([], ap (queue marks done q) (sym e) ∙ sym (append-nil (queue marks done q j)))
  later q j (suc n) l =
      elim (cases_lt n j) [
        | inl m ↦ let e : j ≡ suc n = omega arith in ([], ap (queue marks done q) (sym e) ∙ sym (append-nil (queue marks done q j)))
        | inr m ↦
            let r = later q j n m in (
              r.0 ++ cond (done n) [] (entered q n (marks n)),
              ap (λ es. es ++ cond (done n) [] (entered q n (marks n))) r.1 ∙ append_assoc (queue marks done q j) r.0 (cond (done n) [] (entered q n (marks n))),
            )
      ]

  -- the order at j, which has the marks ms and others, waits for the one at i
  module _ (n i j : ℕ) (within : j < n) (undone : done j ≡ false) (apart : j ≡ i → ⊥) where
    queue_step : (q : ℕ) → queue marks done q (suc j) ≡ queue marks done q j ++ entered q j (marks j)
    unfolding queue
    queue_step q = ap (λ es. queue marks done q j ++ es) (cond-false (done j) [] (entered q j (marks j)) undone)

    queue_at : (q : ℕ) → (rest : List Entry) × (queue marks done q n ≡ queue marks done q j ++ (entered q j (marks j) ++ rest))
    queue_at q =
        let r = later q (suc j) n within in
        (r.0, r.1 ∙ ap (λ es. es ++ r.0) (queue_step q) ∙ append_assoc (queue marks done q j) (entered q j (marks j)) r.0)

    found_at : (q : ℕ) (v w : Bool) → blocks true q (marks j) ≡ true → free marks (put i true done) v q j ≡ true → (v || w) ≡ true → is_in j (next_in i w (queue marks done q n)) ≡ true
    found_at q v w b f t =
        let r = queue_at q in
        ap (λ es. is_in j (next_in i w es)) r.1
        ∙ past i w j j v (queue marks done q j) (entered q j (marks j) ++ r.0) (queue_before marks done q j) (clear_in_queue j i v marks done q j (omega arith) ∙ f) t (first i w q j (marks j) r.0 apart b)

    among : (q : ℕ) (v : Bool) (ns : List Mark) → blocks true q (marks j) ≡ true → free marks (put i true done) v q j ≡ true → blocks v q ns ≡ true → nexts marks done n i j ns ≡ true
    unfolding nexts
    among q v [] b f c = absurd (both_ways false refl c)
    among q v (m ∷ ns) b f c =
        elim (or_cases (eqb (slot m.key) q && (v || m.writes)) (blocks v q ns) c) [
          | inl x ↦
              let p = and_parts (eqb (slot m.key) q) (v || m.writes) x in
              or_left (is_in j (next_in i m.writes (queue marks done (slot m.key) n))) (nexts marks done n i j ns)
              (ap (λ s. is_in j (next_in i m.writes (queue marks done s n))) (eqb-true (slot m.key) q p.0) ∙ found_at q v m.writes b f p.1)
          | inr x ↦ or_right (is_in j (next_in i m.writes (queue marks done (slot m.key) n))) (nexts marks done n i j ns) (among q v ns b f x)
        ]

    some_mark : (ms ns : List Mark) → ((q : ℕ) → blocks true q ms ≡ true → blocks true q (marks j) ≡ true) → clear marks (put i true done) ms j ≡ true → conflicts ms ns ≡ true → nexts marks done n i j ns ≡ true
    some_mark [] ns sub c x = absurd (both_ways false refl x)
    some_mark (m ∷ ms) ns sub c x =
        let s = slot m.key in
        let p = and_parts (free marks (put i true done) m.writes s j) (clear marks (put i true done) ms j) (sym (clear_cons marks (put i true done) m ms j) ∙ c) in
        elim (or_cases (blocks m.writes s ns) (conflicts ms ns) x) [
          | inl y ↦ among s m.writes ns (sub s (or_left (eqb s s && true) (blocks true s ms) (and_from (eqb s s) true (eq-eqb s s refl) refl))) p.0 y
          | inr y ↦ some_mark ms ns (λ q b. sub q (or_right (eqb s q && true) (blocks true q ms) b)) p.1 y
        ]

  -- no lost wake-up: whoever goes on once the order at i is done is found from its marks
  pub wakes_found : (n i j : ℕ) → wakes marks done n i j ≡ true → nexts marks done n i j (marks i) ≡ true
  wakes_found n i j e =
      let a = and_parts (ltb j n) (not (done j) && (not (ready marks done j) && ready marks (put i true done) j)) e in
      let b = and_parts (not (done j)) (not (ready marks done j) && ready marks (put i true done) j) a.1 in
      let c = and_parts (not (ready marks done j)) (ready marks (put i true done) j) b.1 in
      let r = clear_false marks done (marks j) j (not-true (ready marks done j) c.0) in
      let d : put i true done r.0 ≡ true = clear_true marks (put i true done) (marks j) j r.0 c.1 r.1 r.3 in
      let same : r.0 ≡ i = only r.0 r.2 d in
      some_mark n i j (ltb-true j n a.0) (not-true (done j) b.0) (λ q. omega (arith, r.1, same)) (marks j) (marks i) (λ q b. b) c.1 (ap (λ p. conflicts (marks j) (marks p)) (sym same) ∙ r.3)
    where
      only : (p : ℕ) → done p ≡ false → put i true done p ≡ true → p ≡ i
      only p f t = elim (cases_Bool (eqb p i)) [ inl q ↦ eqb-true p i q | inr q ↦ absurd (both_ways (done p) f (sym (cond-false (eqb p i) true (done p) q) ∙ t)) ]
