-- Going from entry to entry and from mark to mark, and whether anybody stands in the way.
use Rattle.std.proofs.Common.{◌≡◌, ℕ, suc, ◌+◌, ◌<◌, ◌≤◌, Bool, true, false, cond, not, ◌&&◌, ◌||◌, eqb, leb, ltb, true≢false, List, [], ◌∷◌, ◌++◌, map, length, get_or, drop, vec_items, Option, Some, None, Bor, sym, refl, ap, ◌∙◌, inl, inr, arith}
use Rattle.std.specs.List.{list_all, position_or_len}
use Rattle.std.specs.Iterator.{Yields}
use Rattle.std.specs.VecDeque.Iter.{deque_iter_rest, deque_iter_steps}
use Rattle.std.specs.declared.collections.vec_deque.Iter.{Iter}
use Rattle.std.proofs.lemmas.Iterator.{YieldsList}
use Rattle.std.proofs.lemmas.Iterator.Consumers.{YieldsList-from_deque, YieldsList-turn, YieldsList-end}
use Rattle.std.proofs.lemmas.List.{get_or_past, get_or-map, drop_all, drop_more}
use Rattle.std.proofs.lemmas.Bool.{cases_lt, lt-ltb, le-ltb, lt-leb, le-leb, eq-eqb, ne_eqb}
use Rattle.rows.specs.Lists.{rows_of}
use Rattle.turns.specs.Marks.{slot, put, clear, ready}
use Rattle.turns.specs.Queues.{clear_in}
use Rattle.turns.specs.Entries.{entries_in}
use Rattle.turns.specs.State.{marks_of, done_of, count_of, queue_at}
use Rattle.turns.specs.declared.entry.Mark.{Mark}
use Rattle.turns.specs.declared.entry.Entry.{Entry}
use Rattle.turns.specs.declared.queue.Queue.{Queue}
use Rattle.turns.specs.declared.turns.Turns.{Turns}
use Rattle.turns.proofs.Looking.{clear_none, clear_cons, clear_in_queue}
use Rattle.turns.proofs.Alike.{same_from_alike}

opposite : (a p : ℕ) → leb p a ≡ not (ltb a p)
opposite a p =
    elim (cases_lt a p) [
      | inl l ↦ lt-leb p a l ∙ sym (ap not (lt-ltb a p l))
      | inr l ↦ le-leb p a l ∙ sym (ap not (le-ltb a p l))
    ]

-- whether the entries let one pass that waits: those that are no matter are passed over
module _ (p b : ℕ) (w : Bool) where
  abbrev pub counts : Entry → Bool
  counts e = (w || e.writes) || leb p e.place

  -- how many are passed over before the first that may matter
  abbrev ahead : List Entry → ℕ
  ahead es = position_or_len counts es

  pub clear_in_nobody : (es : List Entry) → (0 < length es → ⊥) → clear_in p b w es ≡ true
  unfolding clear_in
  clear_in_nobody [] n = refl
  clear_in_nobody (e ∷ es) n = absurd (n (omega arith))

  module _ (e : Entry) (es : List Entry) where
    clear_head : clear_in p b w (e ∷ es) ≡ cond (ltb e.place p) ((eqb e.place b || not (w || e.writes)) && clear_in p b w es) true
    unfolding clear_in
    clear_head = refl

    clear_beyond : p ≤ e.place → clear_in p b w (e ∷ es) ≡ true
    clear_beyond h = clear_head ∙ ap (λ c. cond c ((eqb e.place b || not (w || e.writes)) && clear_in p b w es) true) (le-ltb e.place p h)

    clear_before : e.place < p → clear_in p b w (e ∷ es) ≡ ((eqb e.place b || not (w || e.writes)) && clear_in p b w es)
    clear_before h = clear_head ∙ ap (λ c. cond c ((eqb e.place b || not (w || e.writes)) && clear_in p b w es) true) (lt-ltb e.place p h)

    clear_but : e.place < p → e.place ≡ b → clear_in p b w (e ∷ es) ≡ clear_in p b w es
    clear_but h is = clear_before h ∙ ap (λ c. (c || not (w || e.writes)) && clear_in p b w es) (eq-eqb e.place b is)

    -- one that counts, and stands before the place, is in the way
    clear_not : e.place < p → (e.place ≡ b → ⊥) → counts e ≡ true → clear_in p b w (e ∷ es) ≡ false
    clear_not h n c =
        let writes : (w || e.writes) ≡ true = known (w || e.writes) (ap (λ g. (w || e.writes) || g) (sym (lt-leb p e.place h)) ∙ c) in
        clear_before h ∙ ap (λ o. (o || not (w || e.writes)) && clear_in p b w es) (ne_eqb e.place b n) ∙ ap (λ u. not u && clear_in p b w es) writes
      where
        known : (u : Bool) → (u || false) ≡ true → u ≡ true
        known true k = refl
        known false k = k

    clear_over : counts e ≡ false → clear_in p b w (e ∷ es) ≡ clear_in p b w es
    clear_over c =
        clear_head ∙ step (w || e.writes) (leb p e.place) (ltb e.place p) (eqb e.place b) (opposite e.place p) c
      where
        step : (u g l o : Bool) → g ≡ not l → (u || g) ≡ false → cond l ((o || not u) && clear_in p b w es) true ≡ clear_in p b w es
        step true g l o n k = absurd (true≢false k)
        step false true l o n k = absurd (true≢false k)
        step false false true true n k = refl
        step false false true false n k = refl
        step false false false o n k = absurd (true≢false (sym n))

  pub clear_in_front : (es : List Entry) (d : Entry) → 0 < length es → d ≡ get_or es 0 d → p ≤ d.place → clear_in p b w es ≡ true
  clear_in_front [] d l is h = absurd (omega arith)
  clear_in_front (e ∷ es) d l is h = let place : d.place ≡ e.place = ap (λ (x : Entry). x.place) is in clear_beyond e es (omega (arith, h, place))

  pub passed_over : (es more : List Entry) → clear_in p b w (es ++ more) ≡ clear_in p b w (drop (ahead es) es ++ more)
  passed_over [] more = refl
  passed_over (e ∷ es) more = step (counts e) refl (passed_over es more)
    where
      step : (c : Bool) → counts e ≡ c → clear_in p b w (es ++ more) ≡ clear_in p b w (drop (ahead es) es ++ more) → clear_in p b w (e ∷ (es ++ more)) ≡ clear_in p b w (drop (cond (not c) (1 + ahead es) 0) (e ∷ es) ++ more)
      step true is rest = refl
      step false is rest = let next : suc (ahead es) ≡ 1 + ahead es = omega arith in clear_over e (es ++ more) is ∙ rest ∙ ap (λ n. clear_in p b w (drop n (e ∷ es) ++ more)) next

  ahead_counts : (es : List Entry) (d : Entry) → ahead es < length es → counts (get_or es (ahead es) d) ≡ true
  ahead_counts [] d l = absurd (omega arith)
  ahead_counts (e ∷ es) d l = step (counts e) refl l (ahead_counts es d)
    where
      step : (c : Bool) → counts e ≡ c → cond (not c) (1 + ahead es) 0 < length (e ∷ es) → (ahead es < length es → counts (get_or es (ahead es) d) ≡ true) → counts (get_or (e ∷ es) (cond (not c) (1 + ahead es) 0) d) ≡ true
      step true is m rest = is
      step false is m rest = let next : 1 + ahead es ≡ suc (ahead es) = omega arith in ap (λ n. counts (get_or (e ∷ es) n d)) next ∙ rest (omega arith)

  -- what is left from the entry on at which a search stopped
  module _ (es more : List Entry) (at : ℕ) (d : Entry) (is : at ≡ ahead es) (l : at < length es) where
    from_there : clear_in p b w (es ++ more) ≡ clear_in p b w (get_or es at d ∷ (drop (at + 1) es ++ more))
    from_there = passed_over es more ∙ ap (λ n. clear_in p b w (drop n es ++ more)) (sym is) ∙ ap (λ xs. clear_in p b w (xs ++ more)) (drop_more es at d l)

    pub stops_beyond : p ≤ (get_or es at d).place → clear_in p b w (es ++ more) ≡ true
    stops_beyond h = from_there ∙ clear_beyond (get_or es at d) (drop (at + 1) es ++ more) h

    pub stops_before : (get_or es at d).place < p → ((get_or es at d).place ≡ b → ⊥) → clear_in p b w (es ++ more) ≡ false
    stops_before h n = from_there ∙ clear_not (get_or es at d) (drop (at + 1) es ++ more) h n (ap (λ k. counts (get_or es k d)) is ∙ ahead_counts es d (omega (arith, is)))

    pub goes_on_behind : (get_or es at d).place < p → (get_or es at d).place ≡ b → clear_in p b w (es ++ more) ≡ clear_in p b w (drop (at + 1) es ++ more)
    goes_on_behind h o = from_there ∙ clear_but (get_or es at d) (drop (at + 1) es ++ more) h o

  pub passed_all : (es more : List Entry) → length es ≤ ahead es → clear_in p b w (es ++ more) ≡ clear_in p b w more
  passed_all es more h = passed_over es more ∙ ap (λ xs. clear_in p b w (xs ++ more)) (drop_all (ahead es) es h)

-- what the queue of a key holds
pub queue_of_key : (t : Turns) (k : ℕ) (q : Queue) → slot k < 4096 → q ≡ get_or (vec_items t.queues.by_key) (slot k) q → entries_in q ≡ queue_at t k
queue_of_key t k q l is =
    ap entries_in is
    ∙ sym (get_or-map entries_in (vec_items t.queues.by_key) (slot k) q [] (omega (arith, t.queues.sized)))
    ∙ same_from_alike (get_or (map entries_in (vec_items t.queues.by_key)) (slot k) []) (queue_at t k) (t.queued (slot k) l)

-- going through the queue of a key: where the entry stands to which one has come, and that all are passed at the end
module _ (t : Turns) (k : ℕ) (q : Queue) (l : slot k < 4096) (is : q ≡ get_or (vec_items t.queues.by_key) (slot k) q) (start : Iter Entry) (rest : deque_iter_rest start ≡ entries_in q) where
  queued : YieldsList (deque_iter_steps {X = Entry}) (λ y. y.now) start (queue_at t k)
  queued = YieldsList-from_deque (queue_at t k) (rest ∙ queue_of_key t k q l is)

  pub turn_of_key : (xs : List (Bor Entry)) (it : Iter Entry) → Yields deque_iter_steps start xs it → (r : Option (Bor Entry)) (u : Iter Entry) (x : Bor Entry) → r ≡ Some x → deque_iter_steps it r u →
      (length xs < length (queue_at t k)) × (x.now ≡ get_or (queue_at t k) (length xs) x.now)
  turn_of_key xs it y r u x e s = YieldsList-turn queued xs it y r u x e s

  pub end_of_key : (xs : List (Bor Entry)) (it : Iter Entry) → Yields deque_iter_steps start xs it → (r : Option (Bor Entry)) (u : Iter Entry) → r ≡ None → deque_iter_steps it r u → length xs ≡ length (queue_at t k)
  end_of_key xs it y r u e s = (YieldsList-end queued xs it y r u e s).1

-- the queues of its keys say whether an order is clear
module _ (t : Turns) (p b : ℕ) where
  abbrev clear_at : Mark → Bool
  clear_at m = clear_in p b m.writes (queue_at t m.key)

  clear_all : (ms : List Mark) → p ≤ count_of t → list_all clear_at ms ≡ clear (marks_of t) (put b true (done_of t)) ms p
  clear_all [] l = sym (clear_none (marks_of t) (put b true (done_of t)) p)
  clear_all (m ∷ ms) l =
      ap (λ a. clear_at m && a) (clear_all ms l)
      ∙ ap (λ a. a && clear (marks_of t) (put b true (done_of t)) ms p) (clear_in_queue p b m.writes (marks_of t) (done_of t) (slot m.key) (count_of t) l)
      ∙ sym (clear_cons (marks_of t) (put b true (done_of t)) m ms p)

  pub ready_all : list_all clear_at (marks_of t p) ≡ ready (marks_of t) (put b true (done_of t)) p
  ready_all =
      elim (cases_lt p (count_of t)) [
        | inl l ↦ clear_all (marks_of t p) (omega arith)
        | inr l ↦ let none : marks_of t p ≡ [] = get_or_past (rows_of t.marks) p [] (omega arith) in ap (list_all clear_at) none ∙ sym (ap (λ ms. clear (marks_of t) (put b true (done_of t)) ms p) none ∙ clear_none (marks_of t) (put b true (done_of t)) p)
      ]
