-- Who may go on once an order is done, as it is found from queue to queue.
use Rattle.std.proofs.Common.{◌≡◌, ℕ, zero, suc, ◌+◌, ◌<◌, ◌≤◌, Bool, true, false, cond, not, ◌&&◌, ◌||◌, eqb, List, [], ◌∷◌, length, get_or, drop, IfErr, Ok, Err, Result, sym, refl, ap, ◌∙◌, subst, inl, inr, arith}
use Rattle.std.specs.List.{AllByRecursion}
use Rattle.std.proofs.ByRecursion.{All-append, All-weaker, All-get_or}
use Rattle.std.proofs.lemmas.List.{at_drop_more, at_drop_all}
use Rattle.std.proofs.lemmas.Bool.{cond-true, cond-false, cond_both, cases_Bool, lt-ltb, eqb-true, eq-eqb, ne_eqb, and_right}
use Rattle.orders.specs.Transaction.{is_in}
use Rattle.turns.specs.Marks.{slot, put, ready, wakes}
use Rattle.turns.specs.Queues.{entry, entered, queue, next_in, nexts}
use Rattle.turns.specs.State.{marks_of, done_of, count_of, queue_at}
use Rattle.turns.specs.declared.entry.Mark.{Mark}
use Rattle.turns.specs.declared.entry.Entry.{Entry}
use Rattle.turns.specs.declared.turns.Turns.{Turns}
use Rattle.turns.proofs.Looking.{clear_put_later}
use Rattle.turns.proofs.Waking.{wakes_found}

-- small facts on tests
or_false : (b : Bool) → (b || false) ≡ b
or_false true = refl
or_false false = refl

joins : (a b c x : Bool) → ((b && c) || ((a && c) || x)) ≡ (((a || b) && c) || x)
joins true true true x = refl
joins true true false x = refl
joins true false c x = refl
joins false true true x = refl
joins false true false x = refl
joins false false c x = refl

follows : (a b : Bool) → (b ≡ true → a ≡ true) → (a && b) ≡ b
follows true b h = refl
follows false true h = h refl
follows false false h = refl

-- what holds whatever a call answers
pub refused_anyway : {X Y : Type 0} (r : Result X Y) (P : Type 0) → P → IfErr r (λ _. P)
refused_anyway (Ok x) P p = tt
refused_anyway (Err y) P p = p

-- a list of one place, of those that pass a test
module _ (f : ℕ → Bool) (j w : ℕ) where
  one_passes : (is_in j (w ∷ []) && f j) ≡ (eqb j w && f w)
  one_passes =
      elim (cases_Bool (eqb j w)) [
        | inl t ↦ ap (λ x. (x || false) && f j) t ∙ ap f (eqb-true j w t) ∙ sym (ap (λ x. x && f w) t)
        | inr t ↦ ap (λ x. (x || false) && f j) t ∙ sym (ap (λ x. x && f w) t)
      ]

  pub passes_not : (x : Bool) → f w ≡ false → x ≡ ((is_in j (w ∷ []) && f j) || x)
  passes_not x h = sym (ap (λ y. y || x) (one_passes ∙ and_right (eqb j w) (f w) h))

  pub passes : (x : Bool) → f w ≡ true → (eqb j w || x) ≡ ((is_in j (w ∷ []) && f j) || x)
  passes x h = sym (ap (λ y. y || x) (one_passes ∙ ap (λ y. eqb j w && y) h ∙ and_true (eqb j w)))
    where
      and_true : (b : Bool) → (b && true) ≡ b
      and_true true = refl
      and_true false = refl

-- whether the order at w, not done yet, waits for the one at p and for no other
module _ (t : Turns) (w p : ℕ) (within : w < count_of t) (undone : done_of t w ≡ false) where
  waits : (r s : Bool) → r ≡ ready (marks_of t) (put w true (done_of t)) w → s ≡ ready (marks_of t) (put p true (done_of t)) w → wakes (marks_of t) (done_of t) (count_of t) p w ≡ (not r && s)
  waits r s own other =
      ap (λ x. x && (not (done_of t w) && (not (ready (marks_of t) (done_of t) w) && ready (marks_of t) (put p true (done_of t)) w))) (lt-ltb w (count_of t) within)
      ∙ ap (λ x. not x && (not (ready (marks_of t) (done_of t) w) && ready (marks_of t) (put p true (done_of t)) w)) undone
      ∙ ap (λ x. not x && ready (marks_of t) (put p true (done_of t)) w) (sym (own ∙ clear_put_later (marks_of t) (done_of t) w (marks_of t w) w (omega arith)))
      ∙ ap (λ x. not r && x) (sym other)

  pub waits_for_none : true ≡ ready (marks_of t) (put w true (done_of t)) w → wakes (marks_of t) (done_of t) (count_of t) p w ≡ false
  waits_for_none own = waits true (ready (marks_of t) (put p true (done_of t)) w) own refl

  pub waits_for_another : false ≡ ready (marks_of t) (put p true (done_of t)) w → wakes (marks_of t) (done_of t) (count_of t) p w ≡ false
  waits_for_another other = waits (ready (marks_of t) (put w true (done_of t)) w) false refl other ∙ and_right (not (ready (marks_of t) (put w true (done_of t)) w)) false refl

  pub waits_for_it : false ≡ ready (marks_of t) (put w true (done_of t)) w → true ≡ ready (marks_of t) (put p true (done_of t)) w → wakes (marks_of t) (done_of t) (count_of t) p w ≡ true
  waits_for_it own other = waits false true own other

-- the entries of a queue are of orders that are not done
module _ (marks : ℕ → List Mark) (done : ℕ → Bool) where
  abbrev pub Undone : ℕ → List Entry → Type 0
  Undone n es = AllByRecursion (λ (e : Entry). (e.place < n) × (done e.place ≡ false)) es

  entered_undone : (q i n : ℕ) (ms : List Mark) → i < n → done i ≡ false → Undone n (entered q i ms)
  entered_undone q i n [] l d = tt
  entered_undone q i n (m ∷ ms) l d =
      cond_both (eqb (slot m.key) q) (entry i m.writes ∷ entered q i ms) (entered q i ms) (Undone n)
      (λ _. ((l, d), entered_undone q i n ms l d)) (λ _. entered_undone q i n ms l d)

  pub queue_undone : (q n : ℕ) → Undone n (queue marks done q n)
  unfolding queue
  queue_undone q zero = tt
  queue_undone q (suc n) =
      All-append (λ (e : Entry). (e.place < suc n) × (done e.place ≡ false)) (queue marks done q n) (cond (done n) [] (entered q n (marks n)))
      (All-weaker (λ (e : Entry). (e.place < n) × (done e.place ≡ false)) (λ (e : Entry). (e.place < suc n) × (done e.place ≡ false)) (λ e h. (omega (arith, h.0), h.1)) (queue marks done q n) (queue_undone q n))
      (cond_both (done n) [] (entered q n (marks n)) (Undone (suc n)) (λ _. tt) (λ d. entered_undone q n (suc n) (marks n) (omega arith) d))

pub entry_undone : (t : Turns) (k i : ℕ) (e : Entry) → i < length (queue_at t k) → e ≡ get_or (queue_at t k) i e → (e.place < count_of t) × (done_of t e.place ≡ false)
entry_undone t k i e l is =
    let P : Entry → Type 0 = λ d. (d.place < count_of t) × (done_of t d.place ≡ false) in
    subst P (sym is) (All-get_or P (queue_at t k) i e l (queue_undone (marks_of t) (done_of t) (slot k) (count_of t)))

-- the entry e at i of a queue, that is passed or that may be woken
module _ (p : ℕ) (v : Bool) (f : ℕ → Bool) (es : List Entry) (i : ℕ) (e : Entry) (within : i < length es) (is : e ≡ get_or es i e) where
  abbrev rest : List ℕ
  rest = next_in p v (drop (i + 1) es)

  next_in_more : next_in p v (drop i es) ≡ cond (eqb e.place p) rest (e.place ∷ cond (v && not e.writes) rest [])
  unfolding next_in
  next_in_more = at_drop_more (next_in p v) es i e within ∙ ap (λ (d : Entry). cond (eqb d.place p) rest (d.place ∷ cond (v && not d.writes) rest [])) (sym is)

  pub next_own : e.place ≡ p → (j : ℕ) (x : Bool) → ((is_in j rest && f j) || x) ≡ ((is_in j (next_in p v (drop i es)) && f j) || x)
  next_own own j x =
      sym (ap (λ (js : List ℕ). (is_in j js && f j) || x) (next_in_more ∙ cond-true (eqb e.place p) rest (e.place ∷ cond (v && not e.writes) rest []) (eq-eqb e.place p own)))

  next_other : (e.place ≡ p → ⊥) → next_in p v (drop i es) ≡ e.place ∷ cond (v && not e.writes) rest []
  next_other other = next_in_more ∙ cond-false (eqb e.place p) rest (e.place ∷ cond (v && not e.writes) rest []) (ne_eqb e.place p other)

  pub next_last : (e.place ≡ p → ⊥) → (v && not e.writes) ≡ false → (j : ℕ) (x y : Bool) → y ≡ ((is_in j (e.place ∷ []) && f j) || x) → y ≡ ((is_in j (next_in p v (drop i es)) && f j) || x)
  next_last other last j x y woken =
      woken ∙ sym (ap (λ (js : List ℕ). (is_in j js && f j) || x) (next_other other ∙ ap (λ (js : List ℕ). e.place ∷ js) (cond-false (v && not e.writes) rest [] last)))

  pub next_further : (e.place ≡ p → ⊥) → v ≡ true → e.writes ≡ false → (j : ℕ) (x y : Bool) → y ≡ ((is_in j (e.place ∷ []) && f j) || x) → ((is_in j rest && f j) || y) ≡ ((is_in j (next_in p v (drop i es)) && f j) || x)
  next_further other writes reads j x y woken =
      ap (λ b. (is_in j rest && f j) || b) woken
      ∙ ap (λ b. (is_in j rest && f j) || ((b && f j) || x)) (or_false (eqb j e.place))
      ∙ joins (eqb j e.place) (is_in j rest) (f j) x
      ∙ sym (ap (λ (js : List ℕ). (is_in j js && f j) || x) (next_other other ∙ ap (λ (js : List ℕ). e.place ∷ js) (cond-true (v && not e.writes) rest [] further)))
    where
      further : (v && not e.writes) ≡ true
      further = ap (λ b. b && not e.writes) writes ∙ ap not reads

pub next_end : (p : ℕ) (v : Bool) (f : ℕ → Bool) (es : List Entry) (i : ℕ) → length es ≤ i → (j : ℕ) (x : Bool) → x ≡ ((is_in j (next_in p v (drop i es)) && f j) || x)
unfolding next_in
next_end p v f es i l j x = sym (at_drop_all (λ (ds : List Entry). (is_in j (next_in p v ds) && f j) || x) es i l)

-- one mark of the order at p
module _ (t : Turns) (p j i : ℕ) (row : List Mark) where
  abbrev here_mark : Mark
  here_mark = get_or row i (record { key = 0; writes = false })

  abbrev woken : Bool
  woken = wakes (marks_of t) (done_of t) (count_of t) p j

  abbrev next : List Mark → Bool
  next ms = nexts (marks_of t) (done_of t) (count_of t) p j ms

  nexts_more : i < length row → next (drop i row) ≡ (is_in j (next_in p here_mark.writes (queue_at t here_mark.key)) || next (drop (i + 1) row))
  unfolding nexts
  nexts_more within = at_drop_more next row i (record { key = 0; writes = false }) within

  pub nexts_further : i < length row → (x y : Bool) → y ≡ ((is_in j (next_in p here_mark.writes (queue_at t here_mark.key)) && woken) || x) → ((next (drop (i + 1) row) && woken) || y) ≡ ((next (drop i row) && woken) || x)
  nexts_further within x y e =
      ap (λ b. (next (drop (i + 1) row) && woken) || b) e
      ∙ joins (is_in j (next_in p here_mark.writes (queue_at t here_mark.key))) (next (drop (i + 1) row)) woken x
      ∙ sym (ap (λ b. (b && woken) || x) (nexts_more within))

  pub nexts_end : length row ≤ i → next (drop i row) ≡ false
  unfolding nexts
  nexts_end l = at_drop_all next row i l

  -- before the first mark, where nobody is woken yet
  pub nexts_all : (ks : List ℕ) → ks ≡ [] → row ≡ marks_of t p → ((next row && woken) || is_in j ks) ≡ woken
  nexts_all ks none is =
      ap (λ (l : List ℕ). (next row && woken) || is_in j l) none
      ∙ or_false (next row && woken)
      ∙ ap (λ (ms : List Mark). next ms && woken) is
      ∙ follows (next (marks_of t p)) woken (wakes_found (marks_of t) (done_of t) (count_of t) p j)
