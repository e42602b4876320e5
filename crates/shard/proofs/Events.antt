-- How the list of tasks changes with each event.
use Rattle.std.proofs.Common.{◌≡◌, ℕ, zero, suc, ◌+◌, ◌<◌, ◌≤◌, Bool, true, false, cond, not, ◌&&◌, ◌||◌, eqb, leb, ◌⊎◌, List, [], ◌∷◌, ◌++◌, length, get_or, set, replicate, is_some, None, vec_items, filter, Option, sym, refl, ap, ◌∙◌, inl, inr, arith}
use Rattle.std.proofs.lemmas.List.{get_or_past, get_or-set_same, get_or-set_other}
use Rattle.std.proofs.lemmas.Bool.{both_ways, not-true, and_from, and_left, and_right, or_left, cases_Bool, cases_eq, cases_lt, cond-true, cond-false, eq-eqb, ne_eqb, le-leb}
use Rattle.orders.specs.Transaction.{is_in}
use Rattle.orders.specs.Valid.{rising}
use Rattle.orders.specs.Meaning.{transaction}
use Rattle.orders.specs.declared.outcome.Outcome.{Outcome}
use Rattle.rows.specs.Lists.{rows_of}
use Rattle.turns.specs.Marks.{put, ready, clear, conflicts}
use Rattle.turns.specs.State.{marks_of, done_of, count_of, Wakes, Waking}
use Rattle.turns.specs.declared.entry.Mark.{Mark}
use Rattle.turns.specs.declared.turns.Turns.{Turns}
use Rattle.ledger.specs.Own.{owns, own_count, marks_for, marked, slot_count, known, noting, telling, told}
use Rattle.ledger.specs.State.{order_at, value_in, looked_at, slots_at, may_look, may_write, Same, Grown, Looked, Wrote, Heard}
use Rattle.ledger.specs.declared.ledger.Ledger.{Ledger}
use Rattle.turns.proofs.Looking.{clear_none}
use Rattle.ledger.proofs.Asking.{slots_wide}
use Rattle.ledger.proofs.Growing.{others_stay}
use Rattle.ledger.proofs.Ties.{marked_within}
use Rattle.shard.specs.State.{Becomes, Ends}
use Rattle.shard.specs.Tasks.{place_of, has, distinct, live, may_do, tasks_at, places}
use Rattle.shard.specs.declared.task.Task.{Task}
use Rattle.shard.specs.declared.task.Task.TheVariants.{Look, Write}
use Rattle.shard.proofs.Listing.{listed_still, once_still, list_becomes}
use Rattle.shard.proofs.Changing.{look_parts, write_parts, look_or_write, may_live, has_look, has_write, rising_tasks, set_put, finish_older, finish_stays, finish_fresh, other_may, other_live}

-- a step after which these tasks may newly be done
pub record Change (s s' : Ledger) (fresh : List Task) : Type 0 where
  pub older : (t : Task) → live s' t ≡ true → live s t ≡ true
  pub stays : (t : Task) → may_do s t ≡ true → live s' t ≡ true → may_do s' t ≡ true
  pub new : (t : Task) → has t fresh ≡ (may_do s' t && not (may_do s t))
  pub rises : rising 0 (places fresh) ≡ true

module _ (s s' : Ledger) (raw raw' fresh : List Task) (change : Change s s' fresh) (is : raw' ≡ raw ++ fresh) (listed_before : (t : Task) → (has t raw && live s t) ≡ may_do s t) where
  pub listed_after : (t : Task) → (has t raw' && live s' t) ≡ may_do s' t
  listed_after t =
      ap (λ ts. has t ts && live s' t) is
      ∙ listed_still (may_do s) (may_do s') (live s) (live s') raw fresh (may_live s') change.older change.stays change.new listed_before t

  pub once_after : distinct raw ≡ true → distinct raw' ≡ true
  once_after d =
      ap distinct is ∙ once_still (may_do s) (may_do s') (live s) (live s') raw fresh (may_live s') change.older change.stays change.new listed_before d change.rises

  pub becomes : Becomes s (filter (live s) raw) s' (filter (live s') raw')
  becomes =
      record {
        fresh = fresh;
        list_is = ap (filter (live s')) is ∙ list_becomes (may_do s) (may_do s') (live s) (live s') raw fresh (may_live s') change.older change.stays change.new listed_before;
        fresh_are = change.new;
        rises = change.rises;
        stays = change.stays;
      }

-- a ledger in which nothing differs
module _ (s s' : Ledger) (same : Same s s') where
  same_done : done_of s'.turns ≡ done_of s.turns
  same_done = ap (λ xs i. get_or xs i false) same.same_turns.1

  pub same_live : (t : Task) → live s' t ≡ live s t
  same_live (Look i) = ap (λ xs. not (get_or xs i false)) same.same_looked
  same_live (Write i) = ap (λ d. not (d i)) same_done

  pub same_kept : (ts : List Task) → filter (live s') ts ≡ filter (live s) ts
  same_kept [] = refl
  same_kept (t ∷ ts) = let a = same_live t in let b = same_kept ts in λ x. cond (a x) (t ∷ b x) (b x)

-- x && not x, and the like
none_new : (b : Bool) → false ≡ (b && not b)
none_new true = refl
none_new false = refl

module _ (a b : Bool) where
  pub new_alone : b ≡ false → a ≡ (a && not b)
  new_alone e = sym (ap (λ x. a && not x) e ∙ right a)
    where
      right : (a : Bool) → (a && true) ≡ a
      right true = refl
      right false = refl

  not_new : a ≡ b → false ≡ (a && not b)
  not_new e = none_new a ∙ ap (λ x. a && not x) e

  gone_new : a ≡ false → false ≡ (a && not b)
  gone_new e = sym (and_left a (not b) e)

-- one place alone
one_look : (s' : Ledger) (i : ℕ) (t : Task) → (place_of t ≡ i → ⊥) → has t (tasks_at s' (i ∷ [])) ≡ false
one_look s' i (Look j) ne = has_look s' j (i ∷ []) ∙ and_left (eqb j i || false) (may_look s' j) (ap (λ b. b || false) (ne_eqb j i ne))
one_look s' i (Write j) ne = has_write s' j (i ∷ []) ∙ and_left (eqb j i || false) (may_write s' j) (ap (λ b. b || false) (ne_eqb j i ne))

one_here : (s' : Ledger) (t : Task) → has t (tasks_at s' (place_of t ∷ [])) ≡ may_do s' t
one_here s' (Look i) = has_look s' i (i ∷ []) ∙ ap (λ b. (b || false) && may_look s' i) (eq-eqb i i refl)
one_here s' (Write i) = has_write s' i (i ∷ []) ∙ ap (λ b. (b || false) && may_write s' i) (eq-eqb i i refl)

-- what a place comes to, of a list that is set there
get_or_else : {A : Type 0} (xs ys : List A) (i j : ℕ) (y d : A) → ys ≡ set xs i y → (j ≡ i → ⊥) → get_or ys j d ≡ get_or xs j d
get_or_else xs ys i j y d e ne = ap (λ l. get_or l j d) e ∙ get_or-set_other xs i j y d ne

-- a look
module _ (s s' : Ledger) (i : ℕ) (vs : List ℕ) (look : Looked s s' i vs) where
  parts : (marked false (marks_of s.turns i) ≡ true) × (looked_at s i ≡ false) × (ready (marks_of s.turns) (done_of s.turns) i ≡ true)
  parts = look_parts s i look.may

  within : i < count_of s.turns
  within = marked_within s false i parts.0

  marks_still : marks_of s'.turns ≡ marks_of s.turns
  marks_still = ap (λ m i. get_or (rows_of m) i []) look.kept.marks_are

  looked_here : looked_at s' i ≡ true
  looked_here = ap (λ xs. get_or xs i false) look.looked_is ∙ get_or-set_same (vec_items s.looked) i true false (omega (arith, s.noted, s.looked.ok.0, within))

  looked_else : (j : ℕ) → (j ≡ i → ⊥) → looked_at s' j ≡ looked_at s j
  looked_else j ne = get_or_else (vec_items s.looked) (vec_items s'.looked) i j true false look.looked_is ne

  slots_else : (j : ℕ) → (j ≡ i → ⊥) → slots_at s' j ≡ slots_at s j
  slots_else j ne = get_or_else (rows_of s.slots) (rows_of s'.slots) i j (noting s.owner.number (value_in s) (order_at s i).reads (slots_at s i)) [] look.slots_are ne

  no_look : may_look s' i ≡ false
  no_look = elim (cases_Bool (may_look s' i)) [ inl m ↦ absurd (both_ways (looked_at s' i) (look_parts s' i m).1 looked_here) | inr m ↦ m ]

  module _ (writes : marked true (marks_of s.turns i) ≡ false) where
    done_now : done_of s'.turns ≡ put i true (done_of s.turns)
    done_now =
        ap (λ xs j. get_or xs j false) (look.done_is ∙ cond-false (marked true (marks_of s.turns i)) (vec_items s.turns.done) (set (vec_items s.turns.done) i true) writes)
        ∙ set_put (vec_items s.turns.done) i (omega (arith, s.turns.done.ok.0, within))

    pub change_look_done : (woken : List ℕ) → Wakes s.turns i woken → Change s s' (tasks_at s' woken)
    change_look_done woken wake =
        record {
          older = finish_older s s' i woken marks_still done_now looked_else slots_else (λ _. looked_here) (λ _. looked_here) no_look wake;
          stays = finish_stays s s' i woken marks_still done_now looked_else slots_else (λ _. looked_here) (λ _. looked_here) no_look wake;
          new = finish_fresh s s' i woken marks_still done_now looked_else slots_else (λ _. looked_here) (λ _. looked_here) no_look wake;
          rises = rising_tasks s' 0 woken wake.rises;
        }

  module _ (writes : marked true (marks_of s.turns i) ≡ true) where
    done_same : done_of s'.turns ≡ done_of s.turns
    done_same =
        ap (λ xs j. get_or xs j false) (look.done_is ∙ cond-true (marked true (marks_of s.turns i)) (vec_items s.turns.done) (set (vec_items s.turns.done) i true) writes)

    may_else : (t : Task) → (place_of t ≡ i → ⊥) → may_do s' t ≡ may_do s t
    may_else = other_may s s' i (λ j _. ap (λ m. m j) marks_still) (λ j _. (λ x. ready (marks_still x) (done_same x) j)) (λ j _. ap (λ d. d j) done_same) looked_else slots_else

    live_else : (t : Task) → (place_of t ≡ i → ⊥) → live s' t ≡ live s t
    live_else = other_live s s' i (λ j _. ap (λ m. m j) marks_still) (λ j _. (λ x. ready (marks_still x) (done_same x) j)) (λ j _. ap (λ d. d j) done_same) looked_else slots_else

    pub change_look_writer : Change s s' (tasks_at s' (i ∷ []))
    change_look_writer =
        record {
          older = λ t l. elim (cases_eq (place_of t) i) [ inl e ↦ here t e l | inr ne ↦ sym (live_else t ne) ∙ l ];
          stays = λ t m l. elim (cases_eq (place_of t) i) [ inl e ↦ absurd (gone t e m l) | inr ne ↦ may_else t ne ∙ m ];
          new = λ t. elim (cases_eq (place_of t) i) [ inl e ↦ ap (λ k. has t (tasks_at s' (k ∷ []))) (sym e) ∙ one_here s' t ∙ fresh t e | inr ne ↦ one_look s' i t ne ∙ not_new (may_do s' t) (may_do s t) (may_else t ne) ];
          rises = rising_tasks s' 0 (i ∷ []) (and_from (leb 0 i) true (le-leb 0 i (omega arith)) refl);
        }
      where
        here : (t : Task) → place_of t ≡ i → live s' t ≡ true → live s t ≡ true
        here (Look j) e l = ap (λ k. not (looked_at s k)) e ∙ ap not parts.1
        here (Write j) e l = ap (λ d. not (d j)) (sym done_same) ∙ l

        -- before it no write may be done, and after it no look
        gone : (t : Task) → place_of t ≡ i → may_do s t ≡ true → live s' t ≡ true → ⊥
        gone (Look j) e m l = both_ways (looked_at s' j) (not-true (looked_at s' j) l) (ap (looked_at s') e ∙ looked_here)
        gone (Write j) e m l = both_ways (may_write s j) (ap (may_write s) e ∙ look_or_write s i look.may) m

        fresh : (t : Task) → place_of t ≡ i → may_do s' t ≡ (may_do s' t && not (may_do s t))
        fresh (Look j) e = (ap (may_look s') e ∙ no_look) ∙ gone_new (may_look s' j) (may_look s j) (ap (may_look s') e ∙ no_look)
        fresh (Write j) e = new_alone (may_write s' j) (may_write s j) (ap (may_write s) e ∙ look_or_write s i look.may)

  pub ends_look : Ends (Look i) s s'
  ends_look (Look j) m =
      elim (cases_eq j i) [
        | inl e ↦ ap not (ap (looked_at s') e ∙ looked_here) ∙ ap not (sym (eq-eqb j i e))
        | inr ne ↦ ap not (looked_else j ne ∙ (look_parts s j m).1) ∙ ap not (sym (ne_eqb j i ne))
      ]
  ends_look (Write j) m =
      let ne : j ≡ i → ⊥ = λ e. both_ways (may_write s j) (ap (may_write s) e ∙ look_or_write s i look.may) m in
      ap not (undone j ne ∙ (write_parts s j m).1)
    where
      undone : (j : ℕ) → (j ≡ i → ⊥) → done_of s'.turns j ≡ done_of s.turns j
      undone j ne =
          elim (cases_Bool (marked true (marks_of s.turns i))) [
            | inl w ↦ ap (λ d. d j) (done_same w)
            | inr w ↦ ap (λ d. d j) (done_now w) ∙ cond-false (eqb j i) true (done_of s.turns j) (ne_eqb j i ne)
          ]

-- a write
module _ (s s' : Ledger) (i : ℕ) (o : Outcome) (wrote : Wrote s s' i o) where
  wparts : (marked true (marks_of s.turns i) ≡ true) × (done_of s.turns i ≡ false) × ((looked_at s i || not (marked false (marks_of s.turns i))) ≡ true) × (known (slots_at s i) ≡ true) × (ready (marks_of s.turns) (done_of s.turns) i ≡ true)
  wparts = write_parts s i wrote.may

  wmarks : marks_of s'.turns ≡ marks_of s.turns
  wmarks = ap (λ m i. get_or (rows_of m) i []) wrote.kept.marks_are

  wdone : done_of s'.turns ≡ put i true (done_of s.turns)
  wdone =
      ap (λ xs j. get_or xs j false) wrote.done_is
      ∙ set_put (vec_items s.turns.done) i (let w = marked_within s true i wparts.0 in omega (arith, s.turns.done.ok.0, w))

  wlooked : (j : ℕ) → looked_at s' j ≡ looked_at s j
  wlooked j = ap (λ xs. get_or xs j false) wrote.looked_is

  wslots : (j : ℕ) → slots_at s' j ≡ slots_at s j
  wslots j = ap (λ xs. get_or xs j []) wrote.slots_are

  no_look_before : may_look s i ≡ false
  no_look_before = elim (cases_Bool (may_look s i)) [ inl m ↦ absurd (both_ways (may_write s i) (look_or_write s i m) wrote.may) | inr m ↦ m ]

  no_look_after : may_look s' i ≡ false
  no_look_after =
      elim (cases_Bool (may_look s' i)) [
        | inl m ↦
            let p = look_parts s' i m in
            absurd (both_ways (looked_at s i || not (marked false (marks_of s.turns i))) (unread (looked_at s i) (marked false (marks_of s.turns i)) (sym (wlooked i) ∙ p.1) (ap (λ f. marked false (f i)) (sym wmarks) ∙ p.0)) wparts.2)
        | inr m ↦ m
      ]
    where
      unread : (a b : Bool) → a ≡ false → b ≡ true → (a || not b) ≡ false
      unread a b e f = (λ x. e x || not b) ∙ ap not f

  pub change_write : (woken : List ℕ) → Wakes s.turns i woken → Change s s' (tasks_at s' woken)
  change_write woken wake =
      record {
        older = finish_older s s' i woken wmarks wdone (λ j _. wlooked j) (λ j _. wslots j) (λ l. wlooked i ∙ l) never no_look_after wake;
        stays = finish_stays s s' i woken wmarks wdone (λ j _. wlooked j) (λ j _. wslots j) (λ l. wlooked i ∙ l) never no_look_after wake;
        new = finish_fresh s s' i woken wmarks wdone (λ j _. wlooked j) (λ j _. wslots j) (λ l. wlooked i ∙ l) never no_look_after wake;
        rises = rising_tasks s' 0 woken wake.rises;
      }
    where
      never : may_look s i ≡ true → looked_at s' i ≡ true
      never m = absurd (both_ways (may_look s i) no_look_before m)

  pub ends_write : Ends (Write i) s s'
  ends_write (Look j) m = ap not (wlooked j ∙ (look_parts s j m).1)
  ends_write (Write j) m =
      elim (cases_eq j i) [
        | inl e ↦ ap not (ap (λ d. d j) wdone ∙ cond-true (eqb j i) true (done_of s.turns j) (eq-eqb j i e)) ∙ ap not (sym (eq-eqb j i e))
        | inr ne ↦ ap not (ap (λ d. d j) wdone ∙ cond-false (eqb j i) true (done_of s.turns j) (ne_eqb j i ne) ∙ (write_parts s j m).1) ∙ ap not (sym (ne_eqb j i ne))
      ]

-- what was told
untold : (g : ℕ) (ks : List ℕ) (vs : List (Option ℕ)) → length vs ≡ length ks → (own_count g ks ≡ 0 → ⊥) → told g ks vs ≡ false → known vs ≡ false
untold g [] vs l n e = absurd (n refl)
untold g (k ∷ ks) [] l n e = absurd (omega arith)
untold g (k ∷ ks) (v ∷ vs) l n e =
    elim (cases_Bool (owns g k)) [
      | inl o ↦ and_left (is_some v) (known vs) (sym (cond-true (owns g k) (is_some v) (told g ks vs) o) ∙ e)
      | inr o ↦
          and_right (is_some v) (known vs)
          (untold g ks vs (omega arith) (λ z. n (cond-false (owns g k) (suc (own_count g ks)) (own_count g ks) o ∙ z)) (sym (cond-false (owns g k) (is_some v) (told g ks vs) o) ∙ e))
    ]

module _ (s s' : Ledger) (g i : ℕ) (vs : List ℕ) (heard : Heard s s' g i vs) where
  hlooked : (j : ℕ) → looked_at s' j ≡ looked_at s j
  hlooked j = ap (λ xs. get_or xs j false) heard.looked_is

  hslots : (j : ℕ) → (j ≡ i → ⊥) → slots_at s' j ≡ slots_at s j
  hslots j ne = get_or_else (rows_of s.slots) (rows_of s'.slots) i j (telling g (order_at s i).reads vs (slots_at s i)) [] heard.slots_are ne

  hlook : (j : ℕ) → may_look s' j ≡ may_look s j
  hlook j = let a = heard.turns_are in let b = hlooked j in λ x. marked false (marks_of (a x) j) && (not (b x) && ready (marks_of (a x)) (done_of (a x)) j)

  hmay : (t : Task) → (place_of t ≡ i → ⊥) → may_do s' t ≡ may_do s t
  hmay (Look j) ne = hlook j
  hmay (Write j) ne =
      let a = heard.turns_are in let b = hlooked j in let c = hslots j ne in
      λ x. marked true (marks_of (a x) j) && (not (done_of (a x) j) && ((b x || not (marked false (marks_of (a x) j))) && (known (c x) && ready (marks_of (a x)) (done_of (a x)) j)))

  hlive : (t : Task) → live s' t ≡ live s t
  hlive (Look j) = ap not (hlooked j)
  hlive (Write j) = ap (λ u. not (done_of u j)) heard.turns_are

  not_before : may_write s i ≡ false
  not_before =
      elim (cases_Bool (may_write s i)) [
        | inl m ↦
            let p = write_parts s i m in
            absurd (both_ways (known (slots_at s i)) (untold g (order_at s i).reads (slots_at s i) (slots_wide s i true p.0) (λ z. heard.needed (inr (inr (inl (heard.wanted.counted ∙ z))))) (elim (cases_Bool (told g (order_at s i).reads (slots_at s i))) [
              | inl e ↦ absurd (heard.needed (inr (inr (inr e))))
              | inr e ↦ e
            ])) p.3)
        | inr m ↦ m
      ]

  hstays : (t : Task) → may_do s t ≡ true → live s' t ≡ true → may_do s' t ≡ true
  hstays (Look j) m l = hlook j ∙ m
  hstays (Write j) m l = elim (cases_eq j i) [ inl e ↦ absurd (both_ways (may_write s j) (ap (may_write s) e ∙ not_before) m) | inr ne ↦ hmay (Write j) ne ∙ m ]

  pub change_told_last : may_write s' i ≡ true → Change s s' (Write i ∷ [])
  change_told_last now' =
      record { older = λ t l. sym (hlive t) ∙ l; stays = hstays; new = fresh; rises = and_from (leb 0 i) true (le-leb 0 i (omega arith)) refl }
    where
      fresh : (t : Task) → has t (Write i ∷ []) ≡ (may_do s' t && not (may_do s t))
      fresh (Look j) = not_new (may_look s' j) (may_look s j) (hlook j)
      fresh (Write j) =
          elim (cases_eq j i) [
            | inl e ↦ ap (λ b. b || false) (eq-eqb j i e) ∙ sym (ap (may_write s') e ∙ now') ∙ new_alone (may_write s' j) (may_write s j) (ap (may_write s) e ∙ not_before)
            | inr ne ↦ ap (λ b. b || false) (ne_eqb j i ne) ∙ not_new (may_write s' j) (may_write s j) (hmay (Write j) ne)
          ]

  pub change_told : may_write s' i ≡ false → Change s s' []
  change_told now' =
      record { older = λ t l. sym (hlive t) ∙ l; stays = hstays; new = fresh; rises = refl }
    where
      fresh : (t : Task) → false ≡ (may_do s' t && not (may_do s t))
      fresh (Look j) = not_new (may_look s' j) (may_look s j) (hlook j)
      fresh (Write j) =
          elim (cases_eq j i) [
            | inl e ↦ gone_new (may_write s' j) (may_write s j) (ap (may_write s') e ∙ now')
            | inr ne ↦ not_new (may_write s' j) (may_write s j) (hmay (Write j) ne)
          ]

-- an order more
clear_agrees : (marks marks' : ℕ → List Mark) (done done' : ℕ → Bool) (ms : List Mark) (n : ℕ) →
    ((p : ℕ) → p < n → marks p ≡ marks' p) → ((p : ℕ) → p < n → done p ≡ done' p) → clear marks done ms n ≡ clear marks' done' ms n
unfolding clear
clear_agrees marks marks' done done' ms zero a b = refl
clear_agrees marks marks' done done' ms (suc n) a b =
    let r = clear_agrees marks marks' done done' ms n (λ p l. a p (omega arith)) (λ p l. b p (omega arith)) in
    let c = a n (omega arith) in
    let d = b n (omega arith) in
    λ x. r x && (d x || not (conflicts ms (c x)))

module _ (s s' : Ledger) (bs : List ℕ) (grown : Grown s s' bs) where
  abbrev n : ℕ
  n = count_of s.turns

  marks_other : (j : ℕ) → (j ≡ n → ⊥) → marks_of s'.turns j ≡ marks_of s.turns j
  marks_other = others_stay (rows_of s.turns.marks) (rows_of s'.turns.marks) (marks_for s.owner.number (transaction bs)) [] n (sym s.turns.counted) grown.marks_are

  done_other : (j : ℕ) → (j ≡ n → ⊥) → done_of s'.turns j ≡ done_of s.turns j
  done_other = others_stay (vec_items s.turns.done) (vec_items s'.turns.done) (eqb (length (marks_for s.owner.number (transaction bs))) 0) false n (sym s.turns.done.ok.0) grown.done_is

  looked_other : (j : ℕ) → (j ≡ n → ⊥) → looked_at s' j ≡ looked_at s j
  looked_other = others_stay (vec_items s.looked) (vec_items s'.looked) false false n (sym s.looked.ok.0 ∙ s.noted) grown.looked_is

  slots_other : (j : ℕ) → (j ≡ n → ⊥) → slots_at s' j ≡ slots_at s j
  slots_other = others_stay (rows_of s.slots) (rows_of s'.slots) (replicate (slot_count s.owner.number (transaction bs)) None) [] n s.slotted grown.slots_are

  beyond : (j : ℕ) → n ≤ j → marks_of s.turns j ≡ []
  beyond j l = get_or_past (rows_of s.turns.marks) j [] (omega (arith, s.turns.counted))

  turn_other : (j : ℕ) → (j ≡ n → ⊥) → ready (marks_of s'.turns) (done_of s'.turns) j ≡ ready (marks_of s.turns) (done_of s.turns) j
  turn_other j ne =
      elim (cases_lt j n) [
        | inl l ↦
            ap (λ ms. clear (marks_of s'.turns) (done_of s'.turns) ms j) (marks_other j ne)
            ∙ clear_agrees (marks_of s'.turns) (marks_of s.turns) (done_of s'.turns) (done_of s.turns) (marks_of s.turns j) j (λ p q. marks_other p (λ e. omega arith)) (λ p q. done_other p (λ e. omega arith))
        | inr l ↦
            ap (λ ms. clear (marks_of s'.turns) (done_of s'.turns) ms j) (marks_other j ne ∙ beyond j l) ∙ clear_none (marks_of s'.turns) (done_of s'.turns) j
            ∙ sym (ap (λ ms. clear (marks_of s.turns) (done_of s.turns) ms j) (beyond j l) ∙ clear_none (marks_of s.turns) (done_of s.turns) j)
      ]

  none_before : (t : Task) → place_of t ≡ n → may_do s t ≡ false
  none_before (Look j) e = ap (λ ms. marked false ms && (not (looked_at s j) && ready (marks_of s.turns) (done_of s.turns) j)) (beyond j (omega arith))
  none_before (Write j) e =
      ap (λ ms. marked true ms && (not (done_of s.turns j) && ((looked_at s j || not (marked false (marks_of s.turns j))) && (known (slots_at s j) && ready (marks_of s.turns) (done_of s.turns) j)))) (beyond j (omega arith))

  live_before : (t : Task) → place_of t ≡ n → live s t ≡ true
  live_before (Look j) e = ap not (get_or_past (vec_items s.looked) j false (omega (arith, s.noted, s.looked.ok.0)))
  live_before (Write j) e = ap not (get_or_past (vec_items s.turns.done) j false (omega (arith, s.turns.done.ok.0)))

  pub change_order : Change s s' (tasks_at s' (n ∷ []))
  change_order =
      record {
        older = λ t l. elim (cases_eq (place_of t) n) [ inl e ↦ live_before t e | inr ne ↦ sym (other_live s s' n marks_other turn_other done_other looked_other slots_other t ne) ∙ l ];
        stays = λ t m l. elim (cases_eq (place_of t) n) [ inl e ↦ absurd (both_ways (may_do s t) (none_before t e) m) | inr ne ↦ other_may s s' n marks_other turn_other done_other looked_other slots_other t ne ∙ m ];
        new = λ t. elim (cases_eq (place_of t) n) [
          | inl e ↦ ap (λ k. has t (tasks_at s' (k ∷ []))) (sym e) ∙ one_here s' t ∙ new_alone (may_do s' t) (may_do s t) (none_before t e)
          | inr ne ↦ one_look s' n t ne ∙ not_new (may_do s' t) (may_do s t) (other_may s s' n marks_other turn_other done_other looked_other slots_other t ne)
        ];
        rises = rising_tasks s' 0 (n ∷ []) (and_from (leb 0 n) true (le-leb 0 n (omega arith)) refl);
      }

-- no room for those that are woken: somebody is, or there is no room at all
pub woken_some : (t : Turns) (room len i : ℕ) (woken : List ℕ) (n : ℕ) → n ≡ length woken → Wakes t i woken → room < len + n → Waking t i ⊎ (room < len + 1)
woken_some t room len i [] n e wake l = inr (omega arith)
woken_some t room len i (j ∷ js) n e wake l = inl (j, sym (wake.are j) ∙ or_left (eqb j j) (is_in j js) (eq-eqb j j refl))
