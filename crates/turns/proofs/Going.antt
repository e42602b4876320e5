-- The queues while an order leaves them, and once it is done.
use Rattle.std.proofs.Common.{◌≡◌, ℕ, ◌+◌, ◌<◌, Bool, true, false, cond, ◌&&◌, ◌||◌, eqb, ◌⊎◌, List, [], ◌∷◌, map, length, get_or, drop, set, sym, refl, ap, ◌∙◌, inl, inr, arith}
use Rattle.std.proofs.lemmas.List.{length-set, get_or-set_same, get_or-set_other, get_or-map, map-set, at_drop_more}
use Rattle.std.proofs.lemmas.Bool.{cond-true, cond-false, cases_eq, eq-eqb, ne_eqb}
use Rattle.turns.specs.Marks.{slot, blocks, put}
use Rattle.turns.specs.Entries.{entries_in}
use Rattle.turns.specs.Queues.{queue, alike, without, leave_all}
use Rattle.turns.specs.declared.entry.Mark.{Mark}
use Rattle.turns.specs.declared.entry.Entry.{Entry}
use Rattle.turns.specs.declared.queue.Queue.{Queue}
use Rattle.turns.proofs.Alike.{same_from_alike, alike_from_same}
use Rattle.turns.proofs.Leaving.{queue_agrees, without_queue, queue_untouched}

-- what a function gives of an element that was read
pub get_or_map_read : {X Y : Type 0} (f : X → Y) (xs : List X) (i : ℕ) (x : X) (e : Y) → i < length xs → x ≡ get_or xs i x → get_or (map f xs) i e ≡ f x
get_or_map_read f xs i x e l is = get_or-map f xs i x e l ∙ ap f (sym is)

-- one queue, that of the mark at an index, is left
pub leaves_next : (i at s : ℕ) (ms : List Mark) (d : Mark) (qs : List Queue) (x y : Queue) → at < length ms → s ≡ slot (get_or ms at d).key → s < length qs → x ≡ get_or qs s x → entries_in y ≡ without i (entries_in x) →
    leave_all i (drop (at + 1) ms) (map entries_in (set qs s y)) ≡ leave_all i (drop at ms) (map entries_in qs)
unfolding leave_all
leaves_next i at s ms d qs x y l key within is left =
    let es = map entries_in qs in
    let changed : map entries_in (set qs s y) ≡ set es s (without i (get_or es s [])) =
    map-set entries_in qs s y ∙ ap (set es s) (left ∙ ap (without i) (sym (get_or_map_read entries_in qs s x [] within is))) in
    let step : leave_all i (drop at ms) es ≡ leave_all i (drop (at + 1) ms) (set es (slot (get_or ms at d).key) (without i (get_or es (slot (get_or ms at d).key) []))) = at_drop_more (λ ns. leave_all i ns es) ms at d l in
    ap (leave_all i (drop (at + 1) ms)) changed ∙ ap (λ h. leave_all i (drop (at + 1) ms) (set es h (without i (get_or es h [])))) key ∙ sym step

-- es: what a queue is to be once the order at i is taken out, whether or not it was taken out already
module _ (i q : ℕ) (es : List Entry) (gone : without i es ≡ es) where
  left_queue : (ms : List Mark) (qs : List (List Entry)) → q < length qs → (get_or qs q [] ≡ es) ⊎ (without i (get_or qs q []) ≡ es) → (blocks true q ms ≡ false → get_or qs q [] ≡ es) → get_or (leave_all i ms qs) q [] ≡ es
  unfolding leave_all
  left_queue [] qs l r e = e refl
  left_queue (m ∷ ms) qs l r e =
      let s = slot m.key in
      let then = set qs s (without i (get_or qs s [])) in
      let long : q < length then = omega (arith, length-set qs s (without i (get_or qs s []))) in
      elim (cases_eq q s) [
        | inl eq ↦ let at : get_or then q [] ≡ es = ap (λ p. get_or (set qs p (without i (get_or qs p []))) q []) (sym eq) ∙ get_or-set_same qs q (without i (get_or qs q [])) [] l ∙ taken r in left_queue ms then long (inl at) (λ _. at)
        | inr ne ↦
            let same : get_or then q [] ≡ get_or qs q [] = get_or-set_other qs s q (without i (get_or qs s [])) [] ne in
            left_queue ms then long (elim r [ inl p ↦ inl (same ∙ p) | inr p ↦ inr (ap (without i) same ∙ p) ])
            (λ out. same ∙ e (ap (λ b. (b && true) || blocks true q ms) (ne_eqb s q (λ x. ne (sym x))) ∙ out))
      ]
    where
      taken : (get_or qs q [] ≡ es) ⊎ (without i (get_or qs q []) ≡ es) → without i (get_or qs q []) ≡ es
      taken (inl p) = ap (without i) p ∙ gone
      taken (inr p) = p

put_twice : (i : ℕ) (done : ℕ → Bool) (j : ℕ) → put i true (put i true done) j ≡ put i true done j
put_twice i done j = twice (eqb j i)
  where
    twice : (b : Bool) → cond b true (cond b true (done j)) ≡ cond b true (done j)
    twice true = refl
    twice false = refl

set_put : (bs : List Bool) (i j : ℕ) → i < length bs → get_or (set bs i true) j false ≡ put i true (λ k. get_or bs k false) j
set_put bs i j l =
    elim (cases_eq j i) [
      | inl e ↦ ap (λ k. get_or (set bs i true) k false) e ∙ get_or-set_same bs i true false l ∙ sym (cond-true (eqb j i) true (get_or bs j false) (eq-eqb j i e))
      | inr ne ↦ get_or-set_other bs i j true false ne ∙ sym (cond-false (eqb j i) true (get_or bs j false) (ne_eqb j i ne))
    ]

-- rows, bs: the marks of the orders, and which of them are done
module _ (rows : List (List Mark)) (bs : List Bool) (i : ℕ) (l : i < length bs) where
  abbrev marks : ℕ → List Mark
  marks j = get_or rows j []

  abbrev done : ℕ → Bool
  done j = get_or bs j false

  queue_once_done : (q n : ℕ) → queue marks (λ j. get_or (set bs i true) j false) q n ≡ queue marks (put i true done) q n
  queue_once_done q n = queue_agrees marks marks (λ j. get_or (set bs i true) j false) (put i true done) q n (λ j _. refl) (λ j _. set_put bs i j l)

  without_again : (q n : ℕ) → without i (queue marks (put i true done) q n) ≡ queue marks (put i true done) q n
  without_again q n = without_queue i marks (put i true done) q n ∙ queue_agrees marks marks (put i true (put i true done)) (put i true done) q n (λ j _. refl) (λ j _. put_twice i done j)

  -- what the queues say once the order at i has left them is what the log says once it is done
  pub queued_once_done : (n : ℕ) (ms : List Mark) (qs qs' : List (List Entry)) → length qs ≡ 4096 → ms ≡ get_or rows i [] → qs' ≡ leave_all i ms qs →
      ((q : ℕ) → q < 4096 → alike (get_or qs q []) (queue (λ j. get_or rows j []) (λ j. get_or bs j false) q n) ≡ true) →
      (q : ℕ) → q < 4096 → alike (get_or qs' q []) (queue (λ j. get_or rows j []) (λ j. get_or (set bs i true) j false) q n) ≡ true
  queued_once_done n ms qs qs' long row left was q within =
      let then : get_or qs q [] ≡ queue marks done q n = same_from_alike (get_or qs q []) (queue marks done q n) (was q within) in
      let goes : get_or (leave_all i ms qs) q [] ≡ queue marks (put i true done) q n =
      left_queue i q (queue marks (put i true done) q n) (without_again q n) ms qs (omega arith) (inr (ap (without i) then ∙ without_queue i marks done q n))
      (λ e. then ∙ sym (queue_untouched i marks done q n (ap (blocks true q) (sym row) ∙ e))) in
      alike_from_same (get_or qs' q []) (queue marks (λ j. get_or (set bs i true) j false) q n) (ap (λ es. get_or es q []) left ∙ goes ∙ sym (queue_once_done q n))
