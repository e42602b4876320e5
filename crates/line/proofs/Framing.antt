-- The orders in the bytes of the log: one after the other, behind bytes that are added, and before a cut.
use Rattle.std.proofs.Common.{◌≡◌, ℕ, zero, suc, ◌+◌, ◌-◌, ◌*◌, ◌/◌, ◌%◌, ◌<◌, ◌≤◌, cond, leb, List, [], ◌∷◌, ◌++◌, length, get_or, take, drop, sym, refl, ap, ◌∙◌, subst, inl, inr, arith}
use lib.Seq.{take-append-add, drop-append-add}
use Rattle.std.specs.List.{flat_map}
use Rattle.std.proofs.ByRecursion.{All-drop}
use Rattle.std.proofs.lemmas.List.{append_assoc, append-nil, drop-append-le, drop_at, drop-drop, flat_map_more, length-append, length-drop, length-take, length-take-le, nil_from_length, take-append-drop, take_at}
use Rattle.std.proofs.lemmas.Bool.{cases_lt, cond-true, cond-false, le-leb, lt-leb}
use Rattle.orders.specs.Laws.{Bytes}
use Rattle.line.specs.Frames.{framed, frames_in, frames, extent, tail_of, Whole}
use Rattle.line.specs.Laws.{FramesAll, FramesOnly, CutsAnywhere}

-- enough fuel is as good as more
frames_in_same : (n m : ℕ) (bs : List ℕ) → length bs ≤ n → length bs ≤ m → frames_in n bs ≡ frames_in m bs
unfolding frames_in
frames_in_same zero zero bs p q = refl
frames_in_same zero (suc m) [] p q = refl
frames_in_same zero (suc m) (b ∷ bs) p q = absurd (omega arith)
frames_in_same (suc n) zero [] p q = refl
frames_in_same (suc n) zero (b ∷ bs) p q = absurd (omega arith)
frames_in_same (suc n) (suc m) [] p q = refl
frames_in_same (suc n) (suc m) (h ∷ []) p q = refl
frames_in_same (suc n) (suc m) (h ∷ l ∷ bs) p q =
    ap (λ r. cond (leb (h * 256 + l) (length bs)) (take (h * 256 + l) bs ∷ r) [])
    (frames_in_same n m (drop (h * 256 + l) bs) (simp length-drop (omega arith)) (simp length-drop (omega arith)))

-- the first order, whose length is n
module _ (h l : ℕ) (bs : List ℕ) (n : ℕ) (is : n ≡ h * 256 + l) where
  frames_is : frames (h ∷ l ∷ bs) ≡ cond (leb n (length bs)) (take n bs ∷ frames (drop n bs)) []
  unfolding frames frames_in
  frames_is =
      rw is (ap (λ r. cond (leb (h * 256 + l) (length bs)) (take (h * 256 + l) bs ∷ r) [])
      (frames_in_same (suc (length bs)) (length (drop (h * 256 + l) bs)) (drop (h * 256 + l) bs) (simp length-drop (omega arith)) (omega arith)))

  frames_within : n ≤ length bs → frames (h ∷ l ∷ bs) ≡ take n bs ∷ frames (drop n bs)
  frames_within p = frames_is ∙ cond-true _ _ _ (le-leb n (length bs) p)

  frames_beyond : length bs < n → frames (h ∷ l ∷ bs) ≡ []
  frames_beyond p = frames_is ∙ cond-false _ _ _ (lt-leb n (length bs) p)

pub frames_at : (bs : List ℕ) (n : ℕ) → 2 ≤ length bs → n ≡ get_or bs 0 0 * 256 + get_or bs 1 0 → n + 2 ≤ length bs → frames bs ≡ take n (drop 2 bs) ∷ frames (drop (n + 2) bs)
frames_at [] n p e q = absurd (omega arith)
frames_at (h ∷ []) n p e q = absurd (omega arith)
frames_at (h ∷ l ∷ bs) n p e q =
    let s : n + 2 ≡ suc (suc n) = omega arith in
    rw s (frames_within h l bs n e (omega arith))

pub frames_cut : (bs : List ℕ) (n : ℕ) → 2 ≤ length bs → n ≡ get_or bs 0 0 * 256 + get_or bs 1 0 → length bs < n + 2 → frames bs ≡ []
frames_cut [] n p e q = absurd (omega arith)
frames_cut (h ∷ []) n p e q = absurd (omega arith)
frames_cut (h ∷ l ∷ bs) n p e q = frames_beyond h l bs n e (omega arith)

pub frames_short : (bs : List ℕ) → length bs < 2 → frames bs ≡ []
unfolding frames frames_in
frames_short [] p = refl
frames_short (h ∷ []) p = refl
frames_short (h ∷ l ∷ bs) p = absurd (omega arith)

frames_next : (h l : ℕ) (o rest : List ℕ) → length o ≡ h * 256 + l → frames (h ∷ l ∷ (o ++ rest)) ≡ o ∷ frames rest
frames_next h l o rest e =
    frames_within h l (o ++ rest) (length o) e (simp length-append (omega arith))
    ∙ rw (take_at o rest (length o) refl, drop_at o rest (length o) refl)

pub frames_first : (o rest : List ℕ) → frames (framed o ++ rest) ≡ o ∷ frames rest
frames_first o rest = frames_next (length o / 256) (length o % 256) o rest (omega arith)

pub frames_all : FramesAll
frames_all [] rest = refl
frames_all (o ∷ os) rest = rw append_assoc (frames_first o (flat_map framed os ++ rest) ∙ ap (λ xs. o ∷ xs) (frames_all os rest))

pub extent_first : (o : List ℕ) (os : List (List ℕ)) → extent (o ∷ os) ≡ length o + 2 + extent os
extent_first o os = simp length-append (omega arith)

-- bytes as a log, order by order: a view to go by, in place of the fuel
data Log : List ℕ → Type 0 where
  stop : {bs : List ℕ} → frames bs ≡ [] → Log bs
  next : (h l : ℕ) (o : List ℕ) {rest : List ℕ} → length o ≡ h * 256 + l → Log rest → Log (h ∷ l ∷ (o ++ rest))

log : (bs : List ℕ) → Log bs
log bs = within (length bs) bs (omega arith)
  where
    within : (n : ℕ) (bs : List ℕ) → length bs ≤ n → Log bs
    within n [] p = stop (frames_short [] (omega arith))
    within n (h ∷ []) p = stop (frames_short (h ∷ []) (omega arith))
    within zero (h ∷ l ∷ bs) p = absurd (omega arith)
    within (suc n) (h ∷ l ∷ bs) p =
        let k : ℕ = h * 256 + l in
        elim (cases_lt (length bs) k) [
          | inl q ↦ stop (frames_beyond h l bs k refl q)
          | inr q ↦ subst (λ cs. Log (h ∷ l ∷ cs)) (take-append-drop k bs)
              (next h l (take k bs) (length-take-le k bs q) (within n (drop k bs) (simp length-drop (omega arith))))
        ]

take_next : (h l : ℕ) (o rest : List ℕ) (n : ℕ) → take (length o + 2 + n) (h ∷ l ∷ (o ++ rest)) ≡ h ∷ l ∷ (o ++ take n rest)
take_next h l o rest n =
    let s : length o + 2 + n ≡ suc (suc (length o + n)) = omega arith in
    rw (s, take-append-add o rest n)

module _ (h l : ℕ) (o rest : List ℕ) (is : length o ≡ h * 256 + l) where
  next_append : (more : List ℕ) → frames (h ∷ l ∷ (o ++ rest ++ more)) ≡ o ∷ frames (rest ++ more)
  next_append more = rw append_assoc (frames_next h l o (rest ++ more) is)

  next_extent : extent (frames (h ∷ l ∷ (o ++ rest))) ≡ length o + 2 + extent (frames rest)
  next_extent = ap extent (frames_next h l o rest is) ∙ extent_first o (frames rest)

  next_tail : tail_of (h ∷ l ∷ (o ++ rest)) ≡ tail_of rest
  next_tail =
      let s : extent (frames (h ∷ l ∷ (o ++ rest))) ≡ suc (suc (length o + extent (frames rest))) = omega (arith, next_extent) in
      ap (λ n. drop n (h ∷ l ∷ (o ++ rest))) s ∙ drop-append-add o rest (extent (frames rest))

extent_fits : (bs : List ℕ) → extent (frames bs) ≤ length bs
extent_fits bs = go (log bs)
  where
    go : {cs : List ℕ} → Log cs → extent (frames cs) ≤ length cs
    go (stop e) = rw e (omega arith)
    go (next h l o {rest} e r) = rw (next_extent h l o rest e) (simp length-append (omega (arith, go r)))

pub next_fits : (bs cs o : List ℕ) → frames bs ≡ o ∷ frames cs → length o + 2 ≤ length bs
next_fits bs cs o first = omega (arith, extent_fits bs, ap extent first ∙ extent_first o (frames cs))

extent_append : (os more : List (List ℕ)) → extent (os ++ more) ≡ extent os + extent more
extent_append [] more = omega arith
extent_append (o ∷ os) more = omega (arith, extent_first o (os ++ more), extent_first o os, extent_append os more)

pub extent_front : (n : ℕ) (bs : List ℕ) → extent (take n (frames bs)) ≤ length bs
extent_front n bs = omega (arith, extent_fits bs, extent_append (take n (frames bs)) (drop n (frames bs)), ap extent (take-append-drop n (frames bs)))

-- the bytes behind more orders
pub drop_more : (os more : List (List ℕ)) (bs cs : List ℕ) → extent os ≤ length bs → drop (extent (os ++ more)) (bs ++ cs) ≡ drop (extent more) (drop (extent os) bs ++ cs)
drop_more os more bs cs fits =
    ap (λ n. drop n (bs ++ cs)) (extent_append os more) ∙ sym (drop-drop (extent more) (extent os) (bs ++ cs)) ∙ ap (drop (extent more)) (drop-append-le (extent os) bs cs fits)

pub whole_nil : Whole []
whole_nil = ap extent (frames_short [] (omega arith))

pub frames_append : (bs more : List ℕ) → Whole bs → frames (bs ++ more) ≡ frames bs ++ frames more
frames_append bs more = go (log bs)
  where
    go : {cs : List ℕ} → Log cs → Whole cs → frames (cs ++ more) ≡ frames cs ++ frames more
    go {cs} (stop e) w' =
        let none : cs ≡ [] = nil_from_length cs (sym w' ∙ ap extent e) in
        ap (λ ds. frames (ds ++ more)) none ∙ ap (λ os. os ++ frames more) (sym e)
    go (next h l o {rest} e r) w' =
        let wr : Whole rest = omega (arith, next_extent h l o rest e, length-append o rest) in
        rw (next_append h l o rest e more, frames_next h l o rest e, go r wr)

-- the orders that more bytes add: those behind the orders os, of at most n
abbrev onward : (n : ℕ) (os : List (List ℕ)) (bs more : List ℕ) → List (List ℕ)
onward n os bs more = take (n - length os) (frames (drop (extent os) bs ++ more))

onward_next : (h l : ℕ) (o rest : List ℕ) (n : ℕ) (os : List (List ℕ)) (more : List ℕ) → onward (suc n) (o ∷ os) (h ∷ l ∷ (o ++ rest)) more ≡ onward n os rest more
onward_next h l o rest n os more =
    let same : suc n - suc (length os) ≡ n - length os = omega arith in
    let s : extent (o ∷ os) ≡ suc (suc (length o + extent os)) = omega (arith, extent_first o os) in
    ap (λ k. take k (frames (drop (extent (o ∷ os)) (h ∷ l ∷ (o ++ rest)) ++ more))) same
    ∙ ap (λ k. take (n - length os) (frames (drop k (h ∷ l ∷ (o ++ rest)) ++ more))) s
    ∙ ap (λ bs. take (n - length os) (frames (bs ++ more))) (drop-append-add o rest (extent os))

pub frames_onward : (n : ℕ) (bs more : List ℕ) → take n (frames (bs ++ more)) ≡ take n (frames bs) ++ onward n (take n (frames bs)) bs more
frames_onward n bs more = go (log bs) n
  where
    go : {cs : List ℕ} → Log cs → (m : ℕ) → take m (frames (cs ++ more)) ≡ take m (frames cs) ++ onward m (take m (frames cs)) cs more
    go {cs} (stop e) zero = refl
    go {cs} (stop e) (suc m) =
        let same : suc m ≡ suc m - 0 = omega arith in
        ap (λ k. take k (frames (cs ++ more))) same ∙ ap (λ os. take (suc m) os ++ onward (suc m) (take (suc m) os) cs more) (sym e)
    go (next h l o {rest} e r) zero = refl
    go (next h l o {rest} e r) (suc m) =
        ap (take (suc m)) (next_append h l o rest e more)
        ∙ ap (λ os. o ∷ os) (go r m)
        ∙ ap (λ os. o ∷ (take m (frames rest) ++ os)) (sym (onward_next h l o rest m (take m (frames rest)) more))
        ∙ ap (λ os. take (suc m) os ++ onward (suc m) (take (suc m) os) (h ∷ l ∷ (o ++ rest)) more) (sym (frames_next h l o rest e))

pub whole_append : (bs o : List ℕ) → Whole bs → Whole (bs ++ framed o)
whole_append bs o w =
    let last : frames (framed o) ≡ o ∷ [] = ap frames (sym (append-nil (framed o))) ∙ frames_first o [] ∙ ap (λ os. o ∷ os) (frames_short [] (omega arith)) in
    let all : frames (bs ++ framed o) ≡ frames bs ++ o ∷ [] = frames_append bs (framed o) w ∙ ap (λ os. frames bs ++ os) last in
    let same : extent (frames (bs ++ framed o)) ≡ length (flat_map framed (frames bs) ++ framed o) = ap extent all ∙ ap length (sym (flat_map_more framed [] (frames bs) o)) in
    omega (arith, same, length-append (flat_map framed (frames bs)) (framed o), length-append bs (framed o))

-- behind the last whole order there is none
frames_tail : (bs : List ℕ) → frames (tail_of bs) ≡ []
frames_tail bs = go (log bs)
  where
    go : {cs : List ℕ} → Log cs → frames (tail_of cs) ≡ []
    go {cs} (stop e) = ap (λ os. frames (drop (extent os) cs)) e ∙ e
    go (next h l o {rest} e r) = ap frames (next_tail h l o rest e) ∙ go r

pub frames_only : FramesOnly
frames_only bs b = (go (log bs) b, λ o rest e. omega (arith, ap length (sym (frames_first o rest) ∙ ap frames (sym e) ∙ frames_tail bs)))
  where
    go : {cs : List ℕ} → Log cs → Bytes cs → cs ≡ flat_map framed (frames cs) ++ tail_of cs
    go {cs} (stop e) c = sym (ap (λ os. flat_map framed os ++ drop (extent os) cs) e)
    go (next h l o {rest} e r) c =
        let ih = go r (rw (drop_at o rest (length o) refl) at (All-drop (λ x. x < 256) (length o) (o ++ rest) c.1.1)) in
        let high : length o / 256 ≡ h = omega arith in
        let low : length o % 256 ≡ l = omega arith in
        cc (frames_next h l o rest e, next_tail h l o rest e, append_assoc o (flat_map framed (frames rest)) (tail_of rest))

-- bytes with no whole order have none in front of a cut either
frames_none_front : (bs more : List ℕ) → frames (bs ++ more) ≡ [] → frames bs ≡ []
frames_none_front bs more = go (log bs)
  where
    go : {cs : List ℕ} → Log cs → frames (cs ++ more) ≡ [] → frames cs ≡ []
    go (stop e) z = e
    go (next h l o {rest} e r) z = absurd (omega (arith, ap length (sym (next_append h l o rest e more) ∙ z)))

-- a cut inside the first order
frames_inside : (h l : ℕ) (o rest : List ℕ) (n : ℕ) → length o ≡ h * 256 + l → n < length o + 2 → frames (take n (h ∷ l ∷ (o ++ rest))) ≡ []
frames_inside h l o rest zero e p = frames_short [] (omega arith)
frames_inside h l o rest (suc zero) e p = frames_short (h ∷ []) (omega arith)
frames_inside h l o rest (suc (suc n)) e p = frames_beyond h l (take n (o ++ rest)) (length o) e (simp length-take (omega arith))

-- CutsAnywhere at one place
abbrev Cut : List ℕ → ℕ → Type 0
Cut bs n = (m : ℕ) × (frames (take n bs) ≡ take m (frames bs)) × (extent (take m (frames bs)) ≤ n) × (m < length (frames bs) → n < extent (take (suc m) (frames bs)))

cut_behind : (h l : ℕ) (o rest : List ℕ) (n : ℕ) → length o ≡ h * 256 + l → Cut rest n → Cut (h ∷ l ∷ (o ++ rest)) (length o + 2 + n)
cut_behind h l o rest n e (m, same, fits, full) = (
  suc m,
  rw (take_next h l o rest n, frames_next h l o (take n rest) e, frames_next h l o rest e) (ap (λ os. o ∷ os) same),
  rw (frames_next h l o rest e) (omega (arith, extent_first o (take m (frames rest)))),
  rw (frames_next h l o rest e) (λ p. omega (arith, extent_first o (take (suc m) (frames rest)), full (omega arith))),
)

pub cuts_anywhere : CutsAnywhere
cuts_anywhere bs = go (log bs)
  where
    go : {cs : List ℕ} → Log cs → (n : ℕ) → Cut cs n
    go {cs} (stop e) n = (0, frames_none_front (take n cs) (drop n cs) (ap frames (take-append-drop n cs) ∙ e), omega arith, λ p. absurd (omega (arith, ap length e)))
    go (next h l o {rest} e r) n =
        elim (cases_lt n (length o + 2)) [
          | inl p ↦ (0, frames_inside h l o rest n e p, omega arith, λ _. rw (frames_next h l o rest e) (omega (arith, extent_first o [])))
          | inr p ↦
              let k : ℕ = n - (length o + 2) in
              subst (Cut (h ∷ l ∷ (o ++ rest))) (omega arith) (cut_behind h l o rest k e (go r k))
        ]
