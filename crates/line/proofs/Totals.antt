-- The orders of a log that comes in pieces, and the state that they leave.
use Rattle.std.proofs.Common.{◌≡◌, ℕ, suc, ◌+◌, ◌-◌, ◌/◌, ◌<◌, ◌≤◌, Bool, true, false, cond, List, [], ◌∷◌, ◌++◌, map, length, take, drop, is_some, sym, refl, ap, ◌∙◌, arith}
use Rattle.std.proofs.Math.Seq.{take-nil}
use Rattle.std.proofs.lemmas.List.{append_assoc, append-nil, length-append, length-drop}
use Rattle.orders.specs.Codec.{decoded}
use Rattle.orders.specs.Meaning.{transaction}
use Rattle.orders.specs.Transaction.{after, serial}
use Rattle.line.specs.Frames.{frames, extent}
use Rattle.line.specs.Serial.{limit, entries_from, entries, malformed, formed, State, next_place, doing}
use Rattle.line.proofs.Framing.{extent_first, extent_front, frames_onward, next_fits}

pub entries_past : (p : ℕ) (bs : List ℕ) → limit ≤ p → entries_from p bs ≡ []
unfolding entries_from
entries_past p bs h = let e : limit - p ≡ 0 = omega arith in ap (λ n. take n (frames bs)) e

pub entries_none : (p : ℕ) (bs : List ℕ) → frames bs ≡ [] → entries_from p bs ≡ []
unfolding entries_from
entries_none p bs e = ap (take (limit - p)) e ∙ take-nil (limit - p)

pub entries_fit : (p : ℕ) (bs : List ℕ) → extent (entries_from p bs) ≤ length bs
unfolding entries_from
entries_fit p bs = extent_front (limit - p) bs

pub entries_more : (bs more : List ℕ) → entries (bs ++ more) ≡ entries bs ++ entries_from (length (entries bs)) (drop (extent (entries bs)) bs ++ more)
unfolding entries_from
entries_more bs more = frames_onward limit bs more

-- a test that says whether an order is well-formed
module _ (b : Bool) (m n p : ℕ) (us vs : List ℕ) where
  cond_formed : cond b (suc (m + n)) (m + n) ≡ cond b (suc m) m + n
  cond_formed = elim b as (λ t. cond t (suc (m + n)) (m + n) ≡ cond t (suc m) m + n) [ true ↦ omega arith | false ↦ refl ]

  cond_malformed : cond b (us ++ vs) (p ∷ (us ++ vs)) ≡ cond b us (p ∷ us) ++ vs
  cond_malformed = elim b as (λ t. cond t (us ++ vs) (p ∷ (us ++ vs)) ≡ cond t us (p ∷ us) ++ vs) [ true ↦ refl | false ↦ refl ]

  cond_either : cond b (suc m) m + length (cond b us (p ∷ us)) ≡ suc (m + length us)
  cond_either = elim b as (λ t. cond t (suc m) m + length (cond t us (p ∷ us)) ≡ suc (m + length us)) [ true ↦ omega arith | false ↦ omega arith ]

serial_append : (os more : List (List ℕ)) (f : ℕ → ℕ) → serial (map transaction (os ++ more)) f ≡ serial (map transaction more) (serial (map transaction os) f)
unfolding serial
serial_append [] more f = refl
serial_append (o ∷ os) more f = serial_append os more (after (transaction o) f)

formed_append : (os more : List (List ℕ)) → formed (os ++ more) ≡ formed os + formed more
unfolding formed
formed_append [] more = omega arith
formed_append (o ∷ os) more =
    ap (λ n. cond (is_some (decoded o)) (suc n) n) (formed_append os more) ∙ cond_formed (is_some (decoded o)) (formed os) (formed more) 0 [] []

malformed_append : (p : ℕ) (os more : List (List ℕ)) → malformed p (os ++ more) ≡ malformed p os ++ malformed (p + length os) more
unfolding malformed
malformed_append p [] more = let e : p ≡ p + 0 = omega arith in ap (λ n. malformed n more) e
malformed_append p (o ∷ os) more =
    let e : suc p + length os ≡ p + suc (length os) = omega arith in
    ap (λ us. cond (is_some (decoded o)) us (p ∷ us)) (malformed_append (suc p) os more ∙ ap (λ n. malformed (suc p) os ++ malformed n more) e)
    ∙ cond_malformed (is_some (decoded o)) 0 0 p (malformed (suc p) os) (malformed (p + suc (length os)) more)

-- each order is well-formed or malformed
either : (p : ℕ) (os : List (List ℕ)) → formed os + length (malformed p os) ≡ length os
unfolding formed malformed
either p [] = refl
either p (o ∷ os) = cond_either (is_some (decoded o)) (formed os) 0 p (malformed (suc p) os) [] ∙ ap suc (either (suc p) os)

pub place_after : (os : List (List ℕ)) (s : State) → next_place (doing os s) ≡ next_place s + length os
place_after os s = omega (arith, either (next_place s) os, length-append s.2 (malformed (next_place s) os))

pub doing_none : (s : State) → s ≡ doing [] s
unfolding serial formed malformed
doing_none s = let b : s.1 ≡ s.1 + 0 = omega arith in λ i. (s.0, b i, sym (append-nil s.2) i)

pub doing_append : (os more : List (List ℕ)) (s : State) → doing (os ++ more) s ≡ doing more (doing os s)
doing_append os more s =
    let a = serial_append os more s.0 in
    let b : s.1 + formed (os ++ more) ≡ s.1 + formed os + formed more = omega (arith, formed_append os more) in
    let c : s.2 ++ malformed (next_place s) (os ++ more) ≡ (s.2 ++ malformed (next_place s) os) ++ malformed (next_place (doing os s)) more =
    ap (λ us. s.2 ++ us) (malformed_append (next_place s) os more) ∙ sym (append_assoc s.2 (malformed (next_place s) os) (malformed (next_place s + length os) more))
    ∙ ap (λ n. (s.2 ++ malformed (next_place s) os) ++ malformed n more) (sym (place_after os s)) in
    λ i. (a i, b i, c i)

-- what holds of a piece of the log before each order: the place p of that order, behind the bytes that were taken, and what is left of the piece, the state so far and the room for malformed orders.
-- The piece comes to the state whole, and total of its bytes are taken
pub record Going (whole : State) (total room p taken : ℕ) (bs : List ℕ) (s : State) : Type 0 where
  pub at : p ≡ next_place s
  pub fits : length s.2 + length bs / 2 ≤ room
  pub does : doing (entries_from p bs) s ≡ whole
  pub takes : taken + extent (entries_from p bs) ≡ total

-- the next order of the bytes bs is o, and then the bytes are cs; the state was s and is t
module _ (p q : ℕ) (bs cs o : List ℕ) (below : p < limit) (next : q ≡ p + 1) (first : frames bs ≡ o ∷ frames cs) (cut : cs ≡ drop (length o + 2) bs) (s t : State) (does : t ≡ doing (o ∷ []) s) where
  take_next : (n : ℕ) → p < n → take (n - p) (o ∷ frames cs) ≡ o ∷ take (n - q) (frames cs)
  take_next n h = let e : n - p ≡ suc (n - q) = omega arith in ap (λ m. take m (o ∷ frames cs)) e

  entries_next : entries_from p bs ≡ o ∷ entries_from q cs
  unfolding entries_from
  entries_next = ap (take (limit - p)) first ∙ take_next limit below

  one_place : next_place t ≡ next_place s + 1
  one_place = ap next_place does ∙ place_after (o ∷ []) s

  -- each order takes two bytes at least
  pub going_on : (whole : State) (total room taken : ℕ) → Going whole total room p taken bs s → Going whole total room q (taken + (2 + length o)) cs t
  going_on whole total room taken g = record {
    at = omega (arith, one_place);
    fits = omega (arith, one_place, ap (λ u. u.1) does, next_fits bs cs o first, ap length cut ∙ length-drop (length o + 2) bs);
    does = ap (doing (entries_from q cs)) does ∙ sym (doing_append (o ∷ []) (entries_from q cs) s) ∙ ap (λ os. doing os s) (sym entries_next) ∙ g.does;
    takes = omega (arith, ap extent entries_next ∙ extent_first o (entries_from q cs));
  }

-- no order is left
pub going_end : (whole : State) (total room p taken : ℕ) (bs : List ℕ) (s : State) → entries_from p bs ≡ [] → Going whole total room p taken bs s → (s ≡ whole) × (taken ≡ total)
going_end whole total room p taken bs s none g = (doing_none s ∙ ap (λ os. doing os s) (sym none) ∙ g.does, omega (arith, ap extent none))
