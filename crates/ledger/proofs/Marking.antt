-- What is counted and found among the keys, marks and slots of an order.
use Rattle.std.proofs.Common.{◌≡◌, ℕ, suc, Bool, true, false, cond, ◌||◌, ◌&&◌, List, [], ◌∷◌, length, is_some, Option, filter, refl, ap}
use mathlib.Core.Bool.{beq}
use Rattle.std.specs.List.{list_any, list_all}
use Rattle.std.proofs.lemmas.List.Recursion.{same_from_clauses}
use Rattle.turns.specs.Queues.{both}
use Rattle.turns.specs.declared.entry.Mark.{Mark}
use Rattle.ledger.specs.Own.{owns, own_count, marked, known}

pub own_counted : (h : ℕ) (ks : List ℕ) → length (filter (owns h) ks) ≡ own_count h ks
own_counted h [] = refl
own_counted h (k ∷ ks) = by (owns h k) (own_counted h ks)
  where
    by : (b : Bool) → length (filter (owns h) ks) ≡ own_count h ks → length (cond b (k ∷ filter (owns h) ks) (filter (owns h) ks)) ≡ cond b (suc (own_count h ks)) (own_count h ks)
    by true e = ap suc e
    by false e = e

-- the code's test of two flags
both_is : (a b : Bool) → beq b a ≡ both a b
both_is true true = refl
both_is true false = refl
both_is false true = refl
both_is false false = refl

pub any_marked : (w : Bool) (ms : List Mark) → list_any (λ m. beq m.writes w) ms ≡ marked w ms
any_marked w [] = refl
any_marked w (m ∷ ms) = (λ x. both_is w m.writes x || any_marked w ms x)

pub all_are_known : (vs : List (Option ℕ)) → list_all is_some vs ≡ known vs
all_are_known vs = same_from_clauses (list_all is_some) known (λ v b. is_some v && b) refl (λ _ _. refl) (λ _ _. refl) vs
