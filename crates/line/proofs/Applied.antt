-- From what an order was found to come to, to the state that it leaves.
use Rattle.std.proofs.Common.{◌≡◌, ℕ, ◌+◌, cond, List, [], ◌∷◌, ◌++◌, map, length, is_some, Some, None, Option, sym, refl, ap, ◌∙◌, arith}
use Rattle.std.proofs.lemmas.List.{append-nil}
use Rattle.orders.specs.Codec.{decoded}
use Rattle.orders.specs.Contents.{Contents}
use Rattle.orders.specs.Meaning.{meaning, meaning_or, outcome_of}
use Rattle.orders.specs.Transaction.{after, written, serial}
use Rattle.orders.specs.declared.outcome.Outcome.{Outcome}
use Rattle.line.specs.Serial.{malformed, formed, State, doing}

-- states that have the same value in each key are the same
same_state : {f g : ℕ → ℕ} → ((k : ℕ) → f k ≡ g k) → f ≡ g
same_state h = λ i k. h k i

pub applied : (c : Contents) (f g : ℕ → ℕ) (vs : List ℕ) (r : Outcome) → r ≡ outcome_of c vs → vs ≡ map f c.reads → ((k : ℕ) → g k ≡ written c.writes r k (f k)) → g ≡ after (meaning c) f
unfolding after
applied c f g vs r is read wrote = same_state (λ k. wrote k ∙ ap (λ o. written c.writes o k (f k)) (is ∙ ap (outcome_of c) read))

-- one order, done from a state
module _ (o : List ℕ) (f : ℕ → ℕ) (d : ℕ) (m : List ℕ) where
  found : Option Contents → State
  found x = (after (meaning_or x) f, d + cond (is_some x) 1 0, m ++ cond (is_some x) [] ((d + length m) ∷ []))

  found_is : found (decoded o) ≡ doing (o ∷ []) (f, d, m)
  unfolding found serial formed malformed
  found_is = refl

  pub one_formed : (g : ℕ → ℕ) (c : Contents) → decoded o ≡ Some c → g ≡ after (meaning c) f → ◌≡◌ {A = State} (g, d + 1, m) (doing (o ∷ []) (f, d, m))
  unfolding found
  one_formed g c is left = (λ i. (left i, d + 1, sym (append-nil m) i)) ∙ ap found (sym is) ∙ found_is

  pub one_malformed : (p : ℕ) (m' : List ℕ) → decoded o ≡ None → p ≡ d + length m → m' ≡ m ++ p ∷ [] → ◌≡◌ {A = State} (f, d, m') (doing (o ∷ []) (f, d, m))
  unfolding found after
  one_malformed p m' is at noted =
      let same : d ≡ d + 0 = omega arith in
      (λ i. (f, same i, (noted ∙ ap (λ n. m ++ n ∷ []) at) i)) ∙ ap found (sym is) ∙ found_is
