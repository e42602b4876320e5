-- The value beside a key, one key of the list at a time.
use Rattle.std.proofs.Common.{◌≡◌, ℕ, ◌+◌, ◌<◌, cond, eqb, List, ◌∷◌, length, get_or, drop, sym, ◌∙◌}
use Rattle.std.proofs.lemmas.List.{at_drop_more}
use Rattle.std.proofs.lemmas.Bool.{eq-eqb, ne_eqb, cond-true, cond-false}
use Rattle.orders.specs.Transaction.{lookup}

-- the value beside a key, one key of the list at a time
module _ (ks vs : List ℕ) (k d i : ℕ) where
  module _ (key_in : i < length ks) (value_in : i < length vs) where
    lookup_at : lookup (drop i ks) (drop i vs) k d ≡ cond (eqb k (get_or ks i 0)) (get_or vs i 0) (lookup (drop (i + 1) ks) (drop (i + 1) vs) k d)
    lookup_at =
        at_drop_more (λ xs. lookup xs (drop i vs) k d) ks i 0 key_in
        ∙ at_drop_more (λ ys. lookup (get_or ks i 0 ∷ drop (i + 1) ks) ys k d) vs i 0 value_in

    pub lookup_here : get_or ks i 0 ≡ k → lookup (drop i ks) (drop i vs) k d ≡ get_or vs i 0
    lookup_here e = lookup_at ∙ cond-true _ _ _ (eq-eqb _ _ (sym e))

    pub lookup_on : (get_or ks i 0 ≡ k → ⊥) → lookup (drop i ks) (drop i vs) k d ≡ lookup (drop (i + 1) ks) (drop (i + 1) vs) k d
    lookup_on e = lookup_at ∙ cond-false _ _ _ (ne_eqb _ _ (λ h. e (sym h)))
