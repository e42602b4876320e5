-- Laws of transactions: of values that agree, and of keys outside a write set.
use Rattle.std.proofs.Common.{◌≡◌, ℕ, false, eqb, List, [], ◌∷◌, map, refl, ap, ◌∙◌}
use Rattle.std.proofs.lemmas.Bool.{eq-eqb, or_left, or_right, or_parts, cond-false}
use Rattle.orders.specs.Effect.{Agree}
use Rattle.orders.specs.Transaction.{lookup, written, is_in}
use Rattle.orders.specs.declared.outcome.Outcome.{Outcome}
use Rattle.orders.specs.declared.outcome.Outcome.TheVariants.{Nothing, Writes}

pub map_agreed : (ks : List ℕ) (f g : ℕ → ℕ) → Agree ks f g → map f ks ≡ map g ks
map_agreed [] f g h = refl
map_agreed (x ∷ xs) f g h =
    ap (λ v. v ∷ map f xs) (h x (or_left (eqb x x) (is_in x xs) (eq-eqb x x refl)))
    ∙ ap (λ vs. g x ∷ vs) (map_agreed xs f g (λ k e. h k (or_right (eqb k x) (is_in k xs) e)))

pub lookup_missing : (ks vs : List ℕ) (k d : ℕ) → is_in k ks ≡ false → lookup ks vs k d ≡ d
lookup_missing [] vs k d h = refl
lookup_missing (x ∷ xs) [] k d h = refl
lookup_missing (x ∷ xs) (v ∷ vs) k d h = let p = or_parts (eqb k x) (is_in k xs) h in cond-false _ _ _ p.0 ∙ lookup_missing xs vs k d p.1

pub written_outside : (ws : List ℕ) (o : Outcome) (k d : ℕ) → is_in k ws ≡ false → written ws o k d ≡ d
written_outside ws Nothing k d h = refl
written_outside ws (Writes vs) k d h = lookup_missing ws vs k d h
