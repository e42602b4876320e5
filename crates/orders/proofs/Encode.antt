-- The two bytes of a key; three parts written one after the other.
use Rattle.std.proofs.Common.{◌≡◌, ℕ, ◌/◌, ◌%◌, ◌<◌, List, [], ◌∷◌, ◌++◌, ap, ◌∙◌, arith}
use Rattle.std.proofs.lemmas.List.{append_assoc}
use Rattle.orders.specs.Codec.{two}

pub two_bytes : (k : ℕ) (bs : List ℕ) → k < 65536 → bs ≡ (k / 256 % 256) ∷ (k % 256) ∷ [] → bs ≡ two k
two_bytes k bs h e = let d : k / 256 % 256 ≡ k / 256 = omega arith in e ∙ ap (λ x. x ∷ (k % 256) ∷ []) d

-- three parts written one after the other into what was empty
pub three_parts : (o p q r a b c : List ℕ) → o ≡ [] → p ≡ o ++ a → q ≡ p ++ b → r ≡ q ++ c → r ≡ a ++ (b ++ c)
three_parts o p q r a b c e₀ e₁ e₂ e₃ = cc (append_assoc a b c)
