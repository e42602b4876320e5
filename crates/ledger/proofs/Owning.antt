-- A house by its number.
use Rattle.std.proofs.Common.{◌≡◌, ℕ, ◌≤◌, Some, Option, subst}
use Rattle.std.specs.Option.{MatchOption}
use Rattle.ledger.specs.declared.owner.Owner.{Owner}

-- the house that was asked for
pub owner_is : (o : Owner) (r : Option Owner) (n : ℕ) → r ≡ Some o → MatchOption r (16 ≤ n) (λ (w : Owner). w.number ≡ n) → o.number ≡ n
owner_is o r n is m = subst (λ w. MatchOption w (16 ≤ n) (λ (x : Owner). x.number ≡ n)) is m
