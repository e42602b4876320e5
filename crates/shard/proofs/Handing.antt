-- A house that is handed back with what came of a step of it.
use Rattle.std.proofs.Common.{◌≡◌, Ok, Err, Result, subst, sym}
use Rattle.std.specs.Result.{MatchResult}
use Rattle.ledger.specs.declared.refusal.Refusal.{Refusal}
use Rattle.shard.specs.declared.house.House.{House}

-- what holds of the house after the step, and of what came of it, holds of what is handed back
pub handed_back : {T : Type 0} (h : House) (came : Result T Refusal) (back : Result (House × T) (House × Refusal)) (A : T → Type 0) (B : House × T → Type 0) (Q : House × Refusal → Type 0) →
    MatchResult back (λ p. (p.0 ≡ h) × (came ≡ Ok p.1)) (λ p. (p.0 ≡ h) × (came ≡ Err p.1)) → MatchResult came A (λ e. Q (h, e)) → ((v : T) → A v → B (h, v)) → MatchResult back B Q
handed_back h came (Ok p) A B Q is m on = subst (λ x. B (x, p.1)) (sym is.0) (on p.1 (subst (λ r. MatchResult r A (λ e. Q (h, e))) is.1 m))
handed_back h came (Err p) A B Q is m on = subst (λ x. Q (x, p.1)) (sym is.0) (subst (λ r. MatchResult r A (λ e. Q (h, e))) is.1 m)
