-- A list that is gone through, of which the live tasks are kept.
use Rattle.std.proofs.Common.{◌≡◌, Bool, true, false, List, [], ◌∷◌, ◌++◌, length, filter, sym, ap, ◌∙◌}
use Rattle.std.proofs.lemmas.List.{append-nil, append_assoc, nil_from_length}
use Rattle.std.proofs.lemmas.Bool.{cond-true, cond-false}
use Rattle.shard.specs.declared.task.Task.{Task}

-- p: which are kept
module _ (p : Task → Bool) (t : Task) (ts : List Task) where
  pub kept_by_first : p t ≡ true → filter p (t ∷ ts) ≡ t ∷ filter p ts
  kept_by_first e = cond-true (p t) (t ∷ filter p ts) (filter p ts) e

  pub kept_by_not_first : p t ≡ false → filter p (t ∷ ts) ≡ filter p ts
  kept_by_not_first e = cond-false (p t) (t ∷ filter p ts) (filter p ts) e

  -- ds: those kept so far; rest: what is left of the list
  pub kept_more : (ds ds' rest all : List Task) → ds ++ filter p rest ≡ all → rest ≡ t ∷ ts → p t ≡ true → ds' ≡ ds ++ t ∷ [] → ds' ++ filter p ts ≡ all
  kept_more ds ds' rest all so_far is e one = ap (λ us. us ++ filter p ts) one ∙ append_assoc ds (t ∷ []) (filter p ts) ∙ ap (λ us. ds ++ us) (sym (kept_by_first e) ∙ ap (filter p) (sym is)) ∙ so_far

  pub kept_no_more : (ds rest all : List Task) → ds ++ filter p rest ≡ all → rest ≡ t ∷ ts → p t ≡ false → ds ++ filter p ts ≡ all
  kept_no_more ds rest all so_far is e = ap (λ us. ds ++ us) (sym (kept_by_not_first e) ∙ ap (filter p) (sym is)) ∙ so_far

pub kept_all : (p : Task → Bool) (ds rest all : List Task) → ds ++ filter p rest ≡ all → length rest ≡ 0 → ds ≡ all
kept_all p ds rest all so_far none = sym (append-nil ds) ∙ ap (λ us. ds ++ filter p us) (sym (nil_from_length rest none)) ∙ so_far
