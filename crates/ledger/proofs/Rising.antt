-- The keys of an order rise, whatever its bytes are.
use Rattle.std.proofs.Common.{◌≡◌, ℕ, true, List, [], ◌∷◌, length, Some, None, Option, refl, ap, ◌∙◌, inl, inr}
use Rattle.std.proofs.lemmas.Bool.{cases_Bool, cond-true, cond-false}
use Rattle.orders.specs.Codec.{Read, and_then, only, list_in, key_in, keys_in, code_in, ended, decoded}
use Rattle.orders.specs.Contents.{Contents}
use Rattle.orders.specs.Meaning.{meaning_or, transaction}
use Rattle.orders.specs.Transaction.{Transaction}
use Rattle.orders.specs.Valid.{rising}

-- r: its keys as read from its bytes; f: the rest of it
keys_rise : (field : Transaction → List ℕ) → field (meaning_or None) ≡ [] → (r : Read (List ℕ)) (f : List ℕ × List ℕ → Option Contents) →
    ((p : List ℕ × List ℕ) → rising 0 p.0 ≡ true → rising 0 (field (meaning_or (f p))) ≡ true) → rising 0 (field (meaning_or (and_then (only (rising 0) r) f))) ≡ true
keys_rise field none None f each = ap (rising 0) none
keys_rise field none (Some p) f each =
    elim (cases_Bool (rising 0 p.0)) [
      | inl t ↦ ap (λ o. rising 0 (field (meaning_or (and_then o f)))) (cond-true (rising 0 p.0) (Some p) None t) ∙ each p t
      | inr t ↦ ap (λ o. rising 0 (field (meaning_or (and_then o f)))) (cond-false (rising 0 p.0) (Some p) None t) ∙ ap (rising 0) none
    ]

-- what follows the keys changes none of them
module _ (field : Transaction → List ℕ) (none : field (meaning_or None) ≡ []) (rs : List ℕ) where
  at_end : (c : Contents) (bs : List ℕ) → field (meaning_or (Some c)) ≡ rs → rising 0 rs ≡ true → rising 0 (field (meaning_or (ended c bs))) ≡ true
  at_end c [] e t = ap (rising 0) e ∙ t
  at_end c (b ∷ bs) e t = ap (rising 0) none

  behind : {X : Type 0} (r : Option X) (f : X → Option Contents) → ((x : X) → rising 0 (field (meaning_or (f x))) ≡ true) → rising 0 (field (meaning_or (and_then r f))) ≡ true
  behind None f each = ap (rising 0) none
  behind (Some x) f each = each x

abbrev reads_of : Transaction → List ℕ
reads_of t = t.reads

pub reads_rise : (bs : List ℕ) → rising 0 (transaction bs).reads ≡ true
unfolding decoded
reads_rise bs =
    keys_rise reads_of refl (list_in 16 key_in bs) (λ r. and_then (keys_in r.1) (λ w. and_then (code_in (length w.0) w.1) (λ c. ended (record { reads = r.0; writes = w.0; code = c.0 }) c.1)))
    (λ r t. behind reads_of refl r.0 (keys_in r.1) (λ w. and_then (code_in (length w.0) w.1) (λ c. ended (record { reads = r.0; writes = w.0; code = c.0 }) c.1))
    (λ w. behind reads_of refl r.0 (code_in (length w.0) w.1) (λ c. ended (record { reads = r.0; writes = w.0; code = c.0 }) c.1)
    (λ c. at_end reads_of refl r.0 (record { reads = r.0; writes = w.0; code = c.0 }) c.1 refl t)))
