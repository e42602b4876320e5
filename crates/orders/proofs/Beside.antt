-- The keys of a set, and values beside them.
use Rattle.std.proofs.Common.{◌≡◌, ℕ, zero, suc, ◌+◌, ◌<◌, ◌≤◌, ◌≢◌, true, cond, not, eqb, leb, List, [], ◌∷◌, length, get_or, drop, sym, refl, ap, ◌∙◌, inl, inr, arith}
use Rattle.std.proofs.lemmas.List.{length-take, drop_all}
use Rattle.std.proofs.lemmas.Bool.{cases_eq, eq-eqb, ne_eqb, cond-true, cond-false, leb-true, and_parts}
use Rattle.std.specs.List.{position_or_len}
use Rattle.orders.specs.Contents.{keys_of}
use Rattle.orders.specs.Transaction.{lookup}
use Rattle.orders.specs.Valid.{rising}
use Rattle.orders.specs.declared.order.KeySet.{KeySet}

pub keys_few : (s : KeySet) → length (keys_of s) ≤ 16
keys_few s = let f = s.keys.few in simp length-take (omega arith)

module _ (k d : ℕ) where
  -- where the key first stands
  abbrev pub at : List ℕ → ℕ
  at ks = position_or_len (eqb k) ks

  at_here : (x : ℕ) (ks : List ℕ) → k ≡ x → at (x ∷ ks) ≡ 0
  at_here x ks e = ap (λ b. cond (not b) (1 + at ks) 0) (eq-eqb k x e)

  at_next : (x : ℕ) (ks : List ℕ) → k ≢ x → at (x ∷ ks) ≡ suc (at ks)
  at_next x ks ne = let next : 1 + at ks ≡ suc (at ks) = omega arith in ap (λ b. cond (not b) (1 + at ks) 0) (ne_eqb k x ne) ∙ next

  -- no value is beside a key that is not there
  pub absent : (ks vs : List ℕ) → length ks ≤ at ks → lookup ks vs k d ≡ d
  absent [] vs w = refl
  absent (x ∷ ks) [] w = refl
  absent (x ∷ ks) (v ∷ vs) w =
      elim (cases_eq k x) [
        | inl e ↦ let n = at_here x ks e in absurd (omega (arith, n))
        | inr ne ↦ let n = at_next x ks ne in cond-false (eqb k x) v (lookup ks vs k d) (ne_eqb k x ne) ∙ absent ks vs (omega (arith, n))
      ]

  -- one that is there has the value in its place
  pub there : (ks vs : List ℕ) → at ks < length ks → lookup ks vs k d ≡ get_or vs (at ks) d
  there [] vs w = absurd (omega arith)
  there (x ∷ ks) [] w = refl
  there (x ∷ ks) (v ∷ vs) w =
      elim (cases_eq k x) [
        | inl e ↦ cond-true (eqb k x) v (lookup ks vs k d) (eq-eqb k x e) ∙ ap (λ n. get_or (v ∷ vs) n d) (sym (at_here x ks e))
        | inr ne ↦
            let n = at_next x ks ne in
            cond-false (eqb k x) v (lookup ks vs k d) (ne_eqb k x ne) ∙ there ks vs (omega (arith, n)) ∙ ap (λ n. get_or (v ∷ vs) n d) (sym n)
      ]

  pub beside_none : (ks : List ℕ) → lookup ks [] k d ≡ d
  beside_none [] = refl
  beside_none (x ∷ ks) = refl

  -- a cursor at a place p, from which it goes on
  pub gone : (p : ℕ) (ks vs : List ℕ) → length ks ≤ p → lookup (drop p ks) (drop p vs) k d ≡ d
  gone p ks vs h = ap (λ xs. lookup xs (drop p vs) k d) (drop_all p ks h)

  pub here : (p : ℕ) (ks vs : List ℕ) → p < length ks → get_or ks p 0 ≡ k → lookup (drop p ks) (drop p vs) k d ≡ get_or vs p d
  here p [] vs h e = absurd (omega arith)
  here zero (x ∷ ks) [] h e = refl
  here zero (x ∷ ks) (v ∷ vs) h e = cond-true (eqb k x) v (lookup ks vs k d) (eq-eqb k x (sym e))
  here (suc p) (x ∷ ks) [] h e = beside_none (drop p ks)
  here (suc p) (x ∷ ks) (v ∷ vs) h e = here p ks vs (omega arith) e

  pub on : (p : ℕ) (ks vs : List ℕ) → p < length ks → get_or ks p 0 < k → lookup (drop (suc p) ks) (drop (suc p) vs) k d ≡ lookup (drop p ks) (drop p vs) k d
  on p [] vs h l = absurd (omega arith)
  on zero (x ∷ ks) [] h l = beside_none ks
  on zero (x ∷ ks) (v ∷ vs) h l = sym (cond-false (eqb k x) v (lookup ks vs k d) (ne_eqb k x (λ e. absurd (omega arith))))
  on (suc p) (x ∷ ks) [] h l = beside_none (drop (suc p) ks) ∙ sym (beside_none (drop p ks))
  on (suc p) (x ∷ ks) (v ∷ vs) h l = on p ks vs (omega arith) l

  below_all : (low : ℕ) (ks vs : List ℕ) → rising low ks ≡ true → k < low → lookup ks vs k d ≡ d
  below_all low [] vs r h = refl
  below_all low (x ∷ ks) [] r h = refl
  below_all low (x ∷ ks) (v ∷ vs) r h =
      let parts = and_parts (leb low x) (rising (suc x) ks) r in
      let up : low ≤ x = leb-true low x parts.0 in
      cond-false (eqb k x) v (lookup ks vs k d) (ne_eqb k x (λ e. absurd (omega arith))) ∙ below_all (suc x) ks vs parts.1 (omega arith)

  pub below : (low p : ℕ) (ks vs : List ℕ) → rising low ks ≡ true → p < length ks → k < get_or ks p 0 → lookup (drop p ks) (drop p vs) k d ≡ d
  below low p [] vs r h l = absurd (omega arith)
  below low zero (x ∷ ks) [] r h l = refl
  below low zero (x ∷ ks) (v ∷ vs) r h l =
      cond-false (eqb k x) v (lookup ks vs k d) (ne_eqb k x (λ e. absurd (omega arith)))
      ∙ below_all (suc x) ks vs (and_parts (leb low x) (rising (suc x) ks) r).1 (omega arith)
  below low (suc p) (x ∷ ks) [] r h l = beside_none (drop p ks)
  below low (suc p) (x ∷ ks) (v ∷ vs) r h l = below (suc x) p ks vs (and_parts (leb low x) (rising (suc x) ks) r).1 (omega arith) l
