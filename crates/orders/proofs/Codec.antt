-- Laws of the codec.
use Rattle.std.proofs.Common.{◌≡◌, ℕ, suc, ◌+◌, ◌-◌, ◌<◌, ◌≤◌, cond, leb, List, [], ◌∷◌, ◌++◌, Some, None, sym, refl, ap, ◌∙◌, arith}
use Rattle.std.proofs.lemmas.List.{append_assoc, append-nil}
use Rattle.std.proofs.lemmas.Bool.{le-leb, cond_both}
use Rattle.orders.specs.Codec.{Read, and_then, prepend, many, list_in}

-- prepending twice is prepending both
prepend_prepend : {X : Type 0} (xs ys : List X) (r : Read (List X)) → prepend xs (prepend ys r) ≡ prepend (xs ++ ys) r
prepend_prepend xs ys None = refl
prepend_prepend xs ys (Some p) = ap (λ zs. Some (zs, p.1)) (sym (append_assoc xs ys p.0))

-- A loop that reads len things, i of which are done: with those still to be read they are the whole.
module _ {X : Type 0} (one : List ℕ → Read X) (done : List X) (len i : ℕ) (bs : List ℕ) (whole : Read (List X)) where
  many_suc : i < len → many one (len - i) bs ≡ and_then (one bs) (λ p. prepend (p.0 ∷ []) (many one (len - (i + 1)) p.1))
  unfolding many
  many_suc h = let e : len - i ≡ suc (len - (i + 1)) = omega arith in rw e refl

  pub many_more : (x : X) (after : List ℕ) → i < len → one bs ≡ Some (x, after) → prepend done (many one (len - i) bs) ≡ whole → prepend (done ++ x ∷ []) (many one (len - (i + 1)) after) ≡ whole
  many_more x after h e inv =
      sym (prepend_prepend done (x ∷ []) (many one (len - (i + 1)) after))
      ∙ ap (λ o. prepend done (and_then o (λ p. prepend (p.0 ∷ []) (many one (len - (i + 1)) p.1)))) (sym e)
      ∙ ap (prepend done) (sym (many_suc h))
      ∙ inv

  pub many_none : i < len → one bs ≡ None → prepend done (many one (len - i) bs) ≡ whole → whole ≡ None
  many_none h e inv =
      sym inv
      ∙ ap (prepend done) (many_suc h)
      ∙ ap (λ o. prepend done (and_then o (λ p. prepend (p.0 ∷ []) (many one (len - (i + 1)) p.1)))) e

  pub many_all : len ≤ i → prepend done (many one (len - i) bs) ≡ whole → whole ≡ Some (done, bs)
  unfolding many
  many_all h inv =
      let e : len - i ≡ 0 = omega arith in
      let s : prepend done (many one (len - i) bs) ≡ Some (done, bs) = rw e (ap (λ zs. Some (zs, bs)) (append-nil done)) in
      sym inv ∙ s

-- a list behind its count
module _ {X : Type 0} (most : ℕ) (one : List ℕ → Read X) (n : ℕ) (bs : List ℕ) where
  pub list_within : n ≤ most → list_in most one (n ∷ bs) ≡ many one n bs
  list_within h = ap (λ b. cond b (many one n bs) None) (le-leb n most h)

  pub list_none : many one n bs ≡ None → list_in most one (n ∷ bs) ≡ None
  list_none e = cond_both (leb n most) (many one n bs) None (λ r. r ≡ None) (λ _. e) (λ _. refl)
