-- How far a reader's bytes were handed on.
use Rattle.std.proofs.Common.{◌≡◌, ℕ, List, [], ◌∷◌, ◌++◌, Option, Some, None, Result, Ok, ap, sym, ◌∙◌, append_assoc, append-nil, subst, IfSome}
use Rattle.std.specs.Fn.{Mut, CalledAt}
use Rattle.std.specs.List.{concat}
use Rattle.std.specs.Io.KnownBytes.{Consumes, IsAtEnd}
use Rattle.std.proofs.lemmas.Fn.{FoldsTo-push}
use Rattle.std.proofs.KnownBytes.{Consumes-trans}
use denote.Ref.{Bor}
use Rattle.program.specs.Handing.{Took, HandsOn}

-- some pieces went, and the reader lost them
abbrev pub Far : {F E : Type 0} → Mut F (Bor (List ℕ) × Unit {0}) (Result (Unit {0}) E) → F → Option (List ℕ) → F → Option (List ℕ) → Type 0
Far g f old h new = (ps : List (List ℕ)) × Took g f ps h × Consumes old new (concat ps)

concat_push : (ps : List (List ℕ)) (p : List ℕ) → concat (ps ++ (p ∷ [])) ≡ concat ps ++ p
concat_push [] p = append-nil p
concat_push (x ∷ ps) p = ap (λ t. x ++ t) (concat_push ps p) ∙ sym (append_assoc x (concat ps) p)

at_end : (old new : Option (List ℕ)) (bs : List ℕ) → Consumes old new bs → IsAtEnd new → IfSome old (λ xs. bs ≡ xs)
at_end None new bs p e = tt
at_end (Some xs) None bs p e = absurd p
at_end (Some xs) (Some ys) bs p e = sym (p ∙ ap (λ t. bs ++ t) e ∙ append-nil bs)

end_before : (mid new : Option (List ℕ)) (bs : List ℕ) → Consumes mid new bs → bs ≡ [] → IsAtEnd new → IsAtEnd mid
end_before None new bs p e q = tt
end_before (Some xs) None bs p e q = absurd p
end_before (Some xs) (Some ys) bs p e q = p ∙ ap (λ t. bs ++ t) q ∙ append-nil bs ∙ e

hands_on : {F E : Type 0} (g : Mut F (Bor (List ℕ) × Unit {0}) (Result (Unit {0}) E)) (f h : F) (ps : List (List ℕ)) → Took g f ps h → (o : Option (List ℕ)) → IfSome o (λ bs. concat ps ≡ bs) → HandsOn g f o
hands_on g f h ps went None p = tt
hands_on g f h ps went (Some bs) p = (ps, h, p, went)

module _ {F E : Type 0} (g : Mut F (Bor (List ℕ) × Unit {0}) (Result (Unit {0}) E)) (f : F) (old : Option (List ℕ)) where
  pub far_more : (h k : F) (mid new : Option (List ℕ)) (p : List ℕ) → Far g f old h mid → CalledAt g h p (Ok tt) k → Consumes mid new p → Far g f old k new
  far_more h k mid new p (ps, went, lost) call more = (
    ps ++ (p ∷ []),
    FoldsTo-push (λ a x b. CalledAt g a x (Ok tt) b) f ps h p k went call,
    subst (λ bs. Consumes old new bs) (sym (concat_push ps p)) (Consumes-trans old mid new (concat ps) p lost more),
  )

  pub far_end : (h : F) (mid new : Option (List ℕ)) (bs : List ℕ) → Far g f old h mid → Consumes mid new bs → bs ≡ [] → IsAtEnd new → HandsOn g f old
  far_end h mid new bs (ps, went, lost) more none end = hands_on g f h ps went old (at_end old mid (concat ps) lost (end_before mid new bs more none end))
