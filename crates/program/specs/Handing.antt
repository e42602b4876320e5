-- What a reader has left, handed on in pieces.
--   Took g f ps h       the calls at the pieces ps, one after the other, all went well and led from f to h
--   HandsOn g f rest    the bytes that are left went so, all of them in their order; nothing is said where they are not known
use Rattle.std.specs.Prelude.{◌≡◌, ℕ, List, Option, Result, Ok, IfSome}
use Rattle.std.specs.Fn.{Mut, CalledAt}
use Rattle.std.specs.List.{FoldsTo, concat}
use denote.Ref.{Bor}

abbrev pub Took : {F E : Type 0} → Mut F (Bor (List ℕ) × Unit {0}) (Result (Unit {0}) E) → F → List (List ℕ) → F → Type 0
Took g f ps h = FoldsTo (λ p x q. CalledAt g p x (Ok tt) q) f ps h

abbrev pub HandsOn : {F E : Type 0} → Mut F (Bor (List ℕ) × Unit {0}) (Result (Unit {0}) E) → F → Option (List ℕ) → Type 0
HandsOn {F} g f rest = IfSome rest (λ bs. (ps : List (List ℕ)) × (last : F) × (concat ps ≡ bs) × Took g f ps last)
