-- Queues with the same entries are the same.
use Rattle.std.proofs.Common.{◌≡◌, Bool, true, false, ◌&&◌, eqb, List, [], ◌∷◌, sym, refl, ap, ◌∙◌}
use Rattle.std.proofs.lemmas.Bool.{both_ways, not-true, eqb-true, eq-eqb, and_parts, and_from}
use Rattle.turns.specs.Queues.{both, alike}
use Rattle.turns.specs.declared.entry.Entry.{Entry}

pub both_true : (a b : Bool) → both a b ≡ true → a ≡ b
both_true true b e = sym e
both_true false b e = sym (not-true b e)

pub both_refl : (a : Bool) → both a a ≡ true
both_refl true = refl
both_refl false = refl

pub same_from_alike : (ds es : List Entry) → alike ds es ≡ true → ds ≡ es
same_from_alike [] [] e = refl
same_from_alike [] (x ∷ es) e = absurd (both_ways false refl e)
same_from_alike (d ∷ ds) [] e = absurd (both_ways false refl e)
same_from_alike (d ∷ ds) (x ∷ es) e =
    let p = and_parts (eqb d.place x.place) (both d.writes x.writes && alike ds es) e in
    let r = and_parts (both d.writes x.writes) (alike ds es) p.1 in
    let a : d.place ≡ x.place = eqb-true d.place x.place p.0 in
    let b : d.writes ≡ x.writes = both_true d.writes x.writes r.0 in
    let c : ds ≡ es = same_from_alike ds es r.1 in
    λ i. record { place = a i; writes = b i } ∷ c i

pub alike_refl : (es : List Entry) → alike es es ≡ true
alike_refl [] = refl
alike_refl (e ∷ es) =
    and_from (eqb e.place e.place) (both e.writes e.writes && alike es es) (eq-eqb e.place e.place refl)
    (and_from (both e.writes e.writes) (alike es es) (both_refl e.writes) (alike_refl es))

pub alike_from_same : (ds es : List Entry) → ds ≡ es → alike ds es ≡ true
alike_from_same ds es e = ap (alike ds) (sym e) ∙ alike_refl ds
