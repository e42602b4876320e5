-- Lists with the same marks are the same.
use Rattle.std.proofs.Common.{◌≡◌, true, false, ◌&&◌, eqb, List, [], ◌∷◌, refl}
use Rattle.std.proofs.lemmas.Bool.{both_ways, eqb-true, eq-eqb, and_parts, and_from}
use Rattle.turns.specs.Queues.{both}
use Rattle.turns.specs.declared.entry.Mark.{Mark}
use Rattle.turns.proofs.Alike.{both_true, both_refl}
use Rattle.ledger.specs.Own.{alike_marks}

pub same_from_alike_marks : (ms ns : List Mark) → alike_marks ms ns ≡ true → ms ≡ ns
same_from_alike_marks [] [] e = refl
same_from_alike_marks [] (n ∷ ns) e = absurd (both_ways false refl e)
same_from_alike_marks (m ∷ ms) [] e = absurd (both_ways false refl e)
same_from_alike_marks (m ∷ ms) (n ∷ ns) e =
    let p = and_parts (eqb m.key n.key) (both m.writes n.writes && alike_marks ms ns) e in
    let r = and_parts (both m.writes n.writes) (alike_marks ms ns) p.1 in
    let a : m.key ≡ n.key = eqb-true m.key n.key p.0 in
    let b : m.writes ≡ n.writes = both_true m.writes n.writes r.0 in
    let c : ms ≡ ns = same_from_alike_marks ms ns r.1 in
    λ i. record { key = a i; writes = b i } ∷ c i

pub alike_marks_refl : (ms : List Mark) → alike_marks ms ms ≡ true
alike_marks_refl [] = refl
alike_marks_refl (m ∷ ms) =
    and_from (eqb m.key m.key) (both m.writes m.writes && alike_marks ms ms) (eq-eqb m.key m.key refl)
    (and_from (both m.writes m.writes) (alike_marks ms ms) (both_refl m.writes) (alike_marks_refl ms))
