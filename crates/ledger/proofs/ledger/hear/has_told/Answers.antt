use Rattle.std.proofs.Common.{ℕ, Option, Bor, ap, ◌∙◌, rules, tests}
use Rattle.std.proofs.lemmas.Iterator.{YieldsList-from_slice, YieldsList-from_zip}
use Rattle.std.proofs.lemmas.Iterator.Search.{find_from_yields_List}
use Rattle.orders.specs.Contents.{keys_of}
use Rattle.ledger.specs.Own.{owns}
use Rattle.ledger.proofs.Telling.{told_in, told_from, told_found}
use Rattle.ledger.proofs.ledger.hear.has_told.Goals as goal

pub returns : goal.returns
returns c =
    let ks = keys_of c.args.keys.now in
    let first = find_from_yields_List (λ (p : ℕ × Option ℕ). owns c.args.teller.number p.0) c.find-first.new.self _ c.find-first.result c.find-first.ensures.ran
    (YieldsList-from_zip {s = c.zip-pairs.result} (YieldsList-from_slice ks cc) (YieldsList-from_slice c.args.slots.now cc)) (λ x b q k. search (rules, tests)) in
    told_from c.find-first.result (λ (p : Bor ℕ × Bor (Option ℕ)). (p.0.now, p.1.now)) _ c.is_some_and.result c.is_some_and.ensures (λ x k. search (rules, tests))
    ∙ ap told_in first ∙ told_found c.args.teller.number ks c.args.slots.now
