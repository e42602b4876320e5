use Rattle.std.proofs.Common.{◌+◌, ◌-◌, false, ◌++◌, ltb-true, length, length-drop, drop, take_all, sym, refl, ap, ◌∙◌, rules, tests, arith}
use Rattle.std.proofs.lemmas.Option.{cond_some}
use Rattle.std.proofs.lemmas.Iterator.{YieldsList-from_slice}
use Rattle.std.proofs.lemmas.Iterator.Search.{position_from_yields_List}
use Rattle.turns.specs.Queues.{clear_in}
use Rattle.turns.proofs.Passing.{counts, stops_beyond, stops_before, goes_on_behind, passed_all}
use Rattle.turns.proofs.Removal.{not_found}
use Rattle.turns.proofs.queue.verdict.Goals as goal

pub loop-at-init : goal.loop-at-init
loop-at-init c more = refl

pub returns-then-entry-place : goal.returns-then-entry-place
returns-then-entry-place c more =
    let es = c.loop-at.rest.now in
    let place = position_from_yields_List (counts c.args.place c.args.but c.args.writes) _ _ c.position.result c.position.ensures.ran (YieldsList-from_slice es c.iter.ensures.rest) (λ x b q k. search (rules, tests)) in
    let found = cond_some _ _ _ (sym place ∙ c.in-Some.is) in
    sym (c.loop-at.invariant more)
    ∙ stops_beyond c.args.place c.args.but c.args.writes es more c.in-Some.at (record { place = 0; writes = false }) (sym found.1) (omega (arith, found.1, ltb-true _ _ found.0)) c.if-entry-place.true

pub returns-then-entry-but : goal.returns-then-entry-but
returns-then-entry-but c more =
    let es = c.loop-at.rest.now in
    let place = position_from_yields_List (counts c.args.place c.args.but c.args.writes) _ _ c.position.result c.position.ensures.ran (YieldsList-from_slice es c.iter.ensures.rest) (λ x b q k. search (rules, tests)) in
    let found = cond_some _ _ _ (sym place ∙ c.in-Some.is) in
    sym (c.loop-at.invariant more)
    ∙ stops_before c.args.place c.args.but c.args.writes es more c.in-Some.at (record { place = 0; writes = false }) (sym found.1) (omega (arith, found.1, ltb-true _ _ found.0)) c.if-entry-place.false c.if-entry-but.true

pub loop-at-preserved : goal.loop-at-preserved
loop-at-preserved c more =
    let es = c.loop-at.rest.now in
    let place = position_from_yields_List (counts c.args.place c.args.but c.args.writes) _ _ c.position.result c.position.ensures.ran (YieldsList-from_slice es c.iter.ensures.rest) (λ x b q k. search (rules, tests)) in
    let found = cond_some _ _ _ (sym place ∙ c.in-Some.is) in
    let rest = take_all (length es - (c.in-Some.at + 1)) (drop (c.in-Some.at + 1) es) (omega (arith, length-drop (c.in-Some.at + 1) es)) in
    ap (λ xs. clear_in c.args.place c.args.but c.args.writes (xs ++ more)) rest
    ∙ sym (goes_on_behind c.args.place c.args.but c.args.writes es more c.in-Some.at (record { place = 0; writes = false }) (sym found.1) (omega (arith, found.1, ltb-true _ _ found.0)) c.if-entry-place.false c.if-entry-but.false)
    ∙ c.loop-at.invariant more

pub returns : goal.returns
returns c more =
    let es = c.loop-at.rest.now in
    let place = position_from_yields_List (counts c.args.place c.args.but c.args.writes) _ _ c.position.result c.position.ensures.ran (YieldsList-from_slice es c.iter.ensures.rest) (λ x b q k. search (rules, tests)) in
    sym (c.loop-at.invariant more) ∙ passed_all c.args.place c.args.but c.args.writes es more (not_found _ _ (sym place ∙ c.in_default.is))
