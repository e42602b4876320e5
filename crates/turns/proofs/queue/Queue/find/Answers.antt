use Rattle.std.proofs.Common.{◌≡◌, ℕ, ◌+◌, ◌<◌, eqb, leb, ltb-true, drop, length, length-drop, take_all, Option, MatchOption, subst, sym, ap, ◌∙◌, rules, tests, arith}
use Rattle.std.specs.Bool.{then_some}
use Rattle.std.specs.List.{remove}
use Rattle.std.proofs.lemmas.Option.{cond_some}
use Rattle.std.proofs.lemmas.Iterator.Consumers.{YieldsList-from_deque}
use Rattle.std.proofs.lemmas.Iterator.Search.{position_from_yields_List}
use Rattle.turns.specs.Entries.{entries_in}
use Rattle.turns.specs.Queues.{without_from}
use Rattle.turns.specs.declared.entry.Entry.{Entry}
use Rattle.turns.proofs.Removal.{none_from, some_from, not_found}
use Rattle.turns.proofs.queue.Queue.find.Goals as goal

pub returns-in_err-at : goal.returns-in_err-at
returns-in_err-at c =
    let es = entries_in c.args.self.now in
    let rest = c.range-rest.ensures.rest ∙ take_all _ (drop c.args.from es) (omega (arith, length-drop c.args.from es, c.args.self.now.entries.ok)) in
    let place = position_from_yields_List (λ (e : Entry). leb c.args.place e.place) _ _ c.position.result c.position.ensures.ran (YieldsList-from_deque (drop c.args.from es) rest) (λ x b q k. search (rules, tests)) in
    subst (λ (r : Option ℕ). MatchOption r (without_from c.args.place c.args.from es ≡ es) (λ at. (at < length es) × (without_from c.args.place at (remove es at) ≡ without_from c.args.place c.args.from es)))
    (sym c.from_residual.ensures) (none_from c.args.place c.args.from es (not_found _ _ (sym place ∙ c.in_err-at.was)))

pub returns : goal.returns
returns c =
    let es = entries_in c.args.self.now in
    let rest = c.range-rest.ensures.rest ∙ take_all _ (drop c.args.from es) (omega (arith, length-drop c.args.from es, c.args.self.now.entries.ok)) in
    let place = position_from_yields_List (λ (e : Entry). leb c.args.place e.place) _ _ c.position.result c.position.ensures.ran (YieldsList-from_deque (drop c.args.from es) rest) (λ x b q k. search (rules, tests)) in
    let found = cond_some _ _ _ (sym place ∙ c.in_ok-at.was) in
    let j = c.args.from + c.in_ok-at.field-0 in
    subst (λ (r : Option ℕ). MatchOption r (without_from c.args.place c.args.from es ≡ es) (λ at. (at < length es) × (without_from c.args.place at (remove es at) ≡ without_from c.args.place c.args.from es)))
    (sym (c.then_some.ensures ∙ ap (λ (e : Entry). then_some (eqb e.place c.args.place) j) c.in_ok-entry.ensures.lookup))
    (some_from c.args.place c.args.from j es c.in_ok-entry.entry.now (omega (arith, found.1)) (ltb-true _ _ found.0))
