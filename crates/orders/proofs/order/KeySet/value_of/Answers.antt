use Rattle.std.proofs.Common.{◌≡◌, eqb, sym, ap, ◌∙◌, ltb-true, inl, inr, length, get_or, unwrap_or, rules, tests}
use Rattle.std.proofs.lemmas.Bool.{cases_lt, cond-true, lt-ltb}
use Rattle.std.proofs.lemmas.Option.{cond_some, none-some, gets}
use Rattle.std.proofs.lemmas.Iterator.{YieldsList-from_slice}
use Rattle.std.proofs.lemmas.Iterator.Search.{position_from_yields_List}
use Rattle.orders.specs.Contents.{keys_of}
use Rattle.orders.proofs.Beside.{at, absent, there}
use Rattle.orders.proofs.order.KeySet.value_of.Goals as goal

pub returns-in_err-place : goal.returns-in_err-place
returns-in_err-place c other =
    let ks = keys_of c.args.self.now in
    let place = position_from_yields_List (eqb c.args.key) _ _ c.position.result c.position.ensures.ran (YieldsList-from_slice ks cc) (λ x b q k. search (rules, tests)) in
    ap (λ o. unwrap_or o other) c.from_residual.ensures
    ∙ elim (cases_lt (at c.args.key other ks) (length ks)) [
      | inl w ↦ absurd (none-some _ (sym c.in_err-place.was ∙ place ∙ cond-true _ _ _ (lt-ltb _ _ w)))
      | inr w ↦ sym (absent c.args.key other ks c.args.values.now w)
    ]

pub returns : goal.returns
returns c other =
    let ks = keys_of c.args.self.now in
    let place = position_from_yields_List (eqb c.args.key) _ _ c.position.result c.position.ensures.ran (YieldsList-from_slice ks cc) (λ x b q k. search (rules, tests)) in
    let value : unwrap_or c.copied.result other ≡ get_or c.args.values.now c.in_ok-place.place other = grind (gets, rules) in
    let found = cond_some _ _ _ (sym place ∙ c.in_ok-place.was) in
    value ∙ ap (λ n. get_or c.args.values.now n other) (sym found.1) ∙ sym (there c.args.key other ks c.args.values.now (ltb-true _ _ found.0))
