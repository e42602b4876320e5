use Rattle.std.proofs.Common.{◌≡◌, ℕ, true, List, vec_items, is_ok, sym, ap, ◌∙◌, subst}
use Rattle.std.specs.List.{insert}
use Rattle.std.proofs.lemmas.Bool.{cond_both}
use Rattle.orders.specs.Transaction.{is_in}
use Rattle.orders.specs.Valid.{rising}
use Rattle.turns.proofs.Rising.{in_found, rising_found, in_inserted}
use Rattle.turns.proofs.places.Places.insert.Goals as goal

pub returns-in-Ok-clause-has : goal.returns-in-Ok-clause-has
returns-in-Ok-clause-has c = in_found (vec_items c.args.self.now.items) c.deref.result.now c.args.place c.args.self.now.rises c.deref.ensures.value c.in-Ok.field-0 c.in-Ok.ensures.position

pub invariant_of-self : goal.invariant_of-self
invariant_of-self c = record {
  rises = subst (λ (xs : List ℕ). rising 0 xs ≡ true) (sym c.insert.ensures.items)
      (cond_both (is_ok c.insert.result) (insert (vec_items c.args.self.now.items) c.in-Err.at c.args.place) (vec_items c.args.self.now.items) (λ (xs : List ℕ). rising 0 xs ≡ true)
      (λ _. rising_found (vec_items c.args.self.now.items) c.deref.result.now c.args.place c.args.self.now.rises c.deref.ensures.value c.in-Err.at c.in-Err.ensures.position)
      (λ _. c.args.self.now.rises));
}

pub returns-in_ok-insert-in-Err-clause-has : goal.returns-in_ok-insert-in-Err-clause-has
returns-in_ok-insert-in-Err-clause-has c = λ x. ap (is_in x) c.in_ok-insert-in-Err.ensures.items ∙ in_inserted x c.in-Err.at c.args.place (vec_items c.args.self.now.items)
