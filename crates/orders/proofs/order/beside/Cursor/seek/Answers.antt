use Rattle.std.proofs.Common.{◌≡◌, suc, ◌+◌, ◌<◌, ◌≤◌, ◌≢◌, sym, ap, ◌∙◌, drop, length, get_or, unwrap_or, rules, arith}
use Rattle.std.proofs.lemmas.Option.{gets}
use Rattle.orders.proofs.Beside.{gone, here, on, below}
use Rattle.orders.specs.Transaction.{lookup}
use Rattle.orders.proofs.order.beside.Cursor.seek.Goals as goal
use Rattle.orders.proofs.order.beside.Cursor.seek.Goals.{then-loop-place-test+else-self-place, else-loop-place-test}

pub loop-place-preserved : goal.loop-place-preserved
loop-place-preserved c k other h =
    let ks = c.args.self.now.keys.now in
    let vs = c.args.self.now.values.now in
    let next : c.loop-place.place + 1 ≡ suc c.loop-place.place = omega arith in
    ap (λ n. lookup (drop n ks) (drop n vs) k other) next
    ∙ on k other c.loop-place.place ks vs c.loop-place-test.true (omega (arith, c.if-self-place.true))
    ∙ c.loop-place.invariant k other h

pub returns-in-Some-clause-value : goal.returns-in-Some-clause-value
returns-in-Some-clause-value c other =
    let ks = c.args.self.now.keys.now in
    let vs = c.args.self.now.values.now in
    let within : c.loop-place.place < length ks = grind (gets, rules, arith) in
    let found : get_or ks c.loop-place.place 0 ≡ c.args.key = grind (gets, rules) in
    let value : unwrap_or c.copied.result other ≡ get_or vs c.loop-place.place other = grind (gets, rules) in
    value ∙ sym (here c.args.key other c.loop-place.place ks vs within found) ∙ c.loop-place.invariant c.args.key other (omega arith)

pub returns-in-Some-clause-passed : goal.returns-in-Some-clause-passed
returns-in-Some-clause-passed c k other h =
    let ks = c.args.self.now.keys.now in
    let within : c.loop-place.place < length ks = grind (gets, rules, arith) in
    let found : get_or ks c.loop-place.place 0 ≡ c.args.key = grind (gets, rules) in
    below k other 0 c.loop-place.place ks c.args.self.now.values.now c.args.self.now.rises within (omega (arith, found))

pub returns-in_default-clause-passed : goal.returns-in_default-clause-passed
returns-in_default-clause-passed c k other h =
    let ks = c.args.self.now.keys.now in
    let within : c.loop-place.place < length ks = grind (gets, rules, arith) in
    elim c.loop-place-test.branch [
      | then-loop-place-test+else-self-place w ↦ below k other 0 c.loop-place.place ks c.args.self.now.values.now c.args.self.now.rises within (omega (arith, w.if-self-place.false))
      | else-loop-place-test w ↦ absurd (omega (arith, w.loop-place-test.false, within))
    ]

pub returns-in_default-clause-value : goal.returns-in_default-clause-value
returns-in_default-clause-value c other =
    let ks = c.args.self.now.keys.now in
    let within : c.loop-place.place < length ks = grind (gets, rules, arith) in
    let ne : get_or ks c.loop-place.place 0 ≢ c.args.key = grind (gets, rules) in
    elim c.loop-place-test.branch [
      | then-loop-place-test+else-self-place w ↦
          sym (below c.args.key other 0 c.loop-place.place ks c.args.self.now.values.now c.args.self.now.rises within (omega (arith, w.if-self-place.false, ne))) ∙ c.loop-place.invariant c.args.key other (omega arith)
      | else-loop-place-test w ↦ absurd (omega (arith, w.loop-place-test.false, within))
    ]

pub returns-in_default-2-clause-value : goal.returns-in_default-2-clause-value
returns-in_default-2-clause-value c other =
    let ks = c.args.self.now.keys.now in
    let none : length ks ≤ c.loop-place.place = grind (gets, rules, arith) in
    sym (gone c.args.key other c.loop-place.place ks c.args.self.now.values.now none) ∙ c.loop-place.invariant c.args.key other (omega arith)
