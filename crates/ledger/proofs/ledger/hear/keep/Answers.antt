use Rattle.std.proofs.Common.{ℕ, [], length, get_or, set, sym, ap, ◌∙◌, rules, tests, arith}
use Rattle.std.proofs.lemmas.List.{at_drop_all, length_push, set-get_or}
use Rattle.std.proofs.lemmas.Iterator.{YieldsList-from_slice, YieldsList-from_zip}
use Rattle.std.proofs.lemmas.Iterator.Consumers.{YieldsList-at, YieldsList-from_enumerate, YieldsList-from_filter, YieldsList-turn, YieldsList-end}
use Rattle.orders.specs.Contents.{keys_of}
use Rattle.rows.specs.Lists.{rows_of}
use Rattle.ledger.specs.Own.{owns}
use Rattle.ledger.proofs.Telling.{paired, put_all, put_turn, put_told}
use Rattle.ledger.proofs.ledger.hear.keep.Goals as goal

pub loop-i-preserved : goal.loop-i-preserved
loop-i-preserved c =
    let ks = keys_of c.args.keys.now in
    let turn = YieldsList-turn (YieldsList-at c.into_iter-i-iterator.ensures.into_iter_gives (YieldsList-from_zip (YieldsList-at c.zip-i-items.ensures.first (YieldsList-from_filter _ (λ (p : ℕ × ℕ). owns c.args.teller.number p.1)
    (YieldsList-at c.filter-own.ensures.source (YieldsList-from_enumerate (YieldsList-at c.enumerate.ensures.source (YieldsList-from_slice ks cc)) c.enumerate.ensures.count))
    c.filter-own.ensures.closure (λ x b q k. search (rules, tests)))) (YieldsList-from_slice c.args.values.now cc)))
    c.loop-i.yielded c.loop-i.i-iterator c.loop-i.yielded_by c.next.result c.next.new.self ((c.in-Some.i, c.in-Some.field-0-0-1), c.in-Some.value) c.in-Some.is c.next.ensures.steps in
    put_turn (rows_of c.loop-i.slots) (rows_of c.set.new.self) c.args.index (paired c.args.teller.number ks c.args.values.now) (length c.loop-i.yielded) _
    ((c.in-Some.i, c.in-Some.field-0-0-1.now), c.in-Some.value.now) turn.0 turn.1 (length_push c.loop-i.yielded ((c.in-Some.i, c.in-Some.field-0-0-1), c.in-Some.value)) c.set.ensures
    ∙ c.loop-i.invariant

pub returns : goal.returns
returns c =
    let ks = keys_of c.args.keys.now in
    let end = YieldsList-end (YieldsList-at c.into_iter-i-iterator.ensures.into_iter_gives (YieldsList-from_zip (YieldsList-at c.zip-i-items.ensures.first (YieldsList-from_filter _ (λ (p : ℕ × ℕ). owns c.args.teller.number p.1)
    (YieldsList-at c.filter-own.ensures.source (YieldsList-from_enumerate (YieldsList-at c.enumerate.ensures.source (YieldsList-from_slice ks cc)) c.enumerate.ensures.count))
    c.filter-own.ensures.closure (λ x b q k. search (rules, tests)))) (YieldsList-from_slice c.args.values.now cc)))
    c.loop-i.yielded c.loop-i.i-iterator c.loop-i.yielded_by c.next.result c.next.new.self c.in-None.is c.next.ensures.steps in
    let rows = rows_of c.loop-i.slots in
    sym (set-get_or rows c.args.index [])
    ∙ sym (at_drop_all (λ ps. set rows c.args.index (put_all ps (get_or rows c.args.index []))) (paired c.args.teller.number ks c.args.values.now) (length c.loop-i.yielded) (omega (arith, end.1)))
    ∙ c.loop-i.invariant ∙ ap (set (rows_of c.args.slots.now) c.args.index) (put_told c.args.teller.number ks c.args.values.now (get_or (rows_of c.args.slots.now) c.args.index []))
