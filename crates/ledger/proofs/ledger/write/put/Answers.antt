use Rattle.std.proofs.Common.{◌/◌, length, drop, set, sym, ap, ◌∙◌, arith, rules}
use Rattle.std.proofs.lemmas.List.{length_push}
use Rattle.std.proofs.lemmas.Slice.Zip.{zip_turn}
use Rattle.orders.specs.Contents.{keys_of}
use Rattle.orders.specs.Transaction.{lookup}
use Rattle.orders.specs.Valid.{rising}
use Rattle.ledger.specs.Own.{slot_in}
use Rattle.ledger.proofs.Putting.{put_more, pass_more}
use Rattle.ledger.proofs.ledger.write.put.Goals as goal

pub loop-key-preserved-then-owns : goal.loop-key-preserved-then-owns
loop-key-preserved-then-owns c =
    let ks = keys_of c.args.keys.now in
    let vs = c.args.values.now in
    let items = c.loop-key.own.own.items in
    let j = c.in-Some.key.now in
    let turn = zip_turn ks vs c.loop-key.yielded c.into_iter-key-iterator.result c.loop-key.key-iterator c.next.new.self c.next.result
    (search rules) (search rules) c.loop-key.yielded_by (c.in-Some.key, c.in-Some.value) c.in-Some.is c.next.ensures.steps in
    let n = length_push c.loop-key.yielded (c.in-Some.key, c.in-Some.value) in
    let stored = c.set.ensures ∙ ap (set items (j / 16)) (turn.3 0) in
    λ k o.
    (λ x. lookup (drop (n x) ks) (drop (n x) vs) k (slot_in (stored x) k))
    ∙ put_more c.args.owner.number ks vs items (length c.loop-key.yielded) j turn.0 turn.1 (turn.2 0) (ap (rising 0) (sym c.as_slice.ensures.is) ∙ c.as_slice.ensures.rises) k o (sym c.if-owns.ensures) (omega (arith, c.loop-key.own.sized, c.loop-key.own.own.ok.0))
    ∙ c.loop-key.invariant k o

pub loop-key-preserved : goal.loop-key-preserved
loop-key-preserved c =
    let ks = keys_of c.args.keys.now in
    let vs = c.args.values.now in
    let j = c.in-Some.key.now in
    let turn = zip_turn ks vs c.loop-key.yielded c.into_iter-key-iterator.result c.loop-key.key-iterator c.next.new.self c.next.result
    (search rules) (search rules) c.loop-key.yielded_by (c.in-Some.key, c.in-Some.value) c.in-Some.is c.next.ensures.steps in
    let n = length_push c.loop-key.yielded (c.in-Some.key, c.in-Some.value) in
    λ k o.
    (λ x. lookup (drop (n x) ks) (drop (n x) vs) k (slot_in c.loop-key.own.own.items k))
    ∙ pass_more c.args.owner.number ks vs c.loop-key.own.own.items (length c.loop-key.yielded) j turn.0 turn.1 (turn.2 0) (ap (rising 0) (sym c.as_slice.ensures.is) ∙ c.as_slice.ensures.rises) k o (sym c.if-owns.ensures)
    ∙ c.loop-key.invariant k o
