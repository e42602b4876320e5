use Rattle.std.proofs.Common.{◌≡◌, true, length, vec_items, ◌∙◌, arith}
use Rattle.std.proofs.lemmas.List.{length_push}
use Rattle.std.proofs.lemmas.Slice.Zip.{zip_turn}
use Rattle.orders.specs.Contents.{keys_of}
use Rattle.orders.specs.Valid.{rising}
use Rattle.line.proofs.Values.{write_more}
use Rattle.line.proofs.store.Store.write.Goals as goal

pub loop-key-preserved : goal.loop-key-preserved
loop-key-preserved c k =
    let ks = keys_of c.args.keys.now in
    let vs = c.args.values.now in
    let xs = c.loop-key.yielded in
    let turn = zip_turn ks vs xs c.into_iter-key-iterator.result c.loop-key.key-iterator c.next.new.self c.next.result (cc) (cc) c.loop-key.yielded_by
    (c.in-Some.key, c.in-Some.value) c.in-Some.is c.next.ensures.steps in
    let rises : rising 0 ks ≡ true = cc in
    write_more ks vs (vec_items c.loop-key.self.values) (length xs) c.from.result c.in-Some.value.now turn.0 turn.1
    (c.from.ensures ∙ turn.2 0) (turn.3 0) (omega arith) rises k _ (length_push xs (c.in-Some.key, c.in-Some.value))
    ∙ c.loop-key.invariant k
