use Rattle.std.proofs.Common.{◌≡◌, ◌<◌, length, Some, rules, arith, tests}
use Rattle.std.proofs.lemmas.List.{take_more_set}
use Rattle.orders.proofs.Codec.{many_more, many_none, many_all, list_none, list_within}
use Rattle.orders.proofs.order.decode.read_items.Goals as goal

pub returns-in_err-item : goal.returns-in_err-item
returns-in_err-item g c = grind (arith, many_none, list_none)

pub loop-i-preserved : goal.loop-i-preserved
loop-i-preserved g c =
    let within : c.loop-i.i < length c.loop-i.list.items = search (rules, arith) in
    let set = take_more_set c.loop-i.list.items c.loop-i.i c.in_ok-item.item within in
    let one : g.R.Reader.reads c.args.reader.now c.loop-i.rest.now ≡ Some (c.in_ok-item.item, c.in_ok-item.after.now) = search (rules, tests) in
    grind (arith, many_more, set, one)

pub returns : goal.returns
returns g c = grind (arith, many_all, list_within)
