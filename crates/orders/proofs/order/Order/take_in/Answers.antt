use Rattle.std.proofs.Common.{◌≡◌, rules, length, Some, ap, ◌∙◌, arith}
use Rattle.std.specs.Option.{option_map}
use Rattle.bounded.specs.Items.{items_of}
use Rattle.orders.specs.Codec.{keys_in, code_in}
use Rattle.orders.specs.Contents.{keys_of}
use Rattle.orders.proofs.Decode.{decoded_no_reads, decoded_no_writes, decoded_no_code, decoded_code, fits_read}
use Rattle.orders.proofs.order.Order.take_in.Goals as goal

pub returns-in_err-rest : goal.returns-in_err-rest
returns-in_err-rest c = grind (arith, decoded_no_reads)

pub returns-in_err-rest-2 : goal.returns-in_err-rest-2
returns-in_err-rest-2 c = grind (arith, decoded_no_writes)

pub returns-in_err-rest-3 : goal.returns-in_err-rest-3
returns-in_err-rest-3 c = grind (arith, decoded_no_code)

pub invariant_of-self-2 : goal.invariant_of-self-2
invariant_of-self-2 c =
    record {
      fits =
          fits_read (length (keys_of c.take_in-2.new.self)) c.read_list.result (λ r. r.now) (items_of c.read_list.new.list) c.in_ok-rest-2.rest.now
          (c.read_list.ensures.is ∙ ap (λ ks. code_in (length ks) c.in_ok-rest-2.rest.now) c.as_slice.ensures.is) c.read_list.ensures.none;
    }

pub returns : goal.returns
returns c =
    let reads : keys_in c.args.bytes.now ≡ Some (keys_of c.take_in.new.self, c.in_ok-rest.rest.now) = search rules in
    let writes : keys_in c.in_ok-rest.rest.now ≡ Some (keys_of c.take_in-2.new.self, c.in_ok-rest-2.rest.now) = search rules in
    let code : code_in (length (keys_of c.take_in-2.new.self)) c.in_ok-rest-2.rest.now ≡ Some (items_of c.read_list.new.list, c.in_ok-rest-3.rest.now) = rw (← c.as_slice.ensures.is) (search rules) in
    decoded_code _ _ _ _ _ _ _ reads writes code ∙ ap (option_map _) (search rules)
