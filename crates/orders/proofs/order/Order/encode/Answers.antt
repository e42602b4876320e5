use Rattle.std.proofs.Common.{◌≡◌, ◌++◌, vec_items, ap, ◌∙◌}
use Rattle.orders.specs.Codec.{two, counted, encoded, decoded, instruction_bytes}
use Rattle.orders.specs.Contents.{contents_of}
use Rattle.orders.proofs.Decode.{valid_order}
use Rattle.orders.proofs.Encode.{three_parts}
use Rattle.orders.proofs.Laws.{decodes_all}
use Rattle.orders.proofs.order.Order.encode.Goals as goal

pub returns : goal.returns
returns c =
    let e : vec_items c.write_list-3.new.out ≡ encoded (contents_of c.args.self.now) =
    three_parts (vec_items c.new-out.result) (vec_items c.write_list.new.out) (vec_items c.write_list-2.new.out) (vec_items c.write_list-3.new.out) _ _ _ c.new-out.ensures.items
    (c.in_ok-write_list.ensures ∙ ap (λ ks. vec_items c.new-out.result ++ counted two ks) c.reads.ensures.is)
    (c.in_ok-write_list-2.ensures ∙ ap (λ ks. vec_items c.write_list.new.out ++ counted two ks) c.writes.ensures.is)
    (c.in_ok-write_list-3.ensures ∙ ap (λ is. vec_items c.write_list-2.new.out ++ counted instruction_bytes is) c.code.ensures.is) in
    (e, ap decoded e ∙ decodes_all (contents_of c.args.self.now) (valid_order c.args.self.now))
