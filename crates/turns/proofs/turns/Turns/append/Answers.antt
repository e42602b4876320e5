use Rattle.std.proofs.Common.{map, length, vec_items, vec_len, sym, ap, ◌∙◌, arith}
use Rattle.std.proofs.lemmas.List.{length-map, length_push, nil_from_length}
use Rattle.std.proofs.lemmas.Bool.{eqb-true}
use Rattle.rows.specs.Lists.{rows_of}
use Rattle.turns.specs.Entries.{entries_in}
use Rattle.turns.proofs.Coming.{queued_once_come}
use Rattle.turns.proofs.turns.Turns.append.Goals as goal

pub invariant_of-self-2 : goal.invariant_of-self-2
invariant_of-self-2 c =
    let rows = rows_of c.args.self.now.marks in
    let ms = c.args.marks.now in
    let row = c.in_ok-push.ensures.pushed in
    record {
      counted = omega (arith, c.push_reserved.ensures.len, c.reserve.ensures.len, ap length row, length_push rows ms);
      few = omega (arith, c.push_reserved.ensures.len, c.reserve.ensures.len);
      queued = queued_once_come rows (rows_of c.push.new.self) (vec_items c.args.self.now.done) (vec_items c.push_reserved.new.self) (vec_items c.reserve.new.self) ms c.is_empty.result (vec_len c.args.self.now.done)
          (sym c.args.self.now.counted) (sym c.args.self.now.done.ok.0) row c.reserve.ensures.items c.push_reserved.ensures.items
          (λ t. nil_from_length ms (eqb-true (length ms) 0 (sym c.is_empty.ensures ∙ t)))
          (vec_len c.push_reserved.new.self) c.len-place.result (map entries_in (vec_items c.args.self.now.queues.by_key)) (map entries_in (vec_items c.widen.new.self.by_key)) (map entries_in (vec_items c.enter.new.self.by_key))
          (omega (arith, c.push_reserved.ensures.len, c.reserve.ensures.len)) c.len-place.ensures (length-map (vec_items c.args.self.now.queues.by_key) entries_in ∙ sym c.args.self.now.queues.by_key.ok.0 ∙ c.args.self.now.queues.sized)
          c.widen.ensures.same c.enter.ensures c.args.self.now.queued;
    }
