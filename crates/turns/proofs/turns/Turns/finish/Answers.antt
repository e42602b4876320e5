use Rattle.std.proofs.Common.{map, vec_items, vec_len, sym, ◌∙◌, arith}
use Rattle.std.proofs.lemmas.List.{length-map}
use Rattle.rows.specs.Lists.{rows_of}
use Rattle.turns.specs.Entries.{entries_in}
use Rattle.turns.proofs.Going.{queued_once_done}
use Rattle.turns.proofs.turns.Turns.finish.Goals as goal

pub invariant_of-self : goal.invariant_of-self
invariant_of-self c =
    record {
      counted = c.args.self.now.counted;
      few = c.args.self.now.few;
      queued = queued_once_done (rows_of c.args.self.now.marks) (vec_items c.args.self.now.done) c.args.place (omega arith) (vec_len c.args.self.now.done) c.row.result.now
          (map entries_in (vec_items c.args.self.now.queues.by_key)) (map entries_in (vec_items c.leave.new.self.by_key))
          (length-map (vec_items c.args.self.now.queues.by_key) entries_in ∙ sym c.args.self.now.queues.by_key.ok.0 ∙ c.args.self.now.queues.sized) c.row.ensures c.leave.ensures c.args.self.now.queued;
    }
