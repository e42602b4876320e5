use Rattle.std.proofs.Common.{false, map, vec_items, sym, ◌∙◌, arith}
use Rattle.std.proofs.lemmas.List.{at_drop_all}
use Rattle.turns.specs.Entries.{entries_in}
use Rattle.turns.specs.Queues.{leave_all}
use Rattle.turns.proofs.Going.{leaves_next}
use Rattle.turns.proofs.queues.Queues.leave.Goals as goal

pub loop-mark-preserved : goal.loop-mark-preserved
loop-mark-preserved c =
    leaves_next c.args.place c.loop-mark.mark-index c.slot.result c.args.marks.now record { key = 0; writes = false } (vec_items c.loop-mark.self.by_key) c.index_mut.result.now c.remove.new.self
    c.loop-mark-test.true c.slot.ensures.number (omega arith) c.index_mut.ensures.value c.remove.ensures
    ∙ c.loop-mark.invariant

pub returns : goal.returns
unfolding leave_all
returns c = sym (at_drop_all (λ ms. leave_all c.args.place ms (map entries_in (vec_items c.loop-mark.self.by_key))) c.args.marks.now c.loop-mark.mark-index c.loop-mark-test.false) ∙ c.loop-mark.invariant
