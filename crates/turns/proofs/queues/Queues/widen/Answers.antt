use Rattle.std.proofs.Common.{false, vec_items, ◌∙◌, arith}
use Rattle.turns.proofs.Coming.{entries_kept, roomy_more, room_grows}
use Rattle.turns.proofs.queues.Queues.widen.Goals as goal

pub returns-in_err-reserve-clause-same : goal.returns-in_err-reserve-clause-same
returns-in_err-reserve-clause-same c =
    entries_kept (vec_items c.loop-mark.self.by_key) c.slot.result c.index_mut.result.now c.reserve.new.self (omega arith) c.index_mut.ensures.value c.in_err-reserve.ensures.same ∙ c.loop-mark.invariant.same

pub loop-mark-preserved : goal.loop-mark-preserved
loop-mark-preserved c = record {
  same = entries_kept (vec_items c.loop-mark.self.by_key) c.slot.result c.index_mut.result.now c.reserve.new.self (omega arith) c.index_mut.ensures.value c.in_ok-reserve.ensures.same ∙ c.loop-mark.invariant.same;
  room = roomy_more c.loop-mark.mark-index c.slot.result c.args.marks.now record { key = 0; writes = false } c.loop-mark-test.true c.slot.ensures.number (vec_items c.loop-mark.self.by_key) c.index_mut.result.now c.reserve.new.self
      (omega arith) c.index_mut.ensures.value (omega arith) (omega (arith, c.in_ok-reserve.ensures.room)) c.loop-mark.invariant.room;
  grew = λ s. omega (arith, c.loop-mark.invariant.grew s, room_grows (vec_items c.loop-mark.self.by_key) c.slot.result c.index_mut.result.now c.reserve.new.self (omega arith) c.index_mut.ensures.value s (omega arith));
}
