use Rattle.std.proofs.Common.{◌+◌, ◌-◌, false, map, length, vec_items, sym, ◌∙◌, arith}
use Rattle.std.proofs.lemmas.List.{at_drop_all}
use Rattle.turns.specs.Entries.{entries_in}
use Rattle.turns.specs.Queues.{enter_all}
use Rattle.turns.proofs.Coming.{roomy_left, enters_next}
use Rattle.turns.proofs.queues.Queues.enter.Goals as goal

pub loop-mark-preserved : goal.loop-mark-preserved
loop-mark-preserved c = record {
  entered = enters_next c.loop-mark.mark-index c.slot.result c.args.marks.now record { key = 0; writes = false } c.loop-mark-test.true c.slot.ensures.number (vec_items c.loop-mark.self.by_key) c.index_mut.result.now c.push.new.self
      (omega arith) c.index_mut.ensures.value c.args.place c.push.ensures.pushed
      ∙ c.loop-mark.invariant.entered;
  room = roomy_left (vec_items c.loop-mark.self.by_key) c.slot.result c.index_mut.result.now c.push.new.self (omega arith) c.index_mut.ensures.value
      (length c.args.marks.now - (c.loop-mark.mark-index + 1)) (length c.args.marks.now - c.loop-mark.mark-index) c.args.marks.now (omega arith) (λ l. omega arith) c.loop-mark.invariant.room;
}

pub returns : goal.returns
unfolding enter_all
returns c = sym (at_drop_all (λ ms. enter_all c.args.place ms (map entries_in (vec_items c.loop-mark.self.by_key))) c.args.marks.now c.loop-mark.mark-index c.loop-mark-test.false) ∙ c.loop-mark.invariant.entered
