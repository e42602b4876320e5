use Rattle.std.proofs.Common.{◌&&◌, ◌||◌, vec_items, sym, ap, ◌∙◌, arith}
use Rattle.orders.specs.Transaction.{is_in}
use Rattle.turns.specs.Marks.{wakes}
use Rattle.turns.specs.State.{marks_of, done_of, count_of}
use Rattle.turns.proofs.Woken.{nexts_further, nexts_end, nexts_all}
use Rattle.turns.proofs.turns.Turns.wakes.Goals as goal

pub loop-mark-init : goal.loop-mark-init
loop-mark-init c = λ j. nexts_all c.args.self.now c.args.place j 0 c.row-mark-items.result.now (vec_items c.new-woken.result.items) c.new-woken.ensures c.row-mark-items.ensures

pub loop-mark-preserved : goal.loop-mark-preserved
loop-mark-preserved c = λ j.
    nexts_further c.args.self.now c.args.place j c.loop-mark.mark-index c.row-mark-items.result.now c.loop-mark-test.true (is_in j (vec_items c.loop-mark.woken.items)) (is_in j (vec_items c.wake_behind.new.woken.items)) (c.in_ok-wake_behind.ensures.has j)
    ∙ c.loop-mark.invariant j

pub returns-clause-woken : goal.returns-clause-woken
returns-clause-woken c =
    let t = c.args.self.now in
    record {
      rises = c.into_vec.ensures.rises;
      are = λ j.
          ap (λ v. is_in j (vec_items v)) c.into_vec.ensures.items
          ∙ sym (ap (λ b. (b && wakes (marks_of t) (done_of t) (count_of t) c.args.place j) || is_in j (vec_items c.loop-mark.woken.items)) (nexts_end t c.args.place j c.loop-mark.mark-index c.row-mark-items.result.now (omega arith)))
          ∙ c.loop-mark.invariant j;
    }
