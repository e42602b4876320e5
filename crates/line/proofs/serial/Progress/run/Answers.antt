use Rattle.std.proofs.Common.{◌≡◌, ◌∙◌, [], arith, inl, inr}
use Rattle.line.specs.Frames.{extent}
use Rattle.line.specs.Serial.{entries_from, state_of, next_place, doing}
use Rattle.line.proofs.Framing.{next_fits}
use Rattle.line.proofs.Totals.{entries_past, entries_none, entries_fit, going_on, going_end}
use Rattle.line.proofs.serial.Progress.run.Goals as goal

pub step-requires : goal.step-requires
step-requires c =
    let n = c.in-Some.ensures.steps in (
      omega arith,
      (omega arith, omega (arith, next_fits c.loop-place.place-iterator.b.rest.now c.next.new.self.b.rest.now c.in-Some.order.now n.1.0)),
    )

pub overflow_add-taken-in-loop-place : goal.overflow_add-taken-in-loop-place
overflow_add-taken-in-loop-place c =
    let n = c.in-Some.ensures.steps in
    let s = state_of c.args.self.now in
    let g = going_on c.loop-place.place-iterator.a.start c.next.new.self.a.start c.loop-place.place-iterator.b.rest.now c.next.new.self.b.rest.now c.in-Some.order.now
    (omega arith) (omega arith) n.1.0 n.1.1 (state_of c.loop-place.self) (state_of c.step.new.self) c.step.ensures.does
    _ _ _ _ c.loop-place.invariant.going in
    omega (arith, g.takes, entries_fit (next_place s) c.args.bytes.now)

pub loop-place-preserved : goal.loop-place-preserved
loop-place-preserved c =
    let n = c.in-Some.ensures.steps in
    record {
      up_to = omega arith;
      room = c.step.ensures.room ∙ c.loop-place.invariant.room;
      going = going_on c.loop-place.place-iterator.a.start c.next.new.self.a.start c.loop-place.place-iterator.b.rest.now c.next.new.self.b.rest.now c.in-Some.order.now
          (omega arith) (omega arith) n.1.0 n.1.1 (state_of c.loop-place.self) (state_of c.step.new.self) c.step.ensures.does
          _ _ _ _ c.loop-place.invariant.going;
    }

-- the loop ends where no order is left
none_left : (c : goal.In-None) → entries_from c.loop-place.place-iterator.a.start c.loop-place.place-iterator.b.rest.now ≡ []
none_left c = elim c.in-None.ensures.steps [
  | inl e ↦ entries_past c.loop-place.place-iterator.a.start c.loop-place.place-iterator.b.rest.now (omega arith)
  | inr e ↦ entries_none c.loop-place.place-iterator.a.start c.loop-place.place-iterator.b.rest.now e.1.0
]

ended : (c : goal.In-None) →
    let s = state_of c.args.self.now in
    let all = entries_from (next_place s) c.args.bytes.now in
    (state_of c.loop-place.self ≡ doing all s) × (c.loop-place.taken ≡ extent all)
ended c = going_end _ _ _ _ _ _ _ (none_left c) c.loop-place.invariant.going

pub returns-clause-does : goal.returns-clause-does
returns-clause-does c = (ended c).0

pub returns-clause-takes : goal.returns-clause-takes
returns-clause-takes c = (ended c).1

pub returns-clause-within : goal.returns-clause-within
returns-clause-within c = omega (arith, (ended c).1, entries_fit (next_place (state_of c.args.self.now)) c.args.bytes.now)
