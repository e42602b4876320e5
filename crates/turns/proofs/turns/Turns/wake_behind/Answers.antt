use Rattle.std.proofs.Common.{◌≡◌, ℕ, Bool, false, not, ◌&&◌, ◌||◌, length, drop, vec_items, ap, ◌∙◌, arith}
use Rattle.std.proofs.lemmas.List.{length_push}
use Rattle.std.proofs.lemmas.Bool.{and_left, and_right, not_from_true}
use Rattle.orders.specs.Transaction.{is_in}
use Rattle.turns.specs.Marks.{wakes}
use Rattle.turns.specs.Queues.{next_in}
use Rattle.turns.specs.State.{marks_of, done_of, count_of, queue_at}
use Rattle.turns.specs.declared.turns.Turns.{Turns}
use Rattle.turns.proofs.Passing.{turn_of_key, end_of_key}
use Rattle.turns.proofs.Woken.{entry_undone, next_own, next_last, next_further, next_end}
use Rattle.turns.proofs.turns.Turns.wake_behind.Goals as goal
use Rattle.turns.proofs.turns.Turns.wake_behind.Goals.{then-entry-via-then-entry, then-entry-via-else-entry+then-not-mark}

-- who waits for the order at p and for no other
abbrev wake : Turns → ℕ → ℕ → Bool
wake t p = wakes (marks_of t) (done_of t) (count_of t) p

pub wake-requires : goal.wake-requires
wake-requires c =
    let t = c.args.self.now in
    let u = turn_of_key t c.args.mark.now.key c.at.result.now c.at.ensures.within c.at.ensures.value c.into_iter-entry-iterator.result (cc) c.loop-entry.yielded c.loop-entry.entry-iterator c.loop-entry.yielded_by _ _ c.in-Some.entry c.in-Some.is c.next.ensures.steps in
    entry_undone t c.args.mark.now.key (length c.loop-entry.yielded) c.in-Some.entry.now u.0 u.1

pub returns-then-entry-clause-has : goal.returns-then-entry-clause-has
returns-then-entry-clause-has c =
    let t = c.args.self.now in
    let v = c.args.mark.now.writes in
    let e = c.in-Some.entry.now in
    let u = turn_of_key t c.args.mark.now.key c.at.result.now c.at.ensures.within c.at.ensures.value c.into_iter-entry-iterator.result (cc) c.loop-entry.yielded c.loop-entry.entry-iterator c.loop-entry.yielded_by _ _ c.in-Some.entry c.in-Some.is c.next.ensures.steps in
    let last : (v && not e.writes) ≡ false =
    elim c.then-entry.branch [
      | then-entry-via-then-entry w ↦ and_right v (not e.writes) (not_from_true e.writes w.if-entry.true)
      | then-entry-via-else-entry+then-not-mark w ↦ and_left v (not e.writes) w.if-not-mark.true
    ] in
    λ j.
    next_last c.args.place v (wake t c.args.place) (queue_at t c.args.mark.now.key) (length c.loop-entry.yielded) e u.0 u.1 c.if-entry-place.true last j (is_in j (vec_items c.loop-entry.woken.items)) (is_in j (vec_items c.wake.new.woken.items)) (c.in_ok-wake.ensures.has j)
    ∙ c.loop-entry.invariant j

pub loop-entry-preserved-then-entry-place : goal.loop-entry-preserved-then-entry-place
loop-entry-preserved-then-entry-place c =
    let t = c.args.self.now in
    let v = c.args.mark.now.writes in
    let es = queue_at t c.args.mark.now.key in
    let u = turn_of_key t c.args.mark.now.key c.at.result.now c.at.ensures.within c.at.ensures.value c.into_iter-entry-iterator.result (cc) c.loop-entry.yielded c.loop-entry.entry-iterator c.loop-entry.yielded_by _ _ c.in-Some.entry c.in-Some.is c.next.ensures.steps in
    λ j.
    ap (λ (n : ℕ). (is_in j (next_in c.args.place v (drop n es)) && wake t c.args.place j) || is_in j (vec_items c.wake.new.woken.items)) (length_push c.loop-entry.yielded c.in-Some.entry)
    ∙ next_further c.args.place v (wake t c.args.place) es (length c.loop-entry.yielded) c.in-Some.entry.now u.0 u.1 c.if-entry-place.true c.if-not-mark.false c.if-entry.false j (is_in j (vec_items c.loop-entry.woken.items)) (is_in j (vec_items c.wake.new.woken.items)) (c.in_ok-wake.ensures.has j)
    ∙ c.loop-entry.invariant j

pub loop-entry-preserved : goal.loop-entry-preserved
loop-entry-preserved c =
    let t = c.args.self.now in
    let v = c.args.mark.now.writes in
    let es = queue_at t c.args.mark.now.key in
    let u = turn_of_key t c.args.mark.now.key c.at.result.now c.at.ensures.within c.at.ensures.value c.into_iter-entry-iterator.result (cc) c.loop-entry.yielded c.loop-entry.entry-iterator c.loop-entry.yielded_by _ _ c.in-Some.entry c.in-Some.is c.next.ensures.steps in
    λ j.
    ap (λ (n : ℕ). (is_in j (next_in c.args.place v (drop n es)) && wake t c.args.place j) || is_in j (vec_items c.loop-entry.woken.items)) (length_push c.loop-entry.yielded c.in-Some.entry)
    ∙ next_own c.args.place v (wake t c.args.place) es (length c.loop-entry.yielded) c.in-Some.entry.now u.0 u.1 c.if-entry-place.false j (is_in j (vec_items c.loop-entry.woken.items))
    ∙ c.loop-entry.invariant j

pub returns-clause-has : goal.returns-clause-has
returns-clause-has c =
    let t = c.args.self.now in
    let all = end_of_key t c.args.mark.now.key c.at.result.now c.at.ensures.within c.at.ensures.value c.into_iter-entry-iterator.result (cc) c.loop-entry.yielded c.loop-entry.entry-iterator c.loop-entry.yielded_by _ _ c.in-None.is c.next.ensures.steps in
    λ j.
    next_end c.args.place c.args.mark.now.writes (wake t c.args.place) (queue_at t c.args.mark.now.key) (length c.loop-entry.yielded) (omega arith) j (is_in j (vec_items c.loop-entry.woken.items))
    ∙ c.loop-entry.invariant j
