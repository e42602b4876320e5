use Rattle.std.proofs.Common.{◌≡◌, ℕ, ◌&&◌, ◌||◌, length, drop, vec_items}
use Rattle.orders.specs.Transaction.{is_in}
use Rattle.turns.specs.Marks.{wakes}
use Rattle.turns.specs.Queues.{next_in}
use Rattle.turns.specs.State.{marks_of, done_of, count_of, queue_at}
use Rattle.turns.proofs.turns.Turns.wake_behind.Given as goal

-- those woken and those that the entries left give are all
abbrev pub invariant-loop-entry : goal.invariant-loop-entry
invariant-loop-entry l =
    (j : ℕ) →
    ((is_in j (next_in l.place l.mark.writes (drop (length l.yielded) (queue_at l.self l.mark.key))) && wakes (marks_of l.self) (done_of l.self) (count_of l.self) l.place j) || is_in j (vec_items l.woken.items))
    ≡ ((is_in j (next_in l.place l.mark.writes (queue_at l.self l.mark.key)) && wakes (marks_of l.self) (done_of l.self) (count_of l.self) l.place j) || is_in j (vec_items l.initial.woken.items))
