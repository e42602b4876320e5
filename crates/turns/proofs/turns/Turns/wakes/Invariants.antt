use Rattle.std.proofs.Common.{◌≡◌, ℕ, ◌&&◌, ◌||◌, drop, vec_items}
use Rattle.orders.specs.Transaction.{is_in}
use Rattle.turns.specs.Marks.{wakes}
use Rattle.turns.specs.Queues.{nexts}
use Rattle.turns.specs.State.{marks_of, done_of, count_of}
use Rattle.turns.proofs.turns.Turns.wakes.Given as goal

-- those woken and those that the marks left give are all
abbrev pub invariant-loop-mark : goal.invariant-loop-mark
invariant-loop-mark l =
    (j : ℕ) →
    ((nexts (marks_of l.self) (done_of l.self) (count_of l.self) l.place j (drop l.mark-index l.mark-items) && wakes (marks_of l.self) (done_of l.self) (count_of l.self) l.place j) || is_in j (vec_items l.woken.items))
    ≡ wakes (marks_of l.self) (done_of l.self) (count_of l.self) l.place j
