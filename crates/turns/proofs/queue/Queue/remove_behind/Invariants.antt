use Rattle.std.proofs.Common.{◌≡◌, ◌≤◌, length}
use Rattle.turns.specs.Entries.{entries_in}
use Rattle.turns.specs.Queues.{without, without_from}
use Rattle.turns.proofs.queue.Queue.remove_behind.Given as goal

-- up to where it looked all is to stay
abbrev pub invariant-loop-at : goal.invariant-loop-at
invariant-loop-at l = record {
  within : l.from ≤ length (entries_in l.self);
  left : without_from l.place l.from (entries_in l.self) ≡ without l.place (entries_in l.initial.self);
}

abbrev pub decreases-loop-at : goal.decreases-loop-at
decreases-loop-at l = length (entries_in l.self)
