use Rattle.std.proofs.Common.{◌≡◌, length}
use Rattle.turns.specs.Entries.{entries_in}
use Rattle.turns.specs.Queues.{without}
use Rattle.turns.proofs.queue.Queue.remove.Given as goal

-- what was taken out is nothing that is to stay
abbrev pub invariant-loop-entry : goal.invariant-loop-entry
invariant-loop-entry l = without l.place (entries_in l.self) ≡ without l.place (entries_in l.initial.self)

abbrev pub decreases-loop-entry : goal.decreases-loop-entry
decreases-loop-entry l = length (entries_in l.self)
