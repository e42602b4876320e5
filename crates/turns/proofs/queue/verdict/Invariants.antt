use Rattle.std.proofs.Common.{◌≡◌, List, ◌++◌, length}
use Rattle.turns.specs.Queues.{clear_in}
use Rattle.turns.specs.declared.entry.Entry.{Entry}
use Rattle.turns.proofs.queue.verdict.Given as goal

-- what is left says the same as all
abbrev pub invariant-loop-at : goal.invariant-loop-at
invariant-loop-at l = (more : List Entry) → clear_in l.place l.but l.writes (l.rest ++ more) ≡ clear_in l.place l.but l.writes (l.entries ++ more)

abbrev pub decreases-loop-at : goal.decreases-loop-at
decreases-loop-at l = length l.rest
