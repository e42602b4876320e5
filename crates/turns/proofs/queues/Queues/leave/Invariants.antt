use Rattle.std.proofs.Common.{◌≡◌, map, drop, vec_items}
use Rattle.turns.specs.Entries.{entries_in}
use Rattle.turns.specs.Queues.{leave_all}
use Rattle.turns.proofs.queues.Queues.leave.Given as goal

-- with the marks that are left, the queues become what is wanted of them
abbrev pub invariant-loop-mark : goal.invariant-loop-mark
invariant-loop-mark l =
    leave_all l.place (drop l.mark-index l.marks) (map entries_in (vec_items l.self.by_key)) ≡ leave_all l.place l.marks (map entries_in (vec_items l.initial.self.by_key))
