use Rattle.std.proofs.Common.{◌≡◌, ◌-◌, map, length, drop, vec_items}
use Rattle.turns.specs.Entries.{entries_in}
use Rattle.turns.specs.Queues.{enter_all}
use Rattle.turns.specs.Rooms.{Roomy}
use Rattle.turns.proofs.queues.Queues.enter.Given as goal

-- with the marks that are left, the queues become what is wanted of them, and there is room for those
abbrev pub invariant-loop-mark : goal.invariant-loop-mark
invariant-loop-mark l = record {
  entered : enter_all l.place (drop l.mark-index l.marks) (map entries_in (vec_items l.self.by_key)) ≡ enter_all l.place l.marks (map entries_in (vec_items l.initial.self.by_key));
  room : Roomy (vec_items l.self.by_key) (length l.marks - l.mark-index) l.marks;
}
