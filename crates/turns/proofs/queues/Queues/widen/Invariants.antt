use Rattle.std.proofs.Common.{◌≡◌, ℕ, ◌≤◌, map, length, take, vec_items}
use Rattle.turns.specs.Entries.{entries_in}
use Rattle.turns.specs.Rooms.{room_at, Roomy}
use Rattle.turns.proofs.queues.Queues.widen.Given as goal

-- the queues of the marks that were passed have room, and no queue has less than it had
abbrev pub invariant-loop-mark : goal.invariant-loop-mark
invariant-loop-mark l = record {
  same : map entries_in (vec_items l.self.by_key) ≡ map entries_in (vec_items l.initial.self.by_key);
  room : Roomy (vec_items l.self.by_key) (length l.marks) (take l.mark-index l.marks);
  grew : (s : ℕ) → room_at (vec_items l.initial.self.by_key) s ≤ room_at (vec_items l.self.by_key) s;
}
