-- Memory at hand in the queues.
--   room_in q        for how many entries more a queue has room
--   room_at qs s     the same of the queue with number s
--   Roomy qs n ms    the queues of the marks ms have room for n entries more
--   Cramped qs ms    one of them has not room for an entry for each of ms
-- Assumes nothing.
use Rattle.std.specs.Prelude.{◌≡◌, ℕ, ◌-◌, ◌<◌, ◌≤◌, List, [], map, length, slice_index}
use Rattle.std.specs.VecDeque.{deque_len, deque_capacity}
use Rattle.std.specs.List.{ContainsAt as Has, AllByRecursion}
use Rattle.turns.specs.Entries.{entries_in}
use Rattle.turns.specs.Marks.{slot}
use Rattle.turns.specs.declared.entry.Mark.{Mark}
use Rattle.turns.specs.declared.queue.Queue.{Queue}

abbrev pub room_in : Queue → ℕ
room_in q = deque_capacity q.entries - deque_len q.entries

abbrev pub room_at : List Queue → ℕ → ℕ
room_at qs s = slice_index (map room_in qs) s

abbrev pub Roomy : List Queue → ℕ → List Mark → Type 0
Roomy qs n ms = AllByRecursion (λ (m : Mark). n ≤ room_at qs (slot m.key)) ms

abbrev pub Cramped : List Queue → List Mark → Type 0
Cramped qs ms = (m : Mark) × Has ms m × (room_at qs (slot m.key) < length ms)

-- queues without an entry
abbrev pub Empty : List Queue → Type 0
Empty qs = AllByRecursion (λ (q : Queue). entries_in q ≡ []) qs
