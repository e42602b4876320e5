-- What a queue of the code holds. Assumes nothing.
use Rattle.std.specs.Prelude.{List}
use Rattle.std.specs.VecDeque.{deque_items}
use Rattle.turns.specs.declared.entry.Entry.{Entry}
use Rattle.turns.specs.declared.queue.Queue.{Queue}

abbrev pub entries_in : Queue → List Entry
entries_in q = deque_items q.entries
