-- Tasks, and lists of them.
--   place_of, same_task    the place of a task; whether two tasks are one
--   has, distinct          a list has a task; it has none twice
--   live s t               the task has not been done: what it would note is not noted, or what it would write not written
--   may_do s t             the ledger's house may do it now
--   task_at, tasks_at      what may be done now for the order at a place, or at some places
--   places                 the places of some tasks
-- Assumes nothing.
use Rattle.std.specs.Prelude.{ℕ, Bool, true, false, cond, not, ◌&&◌, ◌||◌, List, [], ◌∷◌, map, Some, None, Option, ◌==◌}
use Rattle.turns.specs.State.{done_of}
use Rattle.ledger.specs.State.{looked_at, may_look, may_write}
use Rattle.ledger.specs.declared.ledger.Ledger.{Ledger}
use Rattle.shard.specs.declared.task.Task.{Task}
use Rattle.shard.specs.declared.task.Task.TheVariants.{Look, Write}

abbrev pub place_of : Task → ℕ
place_of (Look i) = i
place_of (Write i) = i

abbrev pub same_task : Task → Task → Bool
same_task (Look i) (Look j) = i == j
same_task (Look i) (Write j) = false
same_task (Write i) (Look j) = false
same_task (Write i) (Write j) = i == j

abbrev pub has : Task → List Task → Bool
has t [] = false
has t (u ∷ us) = same_task t u || has t us

abbrev pub distinct : List Task → Bool
distinct [] = true
distinct (t ∷ ts) = not (has t ts) && distinct ts

abbrev pub live : Ledger → Task → Bool
live s (Look i) = not (looked_at s i)
live s (Write i) = not (done_of s.turns i)

abbrev pub may_do : Ledger → Task → Bool
may_do s (Look i) = may_look s i
may_do s (Write i) = may_write s i

abbrev pub task_at : Ledger → ℕ → Option Task
task_at s i = cond (may_look s i) (Some (Look i)) (cond (may_write s i) (Some (Write i)) None)

abbrev pub listed : Option Task → List Task → List Task
listed None ts = ts
listed (Some t) ts = t ∷ ts

abbrev pub tasks_at : Ledger → List ℕ → List Task
tasks_at s [] = []
tasks_at s (i ∷ is) = listed (task_at s i) (tasks_at s is)

abbrev pub places : List Task → List ℕ
places ts = map place_of ts
