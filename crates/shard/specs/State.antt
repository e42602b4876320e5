-- What the calls of a house do.
--   ready_of             the tasks that may be done now, in the order in which they came to be so
--   Becomes              the ready list after a step: those that still may be done, in their order, then those that newly may, by place rising
--   Unmoved, Extends     nothing differs; tasks were listed behind the others
--   Cramped              there is no memory at hand to list a task
--   RefusesStep, RefusesOrder, RefusesWord    what holds where a look or write, an order, or what is told is refused
--   Does t n             a task is done; n: what was noted, or what the order came to
--   Took, Next           the first task is taken off the list, and done unless it was done before
--   Goes n               of what was ready the first n are done
--   Ran ts               tasks are done one after the other
-- Assumes nothing.
use Rattle.std.specs.Prelude.{◌≡◌, ℕ, ◌+◌, ◌<◌, Bool, true, false, not, ◌&&◌, ◌⊎◌, List, [], ◌∷◌, ◌++◌, length, take, Some, None, vec_items, filter}
use Rattle.std.specs.VecDeque.{deque_items, deque_len, deque_capacity}
use Rattle.orders.specs.Valid.{rising}
use Rattle.orders.specs.declared.outcome.Outcome.{Outcome}
use Rattle.turns.specs.State.{count_of, Waking}
use Rattle.ledger.specs.State as ledger
use Rattle.ledger.specs.State.{Looked, Wrote}
use Rattle.ledger.specs.declared.ledger.Ledger.{Ledger}
use Rattle.ledger.specs.declared.refusal.Refusal.{Refusal}
use Rattle.ledger.specs.declared.refusal.Refusal.TheVariants.{Mismatch, Beyond, Known, NotYet, Full, Memory}
use Rattle.shard.specs.Tasks.{place_of, same_task, has, live, may_do, places}
use Rattle.shard.specs.declared.house.House.{House}
use Rattle.shard.specs.declared.house.Went.{Went}
use Rattle.shard.specs.declared.task.Task.{Task}
use Rattle.shard.specs.declared.task.Task.TheVariants.{Look, Write}

abbrev pub ready_of : House → List Task
ready_of h = filter (live h.ledger) (deque_items h.tasks)

-- s, ts and s', ts': the ledger and the ready list before and after
pub record Becomes (s : Ledger) (ts : List Task) (s' : Ledger) (ts' : List Task) : Type 0 where
  pub fresh : List Task
  pub list_is : ts' ≡ filter (may_do s') ts ++ fresh
  pub fresh_are : (t : Task) → has t fresh ≡ (may_do s' t && not (may_do s t))
  pub rises : rising 0 (places fresh) ≡ true
  pub stays : (t : Task) → may_do s t ≡ true → live s' t ≡ true → may_do s' t ≡ true

-- nothing that a house is asked for differs
pub record Unmoved (h h' : House) : Type 0 where
  pub same_ledger : h'.ledger ≡ h.ledger
  pub same_list : deque_items h'.tasks ≡ deque_items h.tasks

-- tasks were listed behind the others
abbrev pub Extends : House → House → Type 0
Extends h h' = (ts : List Task) × (deque_items h'.tasks ≡ deque_items h.tasks ++ ts)

-- more memory is needed to list tasks than is at hand
abbrev pub Cramped : House → Type 0
Cramped h = deque_capacity h.tasks < deque_len h.tasks + 1

-- a look or a write at i, which may or may not be done, is refused by e
abbrev pub RefusesStep : Refusal → Bool → House → ℕ → Type 0
RefusesStep Mismatch may h i = ⊥
RefusesStep Beyond may h i = ⊥
RefusesStep Known may h i = ⊥
RefusesStep NotYet may h i = may ≡ false
RefusesStep Full may h i = ⊥
RefusesStep Memory may h i = (may ≡ true) × (Waking h.ledger.turns i ⊎ Cramped h)

abbrev pub RefusesOrder : Refusal → House → List ℕ → Type 0
RefusesOrder e h bs = ledger.RefusesOrder e h.ledger bs ⊎ ((e ≡ Memory) × (count_of h.ledger.turns < 4294967295) × Cramped h)

abbrev pub RefusesWord : Refusal → House → (g i n : ℕ) → Type 0
RefusesWord e h g i n = ledger.RefusesTold e h.ledger g i n ⊎ ((e ≡ Memory) × Cramped h)

abbrev pub Part : Task → Ledger → Ledger → Type 0
Part (Look i) s s' = (vs : List ℕ) × Looked s s' i vs
Part (Write i) s s' = (o : Outcome) × Wrote s s' i o

-- of what might be done before, just the task is done
abbrev pub Ends : Task → Ledger → Ledger → Type 0
Ends t s s' = (u : Task) → may_do s u ≡ true → live s' u ≡ not (same_task u t)

pub record Does (t : Task) (s : Ledger) (ts : List Task) (s' : Ledger) (ts' : List Task) : Type 0 where
  pub part : Part t s s'
  pub becomes : Becomes s ts s' ts'
  pub ends : Ends t s s'

abbrev pub RefusesTask : Refusal → Task → House → Type 0
RefusesTask e t h = RefusesStep e (may_do h.ledger t) h (place_of t)

-- the first task was taken off the list: done now, or done before
pub record Took (h h' : House) (ds ds' : List Task) (t : Task) (ts : List Task) : Type 0 where
  pub first : deque_items h.tasks ≡ t ∷ ts
  pub rest : (us : List Task) × (deque_items h'.tasks ≡ ts ++ us)
  pub stale : live h.ledger t ≡ false → (h'.ledger ≡ h.ledger) × (deque_items h'.tasks ≡ ts) × (ds' ≡ ds)
  pub fresh : live h.ledger t ≡ true → Does t h.ledger (ready_of h) h'.ledger (ready_of h') × (ds' ≡ ds ++ t ∷ [])

abbrev pub Next : House → House → List Task → List Task → Type 0
Next h h' ds ds' = ((deque_items h.tasks ≡ []) × Unmoved h h' × (ds' ≡ ds)) ⊎ ((t : Task) × (ts : List Task) × Took h h' ds ds' t ts)

-- the last one last
pub data Ran : List Task → Ledger → List Task → Ledger → List Task → Type 0 where
  none : (s : Ledger) (ts : List Task) → Ran [] s ts s ts
  more : (us : List Task) (t : Task) (s : Ledger) (ts : List Task) (m : Ledger) (ms : List Task) (s' : Ledger) (ts' : List Task) →
      Ran us s ts m ms → Does t m ms s' ts' → Ran (us ++ t ∷ []) s ts s' ts'

-- of what was ready the first so many, unless memory was wanting on the way
pub record Goes (n : ℕ) (h h' : House) (w : Went) : Type 0 where
  pub ran : Ran (vec_items w.done) h.ledger (ready_of h) h'.ledger (ready_of h')
  pub first : vec_items w.done ≡ take (length (vec_items w.done)) (take n (ready_of h))
  pub all : w.refusal ≡ None → vec_items w.done ≡ take n (ready_of h)
  pub stopped : (e : Refusal) → w.refusal ≡ Some e → e ≡ Memory
