-- What the code of turns says of the orders.
--   marks_of, done_of, count_of    what the order at a place touches, whether it is done; how many orders there are
--   queue_at t k                   the queue of a key
--   Same                           neither the orders nor what is done differs
--   Wants t ms                     more memory is needed for an order with the marks ms than is at hand
--   Refuses e t ms                 what holds where an order with the marks ms is refused by e
--   Wakes t i js                   js are, rising, the places whose orders wait for the one at i and for no other
--   Waking t i                     there is such a place
-- Assumes nothing.
use Rattle.std.specs.Prelude.{◌≡◌, ℕ, ◌+◌, ◌<◌, ◌≤◌, Bool, true, false, ◌⊎◌, List, [], length, vec_items, vec_len, vec_capacity, slice_index_or}
use Rattle.orders.specs.Transaction.{is_in}
use Rattle.orders.specs.Valid.{rising}
use Rattle.rows.specs.Lists.{rows_of, Wanting}
use Rattle.turns.specs.Marks.{slot, wakes}
use Rattle.turns.specs.Queues.{queue}
use Rattle.turns.specs.Rooms.{Cramped}
use Rattle.turns.specs.declared.entry.Mark.{Mark}
use Rattle.turns.specs.declared.entry.Entry.{Entry}
use Rattle.turns.specs.declared.error.TurnsError.{TurnsError}
use Rattle.turns.specs.declared.error.TurnsError.TheVariants.{Full, Memory}
use Rattle.turns.specs.declared.turns.Turns.{Turns}

abbrev pub marks_of : Turns → ℕ → List Mark
marks_of t i = slice_index_or (rows_of t.marks) i []

abbrev pub done_of : Turns → ℕ → Bool
done_of t i = slice_index_or (vec_items t.done) i false

abbrev pub count_of : Turns → ℕ
count_of t = vec_len t.done

abbrev pub queue_at : Turns → ℕ → List Entry
queue_at t k = queue (marks_of t) (done_of t) (slot k) (count_of t)

abbrev pub Same : Turns → Turns → Type 0
Same t u = (rows_of u.marks ≡ rows_of t.marks) × (vec_items u.done ≡ vec_items t.done)

abbrev pub Wants : Turns → List Mark → Type 0
Wants t ms = Wanting t.marks (length ms) ⊎ ((vec_capacity t.done < vec_len t.done + 1) ⊎ Cramped (vec_items t.queues.by_key) ms)

abbrev pub Refuses : TurnsError → Turns → List Mark → Type 0
Refuses Full t ms = 4294967295 ≤ count_of t
Refuses Memory t ms = (count_of t < 4294967295) × Wants t ms

abbrev pub Waking : Turns → ℕ → Type 0
Waking t i = (j : ℕ) × (wakes (marks_of t) (done_of t) (count_of t) i j ≡ true)

pub record Wakes (t : Turns) (i : ℕ) (js : List ℕ) : Type 0 where
  pub rises : rising 0 js ≡ true
  pub are : (j : ℕ) → is_in j js ≡ wakes (marks_of t) (done_of t) (count_of t) i j
