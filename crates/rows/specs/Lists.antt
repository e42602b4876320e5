-- What rows hold, as a list of lists.
--   rows_of       the rows, the first one first
--   Room r n      there is memory at hand for one row more, of n items
--   Wanting r n   there is not
-- Assumes nothing.
use Rattle.std.specs.Prelude.{ℕ, ◌+◌, ◌<◌, ◌≤◌, ◌⊎◌, List, vec_items, vec_len, vec_capacity}
use Rattle.rows.specs.Ends.{parted}
use Rattle.rows.specs.declared.table.Rows.{Rows}

abbrev pub rows_of : {T : Type 0} → Rows T → List (List T)
rows_of r = parted 0 (vec_items r.ends) (vec_items r.items)

abbrev pub Room : {T : Type 0} → Rows T → ℕ → Type 0
Room r n = (vec_len r.ends < vec_capacity r.ends) × (vec_len r.items + n ≤ vec_capacity r.items)

abbrev pub Wanting : {T : Type 0} → Rows T → ℕ → Type 0
Wanting r n = (vec_capacity r.ends < vec_len r.ends + 1) ⊎ (vec_capacity r.items < vec_len r.items + n)
