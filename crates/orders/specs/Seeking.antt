-- Values beside the keys of a set, of which some were passed over.
--   value_in  the value that is still there beside a key, or another
-- Assumes nothing.
use Rattle.std.specs.Prelude.{ℕ, drop}
use Rattle.orders.specs.Transaction.{lookup}
use Rattle.orders.specs.declared.order.beside.Cursor.{Cursor}

abbrev pub value_in : Cursor → ℕ → ℕ → ℕ
value_in c k other = lookup (drop c.place c.keys.now) (drop c.place c.values.now) k other
