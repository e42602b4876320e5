-- The numbers by which the log turns an order away, and when.
--   number_of                         of an error, if the format gives it one
--   Refuses e length orders wanting   what holds where the log answers e: for an order of so many bytes, with so many orders in the log;
--                                     wanting: more memory was needed than was at hand. The lowest number wins
-- Assumes nothing.
use Rattle.std.specs.Prelude.{ℕ, ◌<◌, ◌≤◌, Some, None, Option}
use Rattle.line.specs.declared.log.error.LogError.{LogError}
use Rattle.line.specs.declared.log.error.LogError.TheVariants.{Oversize, Full, Memory}

abbrev pub number_of : LogError → Option ℕ
number_of Oversize = Some 1
number_of Full = Some 7
number_of Memory = None

abbrev pub Refuses : LogError → (length orders : ℕ) → (wanting : Type 0) → Type 0
Refuses Oversize length orders wanting = 65535 < length
Refuses Full length orders wanting = (length ≤ 65535) × (4294967295 ≤ orders)
Refuses Memory length orders wanting = (length ≤ 65535) × (orders < 4294967295) × wanting
