-- The numbers by which what comes in is turned away. Assumes nothing.
use Rattle.std.specs.Prelude.{ℕ}
use Rattle.orders.specs.declared.refusal.Refusal.{Refusal}
use Rattle.orders.specs.declared.refusal.Refusal.TheVariants.{Malformed}

abbrev pub number_of : Refusal → ℕ
number_of Malformed = 1
