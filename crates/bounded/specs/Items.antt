-- The items of a list, in order. Assumes nothing.
use Rattle.std.specs.Prelude.{ℕ, List, take}
use Rattle.bounded.specs.declared.bounded.Bounded.{Bounded}

abbrev pub items_of : {T : Type 0} {N : ℕ} → Bounded T N → List T
items_of b = take b.len b.items
