-- What a note of the code holds. Assumes nothing.
use Rattle.std.specs.Prelude.{ℕ, List}
use Rattle.bounded.specs.Items.{items_of}
use Rattle.ledger.specs.declared.note.Note.{Note}

abbrev pub values_of : Note → List ℕ
values_of n = items_of n.values
