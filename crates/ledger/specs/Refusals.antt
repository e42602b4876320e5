-- The numbers by which a house turns something away. Assumes nothing.
use Rattle.std.specs.Prelude.{ℕ, Some, None, Option}
use Rattle.turns.specs.declared.error.TurnsError.{TurnsError}
use Rattle.turns.specs.declared.error.TurnsError.TheVariants as turns
use Rattle.ledger.specs.declared.refusal.Refusal.{Refusal}
use Rattle.ledger.specs.declared.refusal.Refusal.TheVariants.{Mismatch, Beyond, Known, NotYet, Full, Memory}

abbrev pub number_of : Refusal → Option ℕ
number_of Mismatch = Some 2
number_of Beyond = Some 3
number_of Known = Some 4
number_of NotYet = Some 5
number_of Full = Some 7
number_of Memory = None

abbrev pub of_turns : TurnsError → Refusal
of_turns turns.Full = Full
of_turns turns.Memory = Memory
