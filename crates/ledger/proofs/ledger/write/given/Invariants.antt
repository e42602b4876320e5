use Rattle.std.proofs.Common.{◌≡◌, take}
use Rattle.ledger.specs.Notes.{values_of}
use Rattle.ledger.specs.Own.{given}
use Rattle.ledger.proofs.ledger.write.given.Given as goal

abbrev pub invariant-loop-slot : goal.invariant-loop-slot
invariant-loop-slot l = values_of l.read ≡ given (take l.slot-index l.slots)
