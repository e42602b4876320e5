use Rattle.rows.specs.Lists.{rows_of}
use Rattle.ledger.specs.Notes.{values_of}
use Rattle.ledger.specs.Own.{slot_in}
use Rattle.ledger.proofs.Noting.{NotedUpto}
use Rattle.ledger.proofs.ledger.look.take_note.Given as goal

abbrev pub invariant-loop-i : goal.invariant-loop-i
invariant-loop-i l = NotedUpto l.owner.number (λ k. slot_in l.values.own.items k) l.key-items (rows_of l.initial.slots) l.index l.i (values_of l.note) (rows_of l.slots)
