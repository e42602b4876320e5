use Rattle.std.proofs.Common.{◌<◌, length, sym, ap, ◌∙◌}
use Rattle.rows.specs.Lists.{rows_of}
use Rattle.ledger.specs.Notes.{values_of}
use Rattle.ledger.specs.Own.{slot_in}
use Rattle.ledger.proofs.Noting.{noted_own, noted_other, noted_few}
use Rattle.ledger.proofs.ledger.look.take_note.Goals as goal
use Rattle.ledger.proofs.ledger.look.take_note.Goals.{then-owns, else-owns}

pub loop-i-preserved : goal.loop-i-preserved
loop-i-preserved c =
    elim c.if-owns.branch [
      | then-owns w ↦
          let few : length (values_of c.loop-i.note) < 16 =
          noted_few c.args.owner.number (λ k. slot_in c.args.values.now.own.items k) c.as_slice-key-items.result.now (rows_of c.args.slots.now) c.args.index
          c.loop-i.i (values_of c.loop-i.note) (rows_of c.loop-i.slots) c.loop-i-test.true c.as_slice-key-items.ensures.few c.loop-i.invariant in
          noted_own c.args.owner.number (λ k. slot_in c.args.values.now.own.items k) c.as_slice-key-items.result.now (rows_of c.args.slots.now) c.args.index
          c.loop-i.i w.get-value.result (values_of c.loop-i.note) (values_of c.if-owns.note) (rows_of c.loop-i.slots) (rows_of c.if-owns.slots)
          c.loop-i-test.true (sym w.if-owns.ensures) w.get-value.ensures (ap values_of w.note-is ∙ w.push.ensures few) (ap (λ r. rows_of r) w.slots-is ∙ w.set.ensures) c.loop-i.invariant
      | else-owns w ↦
          noted_other c.args.owner.number (λ k. slot_in c.args.values.now.own.items k) c.as_slice-key-items.result.now (rows_of c.args.slots.now) c.args.index
          c.loop-i.i (values_of c.loop-i.note) (values_of c.if-owns.note) (rows_of c.loop-i.slots) (rows_of c.if-owns.slots)
          c.loop-i-test.true (sym w.if-owns.ensures) (ap values_of w.note-is) (ap (λ r. rows_of r) w.slots-is) c.loop-i.invariant
    ]
