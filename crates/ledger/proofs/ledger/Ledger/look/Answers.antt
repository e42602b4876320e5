use Rattle.std.proofs.Common.{◌≡◌, true, [], length, get_or, vec_items, sym, refl, ap, ◌∙◌}
use Rattle.std.proofs.lemmas.List.{length-set}
use Rattle.orders.specs.Contents.{keys_of}
use Rattle.rows.specs.Lists.{rows_of}
use Rattle.ledger.specs.Notes.{values_of}
use Rattle.ledger.specs.State.{may_look}
use Rattle.ledger.proofs.Noting.{same_count, reads_in, looked_and_writes, looked_only, row_is, note_is, wide_again, filled_again, matched_again, seen_again, read_again, looked_from}
use Rattle.ledger.proofs.ledger.Ledger.look.Goals as goal

pub invariant_of-self : goal.invariant_of-self
invariant_of-self c =
    let may : may_look c.args.self.now c.args.place ≡ true = sym c.if-not-may_look.ensures.is in
    let keys = c.read_set.ensures ∙ ap (λ x. x.reads) c.order-order.ensures ∙ reads_in (get_or (rows_of c.args.self.now.orders) c.args.place []) in
    let rows = row_is c.args.self.now c.args.place may (keys_of c.read_set.result.now) (vec_items c.args.self.now.values.own) keys refl (rows_of c.take_note-note.new.slots) c.take_note-note.ensures.slots in
    let done = looked_only c.args.self.now c.args.place c.if-not-writes.ensures (vec_items c.finish.new.self.done) c.finish.ensures.done in
    let same = sym (same_count c.args.self.now.turns c.finish.new.self c.finish.ensures.marks) in
    record {
      ordered = c.args.self.now.ordered ∙ same;
      slotted = ap (λ l. length l) rows ∙ length-set (rows_of c.args.self.now.slots) c.args.place _ ∙ c.args.self.now.slotted ∙ same;
      noted = c.args.self.now.noted ∙ same;
      matched = matched_again c.args.self.now c.args.place may c.finish.new.self c.finish.ensures.marks done;
      wide = wide_again c.args.self.now c.args.place may (rows_of c.take_note-note.new.slots) rows;
      filled = filled_again c.args.self.now c.args.place may (rows_of c.take_note-note.new.slots) rows;
      seen = seen_again c.args.self.now c.args.place may c.finish.new.self c.finish.ensures.marks done;
      read = read_again c.args.self.now c.args.place may c.finish.new.self c.finish.ensures.marks done;
    }

pub invariant_of-self-else-not-writes : goal.invariant_of-self-else-not-writes
invariant_of-self-else-not-writes c =
    let may : may_look c.args.self.now c.args.place ≡ true = sym c.if-not-may_look.ensures.is in
    let keys = c.read_set.ensures ∙ ap (λ x. x.reads) c.order-order.ensures ∙ reads_in (get_or (rows_of c.args.self.now.orders) c.args.place []) in
    let rows = row_is c.args.self.now c.args.place may (keys_of c.read_set.result.now) (vec_items c.args.self.now.values.own) keys refl (rows_of c.take_note-note.new.slots) c.take_note-note.ensures.slots in
    let done = looked_and_writes c.args.self.now c.args.place c.if-not-writes.ensures in
    record {
      ordered = c.args.self.now.ordered;
      slotted = ap (λ l. length l) rows ∙ length-set (rows_of c.args.self.now.slots) c.args.place _ ∙ c.args.self.now.slotted;
      noted = c.args.self.now.noted;
      matched = c.args.self.now.matched;
      wide = wide_again c.args.self.now c.args.place may (rows_of c.take_note-note.new.slots) rows;
      filled = filled_again c.args.self.now c.args.place may (rows_of c.take_note-note.new.slots) rows;
      seen = seen_again c.args.self.now c.args.place may c.args.self.now.turns refl done;
      read = read_again c.args.self.now c.args.place may c.args.self.now.turns refl done;
    }

pub returns-then-not-writes : goal.returns-then-not-writes
returns-then-not-writes c =
    let may : may_look c.args.self.now c.args.place ≡ true = sym c.if-not-may_look.ensures.is in
    let keys = c.read_set.ensures ∙ ap (λ x. x.reads) c.order-order.ensures ∙ reads_in (get_or (rows_of c.args.self.now.orders) c.args.place []) in
    let rows = row_is c.args.self.now c.args.place may (keys_of c.read_set.result.now) (vec_items c.args.self.now.values.own) keys refl (rows_of c.take_note-note.new.slots) c.take_note-note.ensures.slots in
    let done = looked_only c.args.self.now c.args.place c.if-not-writes.ensures (vec_items c.finish.new.self.done) c.finish.ensures.done in
    looked_from c.args.self.now c.args.place may _ refl refl c.finish.ensures.marks done rows refl refl (values_of c.take_note-note.result)
    (note_is c.args.self.now c.args.place may (keys_of c.read_set.result.now) (vec_items c.args.self.now.values.own) keys refl (values_of c.take_note-note.result) c.take_note-note.ensures.noted)

pub returns-else-not-writes : goal.returns-else-not-writes
returns-else-not-writes c =
    let may : may_look c.args.self.now c.args.place ≡ true = sym c.if-not-may_look.ensures.is in
    let keys = c.read_set.ensures ∙ ap (λ x. x.reads) c.order-order.ensures ∙ reads_in (get_or (rows_of c.args.self.now.orders) c.args.place []) in
    let rows = row_is c.args.self.now c.args.place may (keys_of c.read_set.result.now) (vec_items c.args.self.now.values.own) keys refl (rows_of c.take_note-note.new.slots) c.take_note-note.ensures.slots in
    let done = looked_and_writes c.args.self.now c.args.place c.if-not-writes.ensures in
    looked_from c.args.self.now c.args.place may _ refl refl refl done rows refl refl (values_of c.take_note-note.result)
    (note_is c.args.self.now c.args.place may (keys_of c.read_set.result.now) (vec_items c.args.self.now.values.own) keys refl (values_of c.take_note-note.result) c.take_note-note.ensures.noted)
