use Rattle.std.proofs.Common.{◌≡◌, ℕ, List, [], length, get_or, set, sym, refl, ap, ◌∙◌, arith}
use Rattle.std.proofs.lemmas.List.{length-set}
use Rattle.orders.specs.Contents.{contents_of, keys_of}
use Rattle.rows.specs.Lists.{rows_of}
use Rattle.ledger.specs.Own.{own_count, telling}
use Rattle.ledger.specs.State.{slots_at, Wanted}
use Rattle.ledger.proofs.Noting.{reads_in}
use Rattle.ledger.proofs.Telling.{needed_from, wide_after, filled_after, heard_from, heard_by}
use Rattle.ledger.proofs.Owning.{owner_is}
use Rattle.ledger.proofs.ledger.Ledger.hear.Goals as goal

pub invariant_of-self : goal.invariant_of-self
invariant_of-self c =
    let g = c.in_ok-teller.teller.number in
    let keys = λ (ks : List ℕ) (e : ks ≡ (contents_of c.order-order.result).reads).
    e ∙ ap (λ x. x.reads) c.order-order.ensures ∙ reads_in (get_or (rows_of c.args.self.now.orders) c.args.place []) in
    let counted = ap (own_count g) (keys (keys_of c.read_set.result.now) c.read_set.ensures) in
    let wanted : Wanted c.args.self.now g c.args.place (length c.args.values.now) =
    record { housed = c.in_ok-teller.teller.housed; within = omega arith; counted = omega (arith, c.count.ensures, c.if-count-values.false, counted) } in
    let needed = needed_from c.args.self.now g c.args.place c.args.values.now (keys_of c.read_set-2.result.now) c.row.result.now
    (λ e. c.if-from-number.false (sym (owner_is c.in_ok-teller.teller c.new.result c.args.from c.in_ok-teller.ensures.ok_part c.new.ensures) ∙ e ∙ sym c.number.ensures)) (sym c.if-not-touches.ensures) (sym c.if-is_empty.ensures) (sym c.if-has_told.ensures) (keys (keys_of c.read_set-2.result.now) c.read_set-2.ensures) c.row.ensures in
    let rows = c.keep.ensures
    ∙ ap (λ ks. set (rows_of c.args.self.now.slots) c.args.place (telling g ks c.args.values.now (slots_at c.args.self.now c.args.place)))
    (keys (keys_of c.read_set-3.result.now) c.read_set-3.ensures) in
    record {
      ordered = c.args.self.now.ordered;
      slotted = ap (λ l. length l) rows ∙ length-set (rows_of c.args.self.now.slots) c.args.place _ ∙ c.args.self.now.slotted;
      noted = c.args.self.now.noted;
      matched = c.args.self.now.matched;
      wide = wide_after c.args.self.now g c.args.place c.args.values.now wanted needed (rows_of c.keep.new.slots) rows;
      filled = filled_after c.args.self.now g c.args.place c.args.values.now wanted needed (rows_of c.keep.new.slots) rows;
      seen = c.args.self.now.seen;
      read = c.args.self.now.read;
    }

pub returns : goal.returns
returns c =
    let g = c.in_ok-teller.teller.number in
    let keys = λ (ks : List ℕ) (e : ks ≡ (contents_of c.order-order.result).reads).
    e ∙ ap (λ x. x.reads) c.order-order.ensures ∙ reads_in (get_or (rows_of c.args.self.now.orders) c.args.place []) in
    let counted = ap (own_count g) (keys (keys_of c.read_set.result.now) c.read_set.ensures) in
    let wanted : Wanted c.args.self.now g c.args.place (length c.args.values.now) =
    record { housed = c.in_ok-teller.teller.housed; within = omega arith; counted = omega (arith, c.count.ensures, c.if-count-values.false, counted) } in
    let needed = needed_from c.args.self.now g c.args.place c.args.values.now (keys_of c.read_set-2.result.now) c.row.result.now
    (λ e. c.if-from-number.false (sym (owner_is c.in_ok-teller.teller c.new.result c.args.from c.in_ok-teller.ensures.ok_part c.new.ensures) ∙ e ∙ sym c.number.ensures)) (sym c.if-not-touches.ensures) (sym c.if-is_empty.ensures) (sym c.if-has_told.ensures) (keys (keys_of c.read_set-2.result.now) c.read_set-2.ensures) c.row.ensures in
    let rows = c.keep.ensures
    ∙ ap (λ ks. set (rows_of c.args.self.now.slots) c.args.place (telling g ks c.args.values.now (slots_at c.args.self.now c.args.place)))
    (keys (keys_of c.read_set-3.result.now) c.read_set-3.ensures) in
    heard_by c.args.self.now _ g c.args.from c.args.place c.args.values.now (owner_is c.in_ok-teller.teller c.new.result c.args.from c.in_ok-teller.ensures.ok_part c.new.ensures) (heard_from c.args.self.now g c.args.place c.args.values.now wanted needed _ refl refl refl rows refl refl)
