use Rattle.std.proofs.Common.{◌≡◌, ◌+◌, false, [], ◌∷◌, ◌++◌, length, vec_items, vec_len, sym, refl, ap, ◌∙◌, subst, inl, inr, arith}
use Rattle.std.proofs.lemmas.Bool.{eqb-true, eqb-false}
use Rattle.std.proofs.lemmas.Result.{err_from_is_err_and}
use Rattle.orders.specs.Contents.{contents_of}
use Rattle.orders.specs.Meaning.{transaction}
use Rattle.rows.specs.Lists.{rows_of, Room}
use Rattle.turns.specs.State.{count_of, Refuses}
use Rattle.ledger.specs.Own.{marks_for}
use Rattle.ledger.proofs.Growing.{keys_meant, marks_meant, row_pushed, refused_by_turns, More, Lists, Taken, none, none_long, more_from, lists_of, orders_longer, done_longer, slots_longer, looked_longer, matched_grown, wide_grown, seen_grown, filled_grown, read_grown, grown}
use Rattle.ledger.proofs.ledger.Ledger.append.Goals as goal
use Rattle.ledger.proofs.ledger.Ledger.append.Goals.{then-is_empty, else-is_empty}

pub returns-in_err-place : goal.returns-in_err-place
returns-in_err-place c =
    let p = err_from_is_err_and c.from_residual-in_err-place.result c.from_residual-in_err-place.ensures.1 in
    let s = c.args.self.now in
    let bs = c.args.bytes.now in
    let order = contents_of c.decode_into.new.self in
    let row = c.as_slice-marks.result.now in
    let meant : row ≡ marks_for s.owner.number (transaction bs) = marks_meant s.owner.number bs order row (keys_meant c.decode_into.result bs order c.decode_into.ensures.finds c.decode_into.ensures.idles) (c.as_slice-marks.ensures.is ∙ c.marks-marks.ensures) in
    let e = c.in_err-place.field-0.0 in
    rw (p.1, p.2) (
      record {
        same_number = refl;
        same_orders = c.reserve.ensures.same;
        same_turns = c.in_err-place.ensures.0;
        same_values = refl;
        same_slots = c.reserve-2.ensures.same;
        same_looked = c.reserve-3.ensures.items;
      },
      refused_by_turns e s bs (subst (Refuses e s.turns) meant c.in_err-place.ensures.1),
    )

pub invariant_of-self-2 : goal.invariant_of-self-2
invariant_of-self-2 c =
    let s = c.args.self.now in
    let bs = c.args.bytes.now in
    let order = contents_of c.decode_into.new.self in
    let n = length c.as_slice-marks.result.now in
    let w = c.if-is_empty.width in
    let row = c.as_slice-marks.result.now in
    let taken : Taken s bs row n w =
    record {
      order = order;
      keys = keys_meant c.decode_into.result bs order c.decode_into.ensures.finds c.decode_into.ensures.idles;
      row_is = (c.as_slice-marks.ensures.is ∙ c.marks-marks.ensures);
      row_long = refl;
      way = elim c.if-is_empty.branch [ then-is_empty v ↦ inl (eqb-true (length row) 0 (sym c.is_empty.ensures ∙ v.if-is_empty.true), v.width-is) | else-is_empty v ↦ inr (eqb-false (length row) 0 (sym c.is_empty.ensures ∙ v.if-is_empty.false), v.width-is ∙ ap length (v.as_slice.ensures.is ∙ v.read_set.ensures)) ];
      few = elim c.if-is_empty.branch [ then-is_empty v ↦ omega (arith, v.width-is) | else-is_empty v ↦ omega (arith, v.width-is, v.as_slice.ensures.few) ];
    }
    in
    let b : Lists = record { orders = rows_of c.push.new.self; marks = rows_of c.append.new.self.marks; done = vec_items c.append.new.self.done; slots = rows_of c.push-2.new.self; looked = vec_items c.push_reserved.new.self } in
    let more : More s.owner.number bs (count_of s.turns) (lists_of s) b =
    more_from s bs row n w taken b
    (row_pushed c.push.result (rows_of s.orders) (rows_of c.reserve.new.self) b.orders bs (c.push.ensures.succeeds c.in_ok-reserve.ensures.room) c.push.ensures.pushed c.reserve.ensures.same)
    c.in_ok-place.ensures.1 c.in_ok-place.ensures.2
    (row_pushed c.push-2.result (rows_of s.slots) (rows_of c.reserve-2.new.self) b.slots (none w)
    (c.push-2.ensures.succeeds (subst (Room c.reserve-2.new.self) (sym (none_long s bs row n w taken)) c.in_ok-reserve-2.ensures.room)) c.push-2.ensures.pushed c.reserve-2.ensures.same)
    (c.push_reserved.ensures.items ∙ ap (λ l. l ++ false ∷ []) c.reserve-3.ensures.items)
    in
    let n' : count_of c.append.new.self ≡ count_of s.turns + 1 = c.append.new.self.done.ok.0 ∙ done_longer s bs b more in
    let noted : vec_len c.push_reserved.new.self ≡ count_of s.turns + 1 = c.push_reserved.new.self.ok.0 ∙ looked_longer s bs b more in
    let h = s.owner.number in
    let o = lists_of s in
    record {
      ordered = orders_longer s bs b more ∙ sym n';
      slotted = slots_longer s bs b more ∙ sym n';
      noted = noted ∙ sym n';
      matched = matched_grown h bs (count_of s.turns) o b more s.matched;
      wide = wide_grown h bs (count_of s.turns) o b more s.wide;
      filled = filled_grown h bs (count_of s.turns) o b more s.filled;
      seen = seen_grown h bs (count_of s.turns) o b more s.seen;
      read = read_grown h bs (count_of s.turns) o b more (vec_len s.looked) (vec_len c.push_reserved.new.self) s.noted noted s.read;
    }

pub returns : goal.returns
returns c =
    let s = c.args.self.now in
    let bs = c.args.bytes.now in
    let order = contents_of c.decode_into.new.self in
    let n = length c.as_slice-marks.result.now in
    let w = c.if-is_empty.width in
    let row = c.as_slice-marks.result.now in
    let taken : Taken s bs row n w =
    record {
      order = order;
      keys = keys_meant c.decode_into.result bs order c.decode_into.ensures.finds c.decode_into.ensures.idles;
      row_is = (c.as_slice-marks.ensures.is ∙ c.marks-marks.ensures);
      row_long = refl;
      way = elim c.if-is_empty.branch [ then-is_empty v ↦ inl (eqb-true (length row) 0 (sym c.is_empty.ensures ∙ v.if-is_empty.true), v.width-is) | else-is_empty v ↦ inr (eqb-false (length row) 0 (sym c.is_empty.ensures ∙ v.if-is_empty.false), v.width-is ∙ ap length (v.as_slice.ensures.is ∙ v.read_set.ensures)) ];
      few = elim c.if-is_empty.branch [ then-is_empty v ↦ omega (arith, v.width-is) | else-is_empty v ↦ omega (arith, v.width-is, v.as_slice.ensures.few) ];
    }
    in
    let b : Lists = record { orders = rows_of c.push.new.self; marks = rows_of c.append.new.self.marks; done = vec_items c.append.new.self.done; slots = rows_of c.push-2.new.self; looked = vec_items c.push_reserved.new.self } in
    let more : More s.owner.number bs (count_of s.turns) (lists_of s) b =
    more_from s bs row n w taken b
    (row_pushed c.push.result (rows_of s.orders) (rows_of c.reserve.new.self) b.orders bs (c.push.ensures.succeeds c.in_ok-reserve.ensures.room) c.push.ensures.pushed c.reserve.ensures.same)
    c.in_ok-place.ensures.1 c.in_ok-place.ensures.2
    (row_pushed c.push-2.result (rows_of s.slots) (rows_of c.reserve-2.new.self) b.slots (none w)
    (c.push-2.ensures.succeeds (subst (Room c.reserve-2.new.self) (sym (none_long s bs row n w taken)) c.in_ok-reserve-2.ensures.room)) c.push-2.ensures.pushed c.reserve-2.ensures.same)
    (c.push_reserved.ensures.items ∙ ap (λ l. l ++ false ∷ []) c.reserve-3.ensures.items)
    in
    (c.in_ok-place.ensures.0, grown s _ bs more refl refl)
