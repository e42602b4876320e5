use Rattle.std.proofs.Common.{◌≡◌, false, length, get_or, vec_items, sym, ap, ◌∙◌, arith}
use Rattle.std.proofs.lemmas.Bool.{both_ways}
use Rattle.rows.specs.Lists.{rows_of}
use Rattle.turns.specs.State.{count_of}
use Rattle.ledger.proofs.Beginning.{matched_at_first, wide_at_first, seen_at_first, fresh_at_first, fresh_by}
use Rattle.ledger.proofs.Owning.{owner_is}
use Rattle.ledger.proofs.ledger.Ledger.new.Goals as goal

pub invariant_of-result : goal.invariant_of-result
invariant_of-result c =
    let os = rows_of c.new-4.result in
    let ms = rows_of c.in_ok-turns.turns.marks in
    let ss = rows_of c.new-5.result in
    let ds = vec_items c.in_ok-turns.turns.done in
    let ls = vec_items c.new-6.result in
    let marks_are = c.in_ok-turns.ensures.marks in
    let done_is = c.in_ok-turns.ensures.done in
    let none : count_of c.in_ok-turns.turns ≡ 0 = c.in_ok-turns.turns.done.ok.0 ∙ ap length done_is in
    let h = c.in_ok-owner.owner.number in
    record {
      ordered = ap length c.new-4.ensures ∙ sym none;
      slotted = ap length c.new-5.ensures ∙ sym none;
      noted = c.new-6.ensures.len ∙ sym none;
      matched = matched_at_first h os ms ss ds ls c.new-4.ensures marks_are c.new-5.ensures done_is c.new-6.ensures.items;
      wide = wide_at_first h os ms ss ds ls c.new-4.ensures marks_are c.new-5.ensures done_is c.new-6.ensures.items;
      filled = λ i e. absurd (both_ways (get_or ls i false) (ap (λ l. get_or l i false) c.new-6.ensures.items) e);
      seen = seen_at_first h os ms ss ds ls c.new-4.ensures marks_are c.new-5.ensures done_is c.new-6.ensures.items;
      read = λ i lt _. absurd (omega (arith, c.new-6.ensures.len));
    }

pub returns : goal.returns
returns c =
    fresh_by _ c.in_ok-owner.owner.number c.args.number (owner_is c.in_ok-owner.owner c.new.result c.args.number c.in_ok-owner.ensures.ok_part c.new.ensures) (fresh_at_first _ c.new-4.ensures c.in_ok-turns.ensures.marks c.new-5.ensures c.in_ok-turns.ensures.done c.new-6.ensures.items 4096 c.in_ok-values.ensures)
