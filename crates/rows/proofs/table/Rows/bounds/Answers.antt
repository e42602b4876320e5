use Rattle.std.proofs.Common.{get_or, ap, ◌∙◌, arith}
use Rattle.rows.proofs.Block.{row_bounds}
use Rattle.rows.proofs.table.Rows.bounds.Goals as goal

pub returns-clause-within : goal.returns-clause-within
returns-clause-within g c =
    let there = c.in_ok-end.ensures.lookup.3 in
    row_bounds c.args.self.now {i = c.args.index} (omega (arith, there.0)) c.start.ensures (there.1 0 ∙ ap (λ ends. get_or ends c.args.index 0) c.deref.ensures.value)
