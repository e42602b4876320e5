use Rattle.std.proofs.Common.{[], get_or, set, sym}
use Rattle.rows.specs.Lists.{rows_of}
use Rattle.rows.proofs.Block.{no_row_set, rows_set, rows_set_past}
use Rattle.rows.proofs.table.Rows.set.Goals as goal

pub returns-in_default : goal.returns-in_default
returns-in_default g c = sym (no_row_set c.args.self.now c.args.index (set (get_or (rows_of c.args.self.now) c.args.index []) c.args.at c.args.item) c.in_default.ensures.none)

pub returns-then-at-end : goal.returns-then-at-end
returns-then-at-end g c = let b = c.in-Some.ensures.is in rows_set c.args.self.now b.0 b.1 b.2 c.args.at c.args.item c.if-at-end.true

pub returns-else-at-end : goal.returns-else-at-end
returns-else-at-end g c = let b = c.in-Some.ensures.is in sym (rows_set_past c.args.self.now b.0 b.1 b.2 c.args.at c.args.item c.if-at-end.false)
