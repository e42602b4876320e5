use Rattle.std.proofs.Common.{sym}
use Rattle.rows.proofs.Block.{no_row, row_is}
use Rattle.rows.proofs.table.Rows.row.Goals as goal

pub returns-in_default : goal.returns-in_default
returns-in_default g c = sym (no_row c.args.self.now c.args.index c.in_default.ensures.none)

pub returns : goal.returns
returns g c =
    let b = c.in-Some.ensures.is in
    let is = row_is c.args.self.now b.0 b.1 b.2 in
    cc
