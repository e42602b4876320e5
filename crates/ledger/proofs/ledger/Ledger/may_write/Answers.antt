use Rattle.std.proofs.Common.{rules}
use Rattle.ledger.proofs.Asking.{write_by}
use Rattle.ledger.proofs.ledger.Ledger.may_write.Goals as goal

pub returns-then-is_ready-clause-exact : goal.returns-then-is_ready-clause-exact
returns-then-is_ready-clause-exact c = write_by c.args.self.now c.args.place _ (search rules)

pub returns-else-is_ready-clause-exact : goal.returns-else-is_ready-clause-exact
returns-else-is_ready-clause-exact c = write_by c.args.self.now c.args.place _ (search rules)
