use Rattle.std.proofs.Common.{rules}
use Rattle.ledger.proofs.Asking.{look_by}
use Rattle.ledger.proofs.ledger.Ledger.may_look.Goals as goal

pub returns-then-not-is_noted-clause-exact : goal.returns-then-not-is_noted-clause-exact
returns-then-not-is_noted-clause-exact c = look_by c.args.self.now c.args.place _ (search rules)

pub returns-else-not-is_noted-clause-exact : goal.returns-else-not-is_noted-clause-exact
returns-else-not-is_noted-clause-exact c = look_by c.args.self.now c.args.place _ (search rules)
