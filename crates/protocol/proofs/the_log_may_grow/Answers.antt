use Rattle.protocol.proofs.Growth.{longer}
use Rattle.protocol.proofs.the_log_may_grow.Goals as goal

pub returns-clause-longer : goal.returns-clause-longer
returns-clause-longer c = longer
