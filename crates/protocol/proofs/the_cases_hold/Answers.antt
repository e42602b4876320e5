use Rattle.protocol.proofs.Table.{table_holds}
use Rattle.protocol.proofs.the_cases_hold.Goals as goal

pub returns : goal.returns
returns c = table_holds
