use Rattle.protocol.proofs.Whole.{promise}
use Rattle.protocol.proofs.no_gap.Goals as goal

pub returns : goal.returns
returns c os p first sound n reach = (promise os p first sound n reach).no_gap
