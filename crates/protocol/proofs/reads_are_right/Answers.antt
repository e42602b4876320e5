use Rattle.protocol.proofs.Whole.{promise}
use Rattle.protocol.proofs.reads_are_right.Goals as goal

pub returns : goal.returns
returns c os p first sound n reach = (promise os p first sound n reach).reads_right
