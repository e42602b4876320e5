use Rattle.protocol.proofs.Whole.{promise}
use Rattle.protocol.proofs.never_stuck.Goals as goal

pub returns : goal.returns
returns c os p first sound n reach = (promise os p first sound n reach).never_stuck
