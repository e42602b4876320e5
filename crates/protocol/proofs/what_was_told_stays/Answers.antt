use Rattle.protocol.proofs.Whole.{promise}
use Rattle.protocol.proofs.what_was_told_stays.Goals as goal

pub returns : goal.returns
returns c os p first sound n reach = (promise os p first sound n reach).told_stays
