use Rattle.protocol.proofs.Whole.{promise}
use Rattle.protocol.proofs.nobody_waits_in_a_ring.Goals as goal

pub returns : goal.returns
returns c os p first sound n reach = (promise os p first sound n reach).no_ring
