use Rattle.protocol.proofs.Promises.{base_sound}
use Rattle.protocol.proofs.the_base_is_sound.Goals as goal

pub returns : goal.returns
returns c = base_sound
