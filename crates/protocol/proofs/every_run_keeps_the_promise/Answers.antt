use Rattle.protocol.proofs.Whole.{promise}
use Rattle.protocol.proofs.every_run_keeps_the_promise.Goals as goal

pub returns : goal.returns
returns c = promise
