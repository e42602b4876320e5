use Rattle.line.proofs.Pieces.{executes_none}
use Rattle.line.proofs.serial.Execution.new.Goals as goal

pub returns : goal.returns
returns c = executes_none _ c.in_ok-progress.ensures c.new-2.ensures.items
