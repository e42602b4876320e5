use Rattle.std.proofs.Common.{refl, arith}
use Rattle.turns.specs.Queues.{without_from}
use Rattle.turns.proofs.queue.Queue.remove_behind.Goals as goal

pub loop-at-init : goal.loop-at-init
unfolding without_from
loop-at-init c = record { within = omega arith; left = refl }
