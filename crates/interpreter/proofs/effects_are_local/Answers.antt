use Rattle.interpreter.proofs.Effect as effect
use Rattle.interpreter.proofs.Zeros.{zeros_given}
use Rattle.interpreter.proofs.effects_are_local.Goals as goal

pub returns : goal.returns
returns c = record { only_reads = effect.only_reads; only_writes = effect.only_writes; zeros = zeros_given }
