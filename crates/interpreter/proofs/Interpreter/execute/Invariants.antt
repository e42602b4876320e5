use Rattle.std.proofs.Common.{◌≡◌, true, length}
use Rattle.orders.specs.Meaning.{run_from}
use Rattle.orders.specs.Valid.{all_fit}
use Rattle.interpreter.proofs.Interpreter.execute.Given as goal

-- what is left of the code, run from here, comes to what the whole comes to
abbrev pub invariant-loop-instruction : goal.invariant-loop-instruction
invariant-loop-instruction l = record {
  same : run_from 0 l.rest l.self.registers l.self.written ≡ run_from 0 l.code l.initial.self.registers l.initial.self.written;
  fit : all_fit 16 l.rest ≡ true;
}

abbrev pub decreases-loop-instruction : goal.decreases-loop-instruction
decreases-loop-instruction l = length l.rest
