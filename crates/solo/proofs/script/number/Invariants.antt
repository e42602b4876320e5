use Rattle.std.proofs.Common.{◌≡◌, drop}
use Rattle.solo.specs.Number.{read_on, number_of}
use Rattle.solo.proofs.script.number.Given as goal

abbrev pub invariant-loop-byte : goal.invariant-loop-byte
invariant-loop-byte l = read_on l.number (drop l.byte-index l.word) ≡ number_of l.word
