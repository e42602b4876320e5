use denote.Param.Always.{always_mut}
use Rattle.program.proofs.Handing.{Far}
use Rattle.program.proofs.files.pieces.Given as goal

abbrev pub invariant-loop-round : goal.invariant-loop-round
invariant-loop-round g l = (always_mut g.F.FnMut l.initial.take → always_mut g.F.FnMut l.take) × Far g.F.FnMut l.fn.take (g.R.Read.remaining l.fn.reader) l.take (g.R.Read.remaining l.reader)
