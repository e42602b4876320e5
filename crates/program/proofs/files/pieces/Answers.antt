use Rattle.std.proofs.Common.{rules, of_calls, ap, take, arith}
use Rattle.std.proofs.lemmas.Fn.{called_at}
use Rattle.program.proofs.Handing.{far_more, far_end}
use Rattle.program.proofs.files.pieces.Goals as goal

pub returns-then-count-eq0 : goal.returns-then-count-eq0
returns-then-count-eq0 g c =
    far_end g.F.FnMut c.args.take _ c.loop-round.take _ _ (take c.in_ok-count.count c.read.new.buf) c.loop-round.invariant.1 c.in_ok-count.ensures.bytes.0
    (ap (λ n. take n c.read.new.buf) c.if-count-eq0.true) (c.in_ok-count.ensures.bytes.1 c.if-count-eq0.true (omega arith))

pub loop-round-preserved : goal.loop-round-preserved
loop-round-preserved g c = (
  λ h. let k = c.loop-round.invariant.0 h in search (rules, of_calls),
  far_more g.F.FnMut c.args.take _ c.loop-round.take c.take.new.self _ _ (take c.in_ok-count.count c.read.new.buf) c.loop-round.invariant.1
      (called_at g.F.FnMut c.take.ensures c.in_ok-take.was) c.in_ok-count.ensures.bytes.0,
)
