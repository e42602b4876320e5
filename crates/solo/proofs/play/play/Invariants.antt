use Rattle.std.proofs.Common.{◌≤◌, ◌<◌, ◌+◌, ◌^◌, length}
use Rattle.solo.proofs.play.play.Given as goal

-- a line has a byte of its own, or its break
abbrev pub invariant-loop-start : goal.invariant-loop-start
invariant-loop-start g l = (length l.script < 2 ^ 64) × (l.number + length l.rest ≤ length l.script + 1)

abbrev pub decreases-loop-start : goal.decreases-loop-start
decreases-loop-start g l = length l.rest
