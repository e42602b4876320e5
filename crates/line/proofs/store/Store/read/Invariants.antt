use Rattle.std.proofs.Common.{◌≡◌, map, take}
use Rattle.line.specs.Serial.{values_in}
use Rattle.line.proofs.store.Store.read.Given as goal

-- the values read so far
abbrev pub invariant-loop-i : goal.invariant-loop-i
invariant-loop-i l = take l.i l.room ≡ map (values_in l.self) (take l.i l.keys)
