use Rattle.std.proofs.Common.{◌≡◌, vec_capacity}
use Rattle.line.specs.Frames.{extent}
use Rattle.line.specs.Serial.{limit, entries_from, state_of, next_place, doing}
use Rattle.line.proofs.Totals.{Going}
use Rattle.line.proofs.serial.Progress.run.Given as goal

abbrev pub invariant-loop-place : goal.invariant-loop-place
invariant-loop-place l =
    let s = state_of l.initial.self in
    let all = entries_from (next_place s) l.bytes in
    record {
      up_to : l.place-iterator.a.end ≡ limit;
      room : vec_capacity l.self.malformed ≡ vec_capacity l.initial.self.malformed;
      going : Going (doing all s) (extent all) (vec_capacity l.initial.self.malformed) l.place-iterator.a.start l.taken l.place-iterator.b.rest.now (state_of l.self);
    }
