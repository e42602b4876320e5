-- All promises of a net that a run comes to, from the invariant that the run keeps.
use Rattle.std.proofs.Common.{ℕ, List}
use Rattle.orders.specs.Transaction.{Transaction}
use Rattle.protocol.specs.House.{Plan, Sound}
use Rattle.protocol.specs.Machine.{Net}
use Rattle.protocol.specs.Promise.{Reach, Promise}
use Rattle.protocol.proofs.Invariant.{Inv}
use Rattle.protocol.proofs.Preserved.{inv_run, inv_start}
use Rattle.protocol.proofs.Progress.{never_stuck, nearby}
use Rattle.protocol.proofs.Promises.{reads_right, ends_right, alike, no_ring, no_gap, told_stays}

pub promise : (os : List Transaction) (p : Plan) (first : ℕ → ℕ) → Sound os p → (n : Net) → Reach os p first n → Promise os p first n
promise os p first sound n (ds, run) =
    let inv : Inv os p.own first n = inv_run os p first sound run (inv_start os p first sound) in
    record {
      reads_right = reads_right os p first sound n inv;
      ends_right = ends_right os p first sound n inv;
      alike = alike os p first sound n inv;
      never_stuck = never_stuck os p first sound n inv;
      nearby = nearby os p first sound n inv;
      no_ring = no_ring os p first n;
      no_gap = no_gap os p first sound n inv;
      told_stays = told_stays os p first sound n inv;
    }
