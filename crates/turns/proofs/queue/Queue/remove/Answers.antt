use Rattle.std.proofs.Common.{◌<◌, length, sym, refl, ap, ◌∙◌, arith}
use Rattle.turns.specs.Entries.{entries_in}
use Rattle.turns.specs.Queues.{without}
use Rattle.turns.proofs.Removal.{front_beyond, front_own}
use Rattle.turns.proofs.queue.Queue.remove.Goals as goal

pub returns-then-entry-place : goal.returns-then-entry-place
returns-then-entry-place c =
    let some : 0 < length (entries_in c.loop-entry.self) = omega (arith, c.loop-entry.self.entries.ok, c.in-Some.ensures.variant.0 refl) in
    sym (front_beyond c.args.place (entries_in c.loop-entry.self) c.in-Some.entry.now some c.in-Some.ensures.lookup c.if-entry-place.true) ∙ c.loop-entry.invariant

pub loop-entry-preserved : goal.loop-entry-preserved
loop-entry-preserved c =
    let some : 0 < length (entries_in c.loop-entry.self) = omega (arith, c.loop-entry.self.entries.ok, c.in-Some.ensures.variant.0 refl) in
    ap (without c.args.place) c.pop_front.ensures.rest
    ∙ front_own c.args.place (entries_in c.loop-entry.self) c.in-Some.entry.now some c.in-Some.ensures.lookup (omega (arith, c.if-entry-place.false, c.if-entry-place-2.false))
    ∙ c.loop-entry.invariant
