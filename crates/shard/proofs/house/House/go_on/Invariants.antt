use Rattle.std.proofs.Common.{◌≤◌, length, vec_items}
use Rattle.shard.proofs.Going.{Going}
use Rattle.shard.proofs.house.House.go_on.Given as goal

abbrev pub invariant-loop : goal.invariant-loop
invariant-loop l = Going l.initial.self l.self (vec_items l.done) l.counter × (length (vec_items l.done) ≤ l.count)
