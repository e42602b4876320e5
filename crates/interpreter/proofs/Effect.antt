-- What a transaction comes to depends on what it reads, and changes what it writes alone.
use Rattle.std.proofs.Common.{map, ap, ◌∙◌}
use Rattle.orders.specs.Effect.{OnlyReads, OnlyWrites}
use Rattle.orders.proofs.Transactions.{map_agreed, written_outside}
use Rattle.orders.specs.Transaction.{leaves, after}

pub only_reads : OnlyReads
unfolding after
only_reads t f g h =
    let same = map_agreed t.reads f g h in
    (ap t.outcome same, λ k e. ap (λ vs. leaves t vs k (f k)) same ∙ ap (leaves t (map g t.reads) k) e)

pub only_writes : OnlyWrites
unfolding after
only_writes t f k h = written_outside t.writes (t.outcome (map f t.reads)) k (f k) h
