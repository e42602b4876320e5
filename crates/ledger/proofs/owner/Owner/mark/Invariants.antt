use Rattle.std.proofs.Common.{◌≡◌, ◌+◌, ◌≤◌, ◌++◌, length, drop}
use Rattle.bounded.specs.Items.{items_of}
use Rattle.ledger.specs.Own.{own_marks}
use Rattle.ledger.proofs.owner.Owner.mark.Given as goal

abbrev pub invariant-loop-key : goal.invariant-loop-key
invariant-loop-key l =
    (length (items_of l.marks) ≤ length (items_of l.initial.marks) + l.key-index)
    × (items_of l.marks ++ own_marks l.writes l.self.number (drop l.key-index l.key-items) ≡ items_of l.initial.marks ++ own_marks l.writes l.self.number l.key-items)
