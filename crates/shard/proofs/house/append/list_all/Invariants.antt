use Rattle.std.proofs.Common.{◌≡◌, ◌+◌, ◌-◌, ◌≤◌, ◌++◌, length, drop, deque_items, deque_len, deque_capacity}
use Rattle.shard.specs.Tasks.{tasks_at}
use Rattle.shard.proofs.house.append.list_all.Given as goal

-- what is listed and what is left to list are the whole; there is room for the rest
abbrev pub invariant-loop-place : goal.invariant-loop-place
invariant-loop-place l =
    (deque_items l.tasks ++ tasks_at l.ledger (drop l.place-index l.places) ≡ deque_items l.initial.tasks ++ tasks_at l.ledger l.places)
    × (deque_len l.tasks + (length l.places - l.place-index) ≤ deque_capacity l.tasks)
