use Rattle.std.proofs.Common.{◌≡◌, [], ◌∷◌, ◌++◌, deque_items, filter, ap, ◌∙◌, inl}
use Rattle.std.proofs.lemmas.Result.{err_from_is_err_and}
use Rattle.turns.specs.State.{count_of}
use Rattle.shard.specs.Tasks.{live, task_at, tasks_at, listed}
use Rattle.shard.proofs.Events.{listed_after, once_after, becomes, same_kept, change_order}
use Rattle.shard.proofs.house.House.append.Goals as goal
use Rattle.shard.proofs.house.House.append.Goals.{After-list}

pub returns-in_err-place : goal.returns-in_err-place
returns-in_err-place c =
    let s = c.args.self.now.ledger in
    let s' = c.append.new.self in
    let same = c.in_err-place.ensures.0 in
    let p = err_from_is_err_and c.from_residual-in_err-place.result c.from_residual-in_err-place.ensures.1 in
    rw (p.1, p.2) (same, ap (filter (live s')) c.reserve.ensures.items ∙ same_kept s s' same (deque_items c.args.self.now.tasks), inl c.in_err-place.ensures.1)

-- the order's task stands behind the others
extended : (c : After-list) → deque_items c.list.new.tasks ≡ deque_items c.args.self.now.tasks ++ tasks_at c.append.new.self (count_of c.args.self.now.ledger.turns ∷ [])
extended c =
    c.list.ensures.items ∙ ap (λ ts. ts ++ listed (task_at c.append.new.self c.in_ok-place.place) []) c.reserve.ensures.items
    ∙ ap (λ i. deque_items c.args.self.now.tasks ++ listed (task_at c.append.new.self i) []) c.in_ok-place.ensures.0

pub invariant_of-self-2 : goal.invariant_of-self-2
invariant_of-self-2 c =
    let s = c.args.self.now.ledger in
    let s' = c.append.new.self in
    let raw = deque_items c.args.self.now.tasks in
    let raw' = deque_items c.list.new.tasks in
    let fresh = tasks_at s' (count_of s.turns ∷ []) in
    let change = change_order s s' c.args.bytes.now c.in_ok-place.ensures.1 in
    record {
      once = once_after s s' raw raw' fresh change (extended c) c.args.self.now.listed c.args.self.now.once;
      listed = listed_after s s' raw raw' fresh change (extended c) c.args.self.now.listed;
    }

pub returns : goal.returns
returns c =
    let d = (goal.at.returns c).After-list in
    let s = c.args.self.now.ledger in
    let s' = c.append.new.self in
    let raw = deque_items c.args.self.now.tasks in
    let raw' = deque_items c.list.new.tasks in
    let fresh = tasks_at s' (count_of s.turns ∷ []) in
    let change = change_order s s' c.args.bytes.now c.in_ok-place.ensures.1 in
    (c.in_ok-place.ensures.0, c.in_ok-place.ensures.1, becomes s s' raw raw' fresh change (extended d) c.args.self.now.listed)
