use Rattle.std.proofs.Common.{◌≡◌, ◌++◌, vec_items, deque_items, ap, ◌∙◌}
use Rattle.shard.specs.Tasks.{tasks_at}
use Rattle.shard.proofs.Events.{listed_after, once_after, becomes, change_write, ends_write}
use Rattle.shard.proofs.house.House.write_in_place.Goals as goal
use Rattle.shard.proofs.house.House.write_in_place.Goals.{After-list_all}

extended : (c : After-list_all) → deque_items c.list_all.new.tasks ≡ deque_items c.args.self.now.tasks ++ tasks_at c.write.new.self (vec_items c.in_ok-woken.woken)
extended c =
    c.list_all.ensures ∙ ap (λ is. deque_items c.woken.new.tasks ++ tasks_at c.write.new.self is) c.as_slice.ensures.value
    ∙ ap (λ ts. ts ++ tasks_at c.write.new.self (vec_items c.in_ok-woken.woken)) c.woken.ensures.items

pub invariant_of-self-2 : goal.invariant_of-self-2
invariant_of-self-2 c =
    let s = c.args.self.now.ledger in
    let s' = c.write.new.self in
    let raw = deque_items c.args.self.now.tasks in
    let raw' = deque_items c.list_all.new.tasks in
    let woken = vec_items c.in_ok-woken.woken in
    let change = change_write s s' c.args.place c.in_ok-outcome.outcome c.in_ok-outcome.ensures woken c.in_ok-woken.ensures.woken.0 in
    record {
      once = once_after s s' raw raw' (tasks_at s' woken) change (extended c) c.args.self.now.listed c.args.self.now.once;
      listed = listed_after s s' raw raw' (tasks_at s' woken) change (extended c) c.args.self.now.listed;
    }

pub returns : goal.returns
returns c =
    let d = (goal.at.returns c).After-list_all in
    let s = c.args.self.now.ledger in
    let s' = c.write.new.self in
    let raw = deque_items c.args.self.now.tasks in
    let raw' = deque_items c.list_all.new.tasks in
    let woken = vec_items c.in_ok-woken.woken in
    let wrote = c.in_ok-outcome.ensures in
    let change = change_write s s' c.args.place c.in_ok-outcome.outcome wrote woken c.in_ok-woken.ensures.woken.0 in
    (wrote, becomes s s' raw raw' (tasks_at s' woken) change (extended d) c.args.self.now.listed, (tasks_at s' woken, extended d), ends_write s s' c.args.place c.in_ok-outcome.outcome wrote)
