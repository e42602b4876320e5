use Rattle.std.proofs.Common.{◌≡◌, [], ◌∷◌, ◌++◌, vec_items, deque_items, sym, ap, ◌∙◌}
use Rattle.ledger.specs.Notes.{values_of}
use Rattle.shard.specs.Tasks.{tasks_at, task_at, listed}
use Rattle.shard.proofs.Events.{listed_after, once_after, becomes, change_look_writer, change_look_done, ends_look}
use Rattle.shard.proofs.house.House.look_in_place.Goals as goal
use Rattle.shard.proofs.house.House.look_in_place.Goals.{After-list, After-list_all}

-- the write of the same order stands behind the others
extended : (c : After-list) → deque_items c.list.new.tasks ≡ deque_items c.args.self.now.tasks ++ tasks_at c.look.new.self (c.args.place ∷ [])
extended c = c.list.ensures.items ∙ ap (λ ts. ts ++ listed (task_at c.look.new.self c.args.place) []) c.reserve.ensures.items

pub invariant_of-self-then-touches : goal.invariant_of-self-then-touches
invariant_of-self-then-touches c =
    let s = c.args.self.now.ledger in
    let s' = c.look.new.self in
    let raw = deque_items c.args.self.now.tasks in
    let raw' = deque_items c.list.new.tasks in
    let fresh = tasks_at s' (c.args.place ∷ []) in
    let change = change_look_writer s s' c.args.place (values_of c.in_ok-note.note) c.in_ok-note.ensures (sym c.if-touches.ensures) in
    record {
      once = once_after s s' raw raw' fresh change (extended c) c.args.self.now.listed c.args.self.now.once;
      listed = listed_after s s' raw raw' fresh change (extended c) c.args.self.now.listed;
    }

pub returns-then-touches : goal.returns-then-touches
returns-then-touches c =
    let d = (goal.at.returns-then-touches c).After-list in
    let s = c.args.self.now.ledger in
    let s' = c.look.new.self in
    let raw = deque_items c.args.self.now.tasks in
    let raw' = deque_items c.list.new.tasks in
    let fresh = tasks_at s' (c.args.place ∷ []) in
    let look = c.in_ok-note.ensures in
    let change = change_look_writer s s' c.args.place (values_of c.in_ok-note.note) look (sym c.if-touches.ensures) in
    (look, becomes s s' raw raw' fresh change (extended d) c.args.self.now.listed, (fresh, extended d), ends_look s s' c.args.place (values_of c.in_ok-note.note) look)

-- those that it woke stand behind the others
woken_behind : (c : After-list_all) → deque_items c.list_all.new.tasks ≡ deque_items c.args.self.now.tasks ++ tasks_at c.look-2.new.self (vec_items c.in_ok-woken.woken)
woken_behind c =
    c.list_all.ensures ∙ ap (λ is. deque_items c.woken.new.tasks ++ tasks_at c.look-2.new.self is) c.as_slice.ensures.value
    ∙ ap (λ ts. ts ++ tasks_at c.look-2.new.self (vec_items c.in_ok-woken.woken)) c.woken.ensures.items

pub invariant_of-self-2 : goal.invariant_of-self-2
invariant_of-self-2 c =
    let s = c.args.self.now.ledger in
    let s' = c.look-2.new.self in
    let raw = deque_items c.args.self.now.tasks in
    let raw' = deque_items c.list_all.new.tasks in
    let woken = vec_items c.in_ok-woken.woken in
    let change = change_look_done s s' c.args.place (values_of c.in_ok-note-2.note) c.in_ok-note-2.ensures (sym c.if-touches.ensures) woken c.in_ok-woken.ensures.woken.0 in
    record {
      once = once_after s s' raw raw' (tasks_at s' woken) change (woken_behind c) c.args.self.now.listed c.args.self.now.once;
      listed = listed_after s s' raw raw' (tasks_at s' woken) change (woken_behind c) c.args.self.now.listed;
    }

pub returns : goal.returns
returns c =
    let d = (goal.at.returns c).After-list_all in
    let s = c.args.self.now.ledger in
    let s' = c.look-2.new.self in
    let raw = deque_items c.args.self.now.tasks in
    let raw' = deque_items c.list_all.new.tasks in
    let woken = vec_items c.in_ok-woken.woken in
    let look = c.in_ok-note-2.ensures in
    let change = change_look_done s s' c.args.place (values_of c.in_ok-note-2.note) look (sym c.if-touches.ensures) woken c.in_ok-woken.ensures.woken.0 in
    (look, becomes s s' raw raw' (tasks_at s' woken) change (woken_behind d) c.args.self.now.listed, (tasks_at s' woken, woken_behind d), ends_look s s' c.args.place (values_of c.in_ok-note-2.note) look)
