use Rattle.std.proofs.Common.{◌≡◌, ◌+◌, List, [], ◌++◌, get_or, drop, Some, None, deque_items, Option, sym, refl, ap, ◌∙◌, arith}
use Rattle.std.proofs.lemmas.List.{append_assoc, at_drop_more}
use Rattle.shard.specs.Tasks.{task_at, tasks_at, listed}
use Rattle.shard.specs.declared.task.Task.{Task}
use Rattle.shard.proofs.house.append.list_all.Goals as goal

listed_append : (o : Option Task) (ts : List Task) → listed o ts ≡ listed o [] ++ ts
listed_append None ts = refl
listed_append (Some t) ts = refl

pub loop-place-preserved : goal.loop-place-preserved
loop-place-preserved c =
    let s = c.args.ledger.now in
    let place = get_or c.args.places.now c.loop-place.place-index 0 in
    let rest = tasks_at s (drop (c.loop-place.place-index + 1) c.args.places.now) in (
      ap (λ ts. ts ++ rest) c.list.ensures.items ∙ append_assoc (deque_items c.loop-place.tasks) (listed (task_at s place) []) rest
          ∙ ap (λ ts. deque_items c.loop-place.tasks ++ ts) (sym (at_drop_more (tasks_at s) c.args.places.now c.loop-place.place-index 0 c.loop-place-test.true ∙ listed_append (task_at s place) rest))
          ∙ c.loop-place.invariant.0,
      omega (arith, c.list.ensures.len, c.list.ensures.capacity, c.loop-place.invariant.1, c.loop-place-test.true),
    )
