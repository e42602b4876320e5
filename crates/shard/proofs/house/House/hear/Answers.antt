use Rattle.std.proofs.Common.{◌≡◌, [], ◌∷◌, ◌++◌, deque_items, filter, sym, ap, ◌∙◌, inl}
use Rattle.std.proofs.lemmas.List.{append-nil}
use Rattle.std.proofs.lemmas.Result.{err_from_is_err_and}
use Rattle.shard.specs.Tasks.{live}
use Rattle.shard.specs.declared.task.Task.TheVariants.{Write}
use Rattle.shard.proofs.Events.{listed_after, once_after, becomes, change_told_last, change_told}
use Rattle.shard.proofs.house.House.hear.Goals as goal

pub returns-in_err-hear : goal.returns-in_err-hear
returns-in_err-hear c =
    let p = err_from_is_err_and c.from_residual-in_err-hear.result c.from_residual-in_err-hear.ensures.1 in
    rw (p.1, p.2) (c.in_err-hear.ensures.0, (λ x. filter (live (c.in_err-hear.ensures.0 x)) (c.reserve.ensures.items x)), inl c.in_err-hear.ensures.1)

pub invariant_of-self-then-may_write : goal.invariant_of-self-then-may_write
invariant_of-self-then-may_write c =
    let s = c.args.self.now.ledger in
    let s' = c.hear.new.self in
    let raw = deque_items c.args.self.now.tasks in
    let raw' = deque_items c.push_back_reserved.new.self in
    let is : raw' ≡ raw ++ Write c.args.place ∷ [] = c.push_back_reserved.ensures.items ∙ ap (λ ts. ts ++ Write c.args.place ∷ []) c.reserve.ensures.items in
    let change = change_told_last s s' c.args.from c.args.place c.args.values.now c.in_ok-hear.ensures (sym c.if-may_write.ensures.is) in
    record {
      once = once_after s s' raw raw' (Write c.args.place ∷ []) change is c.args.self.now.listed c.args.self.now.once;
      listed = listed_after s s' raw raw' (Write c.args.place ∷ []) change is c.args.self.now.listed;
    }

pub invariant_of-self-else-may_write : goal.invariant_of-self-else-may_write
invariant_of-self-else-may_write c =
    let s = c.args.self.now.ledger in
    let s' = c.hear.new.self in
    let raw = deque_items c.args.self.now.tasks in
    let raw' = deque_items c.reserve.new.self in
    let is : raw' ≡ raw ++ [] = c.reserve.ensures.items ∙ sym (append-nil raw) in
    let change = change_told s s' c.args.from c.args.place c.args.values.now c.in_ok-hear.ensures (sym c.if-may_write.ensures.is) in
    record {
      once = once_after s s' raw raw' [] change is c.args.self.now.listed c.args.self.now.once;
      listed = listed_after s s' raw raw' [] change is c.args.self.now.listed;
    }

pub returns-then-may_write : goal.returns-then-may_write
returns-then-may_write c =
    let s = c.args.self.now.ledger in
    let s' = c.hear.new.self in
    let raw = deque_items c.args.self.now.tasks in
    let raw' = deque_items c.push_back_reserved.new.self in
    let is : raw' ≡ raw ++ Write c.args.place ∷ [] = c.push_back_reserved.ensures.items ∙ ap (λ ts. ts ++ Write c.args.place ∷ []) c.reserve.ensures.items in
    let change = change_told_last s s' c.args.from c.args.place c.args.values.now c.in_ok-hear.ensures (sym c.if-may_write.ensures.is) in
    (c.in_ok-hear.ensures, becomes s s' raw raw' (Write c.args.place ∷ []) change is c.args.self.now.listed)

pub returns-else-may_write : goal.returns-else-may_write
returns-else-may_write c =
    let s = c.args.self.now.ledger in
    let s' = c.hear.new.self in
    let raw = deque_items c.args.self.now.tasks in
    let raw' = deque_items c.reserve.new.self in
    let is : raw' ≡ raw ++ [] = c.reserve.ensures.items ∙ sym (append-nil raw) in
    let change = change_told s s' c.args.from c.args.place c.args.values.now c.in_ok-hear.ensures (sym c.if-may_write.ensures.is) in
    (c.in_ok-hear.ensures, becomes s s' raw raw' [] change is c.args.self.now.listed)
