use Rattle.std.proofs.Common.{◌≡◌, false, [], ◌∷◌, drop, vec_items, deque_items, sym, refl, ap, ◌∙◌, inr, append-nil}
use Rattle.std.proofs.lemmas.Result.{err_from_is_err_and}
use Rattle.shard.specs.Tasks.{live, may_do, place_of}
use Rattle.shard.proofs.Going.{front_is, first_may, refused_by_memory, distinct_without, listed_without, gone_once_done, still_first, took_live, took_stale}
use Rattle.shard.proofs.house.House.next.Goals as goal
use Rattle.shard.proofs.house.House.next.Goals.{then-is_live+in_ok-reserve+in_ok-perform, else-is_live}

pub returns-in_err-perform : goal.returns-in_err-perform
returns-in_err-perform c =
    let p = err_from_is_err_and c.from_residual-in_err-perform.result c.from_residual-in_err-perform.ensures.1 in
    let h = c.args.self.now in
    let t = c.in-Some.task in
    let is = front_is (deque_items h.tasks) c.front.result t c.front.ensures.item (sym c.copied.ensures ∙ c.in-Some.is) in
    rw (p.1, p.2) (
      c.in_err-perform.ensures.0,
      c.in_ok-reserve.ensures.items,
      refused_by_memory c.in_err-perform.field-0.0 (may_do h.ledger t) h (place_of t) c.in_err-perform.ensures.1 (first_may h.ledger t (deque_items h.tasks) (drop 1 (deque_items h.tasks)) is h.listed (sym c.if-is_live.ensures)),
    )

-- the task in front, whether or not it was done now
first : (c : goal.After-pop_front) → deque_items c.args.self.now.tasks ≡ c.in-Some.task ∷ drop 1 (deque_items c.args.self.now.tasks)
first c = front_is (deque_items c.args.self.now.tasks) c.front.result c.in-Some.task c.front.ensures.item (sym c.copied.ensures ∙ c.in-Some.is)

gone : (c : goal.After-pop_front) → live c.if-is_live.self.ledger c.in-Some.task ≡ false
gone c = elim c.if-is_live.branch [
  | then-is_live+in_ok-reserve+in_ok-perform w ↦
      gone_once_done c.args.self.now c.if-is_live.self w.perform.new.self c.if-is_live.self [] [] c.in-Some.task w.self-is (first c) (sym w.if-is_live.ensures) w.in_ok-perform.ensures.0
  | else-is_live w ↦ ap (λ h. live h.ledger c.in-Some.task) w.self-is ∙ sym w.if-is_live.ensures
]

then_first : (c : goal.After-pop_front) → deque_items c.if-is_live.self.tasks ≡ c.in-Some.task ∷ drop 1 (deque_items c.if-is_live.self.tasks)
then_first c = elim c.if-is_live.branch [
  | then-is_live+in_ok-reserve+in_ok-perform w ↦
      still_first c.args.self.now c.if-is_live.self w.perform.new.self c.if-is_live.self [] [] c.in-Some.task w.self-is (first c) w.in_ok-perform.ensures.1
  | else-is_live w ↦ still_first c.args.self.now c.if-is_live.self c.args.self.now c.if-is_live.self [] [] c.in-Some.task w.self-is (first c) ([], sym (append-nil (deque_items c.args.self.now.tasks)))
]

popped_from : (c : goal.After-pop_front) → deque_items c.if-is_live.self.tasks ≡ c.in-Some.task ∷ deque_items c.pop_front.new.self
popped_from c = then_first c ∙ ap (λ ts. c.in-Some.task ∷ ts) (sym c.pop_front.ensures.rest)

pub invariant_of-self : goal.invariant_of-self
invariant_of-self c =
    let h = c.if-is_live.self in
    record {
      once = distinct_without h.ledger c.in-Some.task (deque_items h.tasks) (deque_items c.pop_front.new.self) (popped_from c) (gone c) h.once;
      listed = listed_without h.ledger c.in-Some.task (deque_items h.tasks) (deque_items c.pop_front.new.self) (popped_from c) (gone c) h.listed;
    }

pub returns : goal.returns
returns c = inr (
  c.in-Some.task,
  drop 1 (deque_items c.args.self.now.tasks),
  elim c.if-is_live.branch [
    | then-is_live+in_ok-reserve+in_ok-perform w ↦
        took_live c.args.self.now c.if-is_live.self w.perform.new.self _ (vec_items c.args.done.now) (vec_items c.if-is_live.done) c.in-Some.task w.self-is (front_is (deque_items c.args.self.now.tasks) c.front.result c.in-Some.task c.front.ensures.item (sym c.copied.ensures ∙ c.in-Some.is)) refl c.pop_front.ensures.rest
        (sym w.if-is_live.ensures) w.in_ok-perform.ensures.0 w.in_ok-perform.ensures.1 (cc)
    | else-is_live w ↦
        took_stale c.args.self.now c.if-is_live.self c.args.self.now _ (vec_items c.args.done.now) (vec_items c.if-is_live.done) c.in-Some.task w.self-is (front_is (deque_items c.args.self.now.tasks) c.front.result c.in-Some.task c.front.ensures.item (sym c.copied.ensures ∙ c.in-Some.is)) refl c.pop_front.ensures.rest
        (sym w.if-is_live.ensures) w.self-is (ap vec_items w.done-is)
  ],
)
