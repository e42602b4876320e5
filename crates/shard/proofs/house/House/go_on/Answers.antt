use Rattle.std.proofs.Common.{length, drop, None, vec_items, deque_items, filter, refl, ap, ◌∙◌, arith}
use Rattle.std.proofs.lemmas.Result.{err_from_is_err_and}
use Rattle.shard.specs.State.{ready_of}
use Rattle.shard.specs.Tasks.{live}
use Rattle.shard.proofs.Going.{going_none, going_more, next_adds_one, first_done, first_done_as_before, as_many_done, all_done, ran_unmoved, none_some, some_is}
use Rattle.shard.proofs.house.House.go_on.Goals as goal

pub loop-init : goal.loop-init
loop-init c = (going_none c.args.self.now (vec_items c.args.done.now) c.requires, omega (arith, ap length c.requires))

pub loop-preserved : goal.loop-preserved
loop-preserved c =
    let ds = vec_items c.loop.done in
    let ds' = vec_items c.next.new.done in
    let next = c.in_ok-next.ensures in (
      going_more c.args.self.now c.loop.self c.next.new.self ds ds' c.loop.counter (omega (arith, c.len-end.ensures, c.args.self.now.tasks.ok)) c.loop.invariant.0 next,
      omega (arith, next_adds_one c.loop.self c.next.new.self ds ds' next, c.len.ensures, c.loop.done.ok, c.if-len-count.false),
    )

pub returns-after-loop : goal.returns-after-loop
returns-after-loop c =
    let ds = vec_items c.loop.done in
    let h = c.args.self.now in
    let g = c.loop.invariant.0 in
    record {
      ran = g.ran;
      first = first_done ds (filter (live c.loop.self.ledger) (drop c.loop.counter (deque_items h.tasks))) (ready_of h) c.args.count g.split c.loop.invariant.1;
      all = λ _. all_done h c.loop.self ds c.loop.counter c.args.count g (omega (arith, c.len-end.ensures, h.tasks.ok)) c.loop.invariant.1;
      stopped = λ e is. absurd (none_some None e refl is);
    }

pub returns-then-len-count : goal.returns-then-len-count
returns-then-len-count c =
    let ds = vec_items c.loop.done in
    let h = c.args.self.now in
    let g = c.loop.invariant.0 in
    let left = filter (live c.loop.self.ledger) (drop c.loop.counter (deque_items h.tasks)) in
    record {
      ran = g.ran;
      first = first_done ds left (ready_of h) c.args.count g.split c.loop.invariant.1;
      all = λ _. as_many_done ds left (ready_of h) c.args.count g.split (omega (arith, c.loop.invariant.1, c.len.ensures, c.loop.done.ok, c.if-len-count.true));
      stopped = λ e is. absurd (none_some None e refl is);
    }

pub returns-in_err-next : goal.returns-in_err-next
returns-in_err-next c =
    let ds = vec_items c.loop.done in
    let ds' = vec_items c.next.new.done in
    let h = c.args.self.now in
    let g = c.loop.invariant.0 in
    let e = c.in_err-next.ensures in
    let left = filter (live c.loop.self.ledger) (drop c.loop.counter (deque_items h.tasks)) in
    let p = err_from_is_err_and c.from_residual.result c.from_residual.ensures.1 in
    rw (p.1, p.2) (record {
      ran = ran_unmoved h c.loop.self c.next.new.self ds ds' g.ran e.0 e.1;
      first = first_done_as_before ds ds' left (ready_of h) c.args.count g.split c.loop.invariant.1 e.1;
      all = λ is. absurd (none_some _ c.in_err-next.field-0.0 is refl);
      stopped = λ r is. some_is c.in_err-next.field-0.0 r is ∙ e.2;
    })
