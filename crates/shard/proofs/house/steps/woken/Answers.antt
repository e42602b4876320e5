use Rattle.std.proofs.Common.{vec_items, deque_len, deque_capacity, refl, ◌∙◌}
use Rattle.std.proofs.lemmas.Result.{err_from_is_err_and}
use Rattle.shard.proofs.Events.{woken_some}
use Rattle.shard.proofs.house.steps.woken.Goals as goal

pub returns-in_err-reserve : goal.returns-in_err-reserve
returns-in_err-reserve c =
    let p = err_from_is_err_and c.from_residual-in_err-reserve.result c.from_residual-in_err-reserve.ensures.1 in
    rw (p.1, p.2) (
    record {
      items = c.reserve.ensures.items;
      woken = (
        refl,
        woken_some c.args.ledger.now.turns (deque_capacity c.args.tasks.now) (deque_len c.args.tasks.now) c.args.place (vec_items c.in_ok-woken.woken) c.len.result (c.len.ensures ∙ c.in_ok-woken.woken.ok.0)
            c.in_ok-woken.ensures.woken c.in_err-reserve.ensures.full,
      );
    }
    )
