use Rattle.std.proofs.Common.{false, [], length, get_or, vec_items, vec_len, sym, ap, ◌∙◌, arith}
use Rattle.rows.specs.Lists.{rows_of}
use Rattle.turns.proofs.Coming.{queued_at_first}
use Rattle.turns.proofs.turns.Turns.new.Goals as goal

pub invariant_of-result : goal.invariant_of-result
invariant_of-result c =
    record {
      counted = c.new-3.ensures.len ∙ sym (ap length c.new-2.ensures);
      few = omega (arith, c.new-3.ensures.len);
      queued = λ q _. queued_at_first (λ i. get_or (rows_of c.new-2.result) i []) (λ i. get_or (vec_items c.new-3.result) i false) (vec_items c.in_ok-queues.queues.by_key) q (vec_len c.new-3.result) c.new-3.ensures.len c.in_ok-queues.ensures;
    }
