use Rattle.std.proofs.Common.{◌≡◌, true, vec_items, sym, refl, ap, ◌∙◌, arith}
use Rattle.orders.specs.Contents.{contents_of, keys_of}
use Rattle.orders.specs.Meaning.{outcome_of}
use Rattle.ledger.specs.Own.{given, slot_in}
use Rattle.ledger.specs.State.{slots_at, may_write}
use Rattle.orders.proofs.Beside.{keys_few}
use Rattle.ledger.proofs.Writing.{comes_to, written_long, put_leaves, back_leaves, wrote}
use Rattle.ledger.proofs.ledger.Ledger.write.Goals as goal
use Rattle.ledger.proofs.ledger.Ledger.write.Goals.{in-Writes, in-Nothing}

pub returns : goal.returns
returns c =
    let may : may_write c.args.self.now c.args.place ≡ true = sym c.if-not-may_write.ensures.is in
    let vs = given (slots_at c.args.self.now c.args.place) in
    let order = contents_of c.order-order.result in
    let read : c.as_slice.result.now ≡ vs = c.as_slice.ensures ∙ c.given-read.ensures ∙ ap given c.row.ensures in
    let o : outcome_of order vs ≡ c.run-outcome.result = ap (outcome_of order) (sym read) ∙ sym c.run-outcome.ensures in
    wrote c.args.self.now _ c.args.place c.run-outcome.result may (comes_to c.args.self.now c.args.place may c.order-order.result c.order-order.ensures vs c.run-outcome.result o)
    refl refl c.finish.ensures.marks c.finish.ensures.done refl refl
    (elim c.match-outcome.branch [
      | in-Writes w ↦
          put_leaves c.args.self.now c.args.place may c.order-order.result c.order-order.ensures (keys_of w.write_set.result.now) w.in-Writes.written _ w.write_set.ensures
          (omega (arith, keys_few w.write_set.result.now, written_long order vs w.in-Writes.written (o ∙ w.in-Writes.is))) (o ∙ w.in-Writes.is) (λ k own. ap (λ x. slot_in (vec_items x.1.1.1.1.0.own) k) w.self-is ∙ w.put.ensures k own)
      | in-Nothing w ↦
          back_leaves c.args.self.now c.args.place may c.order-order.result c.order-order.ensures (keys_of w.write_set-in-Nothing.result.now) (keys_of w.read_set.result.now) w.as_slice-in-Nothing.result.now _
          w.write_set-in-Nothing.ensures w.read_set.ensures (w.as_slice-in-Nothing.ensures ∙ c.given-read.ensures ∙ ap given c.row.ensures) (o ∙ w.in-Nothing.is)
          (λ k own. ap (λ x. slot_in (vec_items x.1.1.1.1.0.own) k) w.self-is ∙ w.put_back.ensures k own)
    ])
