use Rattle.std.proofs.Common.{◌+◌, get_or, drop, sym, refl, ap, ◌∙◌, arith}
use Rattle.orders.specs.Contents.{keys_of}
use Rattle.orders.specs.Transaction.{lookup}
use Rattle.ledger.specs.Own.{slot_in}
use Rattle.ledger.proofs.Putting.{back, back_more, back_pass}
use Rattle.ledger.proofs.ledger.write.put_back.Goals as goal
use Rattle.ledger.proofs.ledger.write.put_back.Goals.{then-owns, else-owns}

pub loop-key-preserved : goal.loop-key-preserved
loop-key-preserved c =
    let ks = c.as_slice-key-items.result.now in
    let reads = keys_of c.args.reads.now in
    elim c.if-owns.branch [
      | then-owns w ↦
          let j = get_or ks c.loop-key.key-index 0 in
          let v = w.unwrap_or-value.result in
          λ k o.
          ap (λ v. back (drop (c.loop-key.key-index + 1) ks) reads c.args.read.now k (slot_in v.own.items k)) w.own-is
          ∙ ap (λ xs. back (drop (c.loop-key.key-index + 1) ks) reads c.args.read.now k (slot_in xs k)) w.set.ensures
          ∙ back_more c.args.owner.number ks reads c.args.read.now c.loop-key.own.own.items c.loop-key.key-index j c.loop-key-test.true refl k o
          v (sym w.if-owns.ensures) (omega (arith, c.type_inv.key-items c.loop-key.key-index, c.loop-key.own.sized, c.loop-key.own.own.ok.0))
          (w.unwrap_or-value.ensures ∙ w.value_of.ensures w.get-before.result ∙ ap (lookup reads c.args.read.now j) w.get-before.ensures)
          ∙ c.loop-key.invariant k o
      | else-owns w ↦ λ k o.
          ap (λ v. back (drop (c.loop-key.key-index + 1) ks) reads c.args.read.now k (slot_in v.own.items k)) w.own-is
          ∙ back_pass c.args.owner.number ks reads c.args.read.now c.loop-key.own.own.items c.loop-key.key-index (get_or ks c.loop-key.key-index 0) c.loop-key-test.true refl k o
          (sym w.if-owns.ensures)
          ∙ c.loop-key.invariant k o
    ]
