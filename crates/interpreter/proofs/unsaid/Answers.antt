use Rattle.std.proofs.Common.{◌≡◌, [], map, sym, suc, ◌+◌, ◌<◌, ◌≤◌, get_or, length, subst, ap, ◌∙◌, arith}
use Rattle.orders.specs.Contents.{keys_of}
use Rattle.orders.specs.Transaction.{lookup}
use Rattle.orders.proofs.Valid.{rising_next}
use Rattle.orders.specs.Meaning.{padded}
use Rattle.std.proofs.lemmas.Bool.{eqb-true}
use Rattle.std.proofs.lemmas.List.{nil_from_length}
use Rattle.interpreter.proofs.Values.{filled_more, filled_all, zeros_unread}
use Rattle.interpreter.proofs.unsaid.Goals as goal

pub returns-then-is_empty : goal.returns-then-is_empty
returns-then-is_empty c =
    let none : c.args.values.now ≡ [] = nil_from_length _ (eqb-true (length c.args.values.now) 0 (sym c.if-is_empty.ensures)) in
    sym
    (ap (λ vs. padded 16 (map (λ k. lookup (keys_of c.args.reads.now) vs k 0) (keys_of c.args.writes.now))) none
    ∙ zeros_unread 16 16 (keys_of c.args.reads.now) (keys_of c.args.writes.now) (omega arith))

pub loop-i-preserved : goal.loop-i-preserved
loop-i-preserved c =
    let ks = keys_of c.args.writes.now in
    let keys = c.as_slice-key-items.ensures.is in
    let within : c.loop-i.i < length ks = omega (arith, ap length keys) in
    let key = ap (λ xs. get_or xs c.loop-i.i 0) keys in
    let next : c.loop-i.i + 1 ≡ suc c.loop-i.i = omega arith in
    record {
      filled = filled_more (λ k. lookup (keys_of c.args.reads.now) c.args.values.now k 0) 16 c.loop-i.i ks c.loop-i.written c.loop-i.invariant.filled c.unwrap_or.result within (omega arith)
          (c.unwrap_or.ensures
          ∙ c.seek.ensures.value 0
          ∙ c.loop-i.invariant.still (get_or c.as_slice-key-items.result.now c.loop-i.i 0) 0 within (omega (arith, key))
          ∙ ap (λ k. lookup (keys_of c.args.reads.now) c.args.values.now k 0) key);
      still = λ k other w h.
          let up = rising_next 0 c.loop-i.i ks c.args.writes.now.rises (omega arith) in
          let above : get_or ks (suc c.loop-i.i) 0 ≤ k = subst (λ n. get_or ks n 0 ≤ k) next h in
          c.seek.ensures.kept k other (omega (arith, key)) ∙ c.loop-i.invariant.still k other within (omega arith);
    }

pub returns : goal.returns
returns c =
    let keys = c.as_slice-key-items.ensures.is in
    filled_all (λ k. lookup (keys_of c.args.reads.now) c.args.values.now k 0) 16 c.loop-i.i (keys_of c.args.writes.now) c.loop-i.written c.loop-i.invariant.filled
    (omega (arith, ap length keys)) (omega arith)
