use Rattle.std.proofs.Common.{◌≡◌, [], map, length, eqb-true, sym, refl, ap, ◌∙◌}
use Rattle.std.proofs.lemmas.List.{nil_from_length}
use Rattle.orders.specs.Contents.{contents_of}
use Rattle.orders.specs.Meaning.{meaning}
use Rattle.orders.specs.Transaction.{after, lookup, is_in}
use Rattle.orders.specs.declared.outcome.Outcome.TheVariants.{Nothing, Writes}
use Rattle.interpreter.proofs.Effect.{only_writes}
use Rattle.line.specs.Serial.{values_in}
use Rattle.line.proofs.Applied.{applied}
use Rattle.line.proofs.store.Store.apply.Goals as goal

-- no key is written, so each stands as it was
pub returns-then-is_empty-clause-leaves : goal.returns-then-is_empty-clause-leaves
returns-then-is_empty-clause-leaves c =
    let none : (contents_of c.args.order.now).writes ≡ [] = sym (c.as_slice.ensures.is ∙ c.write_set.ensures) ∙ nil_from_length c.as_slice.result.now (eqb-true (length c.as_slice.result.now) 0 (sym c.if-is_empty.ensures)) in
    λ i k. sym (only_writes (meaning (contents_of c.args.order.now)) (values_in c.args.self.now) k (ap (is_in k) none)) i

pub returns-in-Nothing-clause-leaves : goal.returns-in-Nothing-clause-leaves
returns-in-Nothing-clause-leaves c =
    applied (contents_of c.args.order.now) (values_in c.args.self.now) (values_in c.args.self.now) c.read.result.now Nothing c.in-Nothing.ensures
    (c.read.ensures ∙ ap (map (values_in c.args.self.now)) c.read_set.ensures) (λ k. refl)

left : (c : goal.After-write) → values_in c.write.new.self ≡ after (meaning (contents_of c.args.order.now)) (values_in c.args.self.now)
left c =
    applied (contents_of c.args.order.now) (values_in c.args.self.now) (values_in c.write.new.self) c.read.result.now (Writes c.in-Writes.written) c.in-Writes.ensures
    (c.read.ensures ∙ ap (map (values_in c.args.self.now)) c.read_set.ensures)
    (λ k. c.write.ensures k ∙ ap (λ ws. lookup ws c.in-Writes.written k (values_in c.args.self.now k)) c.write_set-in-Writes.ensures)

pub returns-in-Writes-clause-leaves : goal.returns-in-Writes-clause-leaves
returns-in-Writes-clause-leaves c = left c

pub returns-in-Writes-clause-elsewhere : goal.returns-in-Writes-clause-elsewhere
returns-in-Writes-clause-elsewhere c k h = ap (λ s. s k) (left c) ∙ only_writes (meaning (contents_of c.args.order.now)) (values_in c.args.self.now) k h
