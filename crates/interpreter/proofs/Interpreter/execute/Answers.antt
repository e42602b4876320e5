use Rattle.std.proofs.Common.{◌≡◌, ◌∷◌, min, length, sym, ap, ◌∙◌, arith}
use Rattle.std.proofs.lemmas.List.{at_drop_all}
use Rattle.orders.specs.Meaning.{run_from}
use Rattle.orders.specs.Valid.{all_fit}
use Rattle.interpreter.proofs.Turns.{run_skips, all_fit_on}
use Rattle.interpreter.proofs.Interpreter.execute.Goals as goal

pub loop-instruction-preserved : goal.loop-instruction-preserved
loop-instruction-preserved c =
    let whole : c.loop-instruction.rest.now ≡ c.in-Some.instruction.now ∷ c.in-Some.after.now = c.in-Some.ensures.cases.0 in
    let skipped : c.min.result ≡ min c.in_ok-step.field-0 (length c.in-Some.after.now) = c.min.ensures ∙ ap (λ n. min n (length c.in-Some.after.now)) c.from-skipped.ensures in
    record {
      same =
          sym (run_skips c.step.new.self.registers c.step.new.self.written c.in-Some.after.now c.in_ok-step.field-0 c.min.result skipped)
          ∙ sym (c.in_ok-step.ensures c.in-Some.after.now)
          ∙ ap (λ is. run_from 0 is c.loop-instruction.self.registers c.loop-instruction.self.written) (sym whole)
          ∙ c.loop-instruction.invariant.same;
      fit = all_fit_on 16 c.in-Some.instruction.now c.in-Some.after.now _ _ skipped (ap (all_fit 16) (sym whole) ∙ c.loop-instruction.invariant.fit);
    }

pub returns : goal.returns
unfolding run_from
returns c =
    sym c.loop-instruction.invariant.same
    ∙ at_drop_all (λ is. run_from 0 is c.loop-instruction.self.registers c.loop-instruction.self.written) c.loop-instruction.rest.now 0 (omega (arith, c.in_default.ensures.cases))
