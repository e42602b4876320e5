use Rattle.std.proofs.Common.{◌≡◌, true, false, vec_items, sym, ◌∙◌}
use Rattle.std.proofs.lemmas.Result.{IfOk-weaker}
use Rattle.orders.specs.Transaction.{is_in}
use Rattle.turns.specs.Marks.{wakes}
use Rattle.turns.specs.State.{marks_of, done_of, count_of}
use Rattle.turns.proofs.Woken.{refused_anyway, passes_not, passes, waits_for_none, waits_for_another, waits_for_it}
use Rattle.turns.proofs.turns.Turns.wake.Goals as goal
use Rattle.turns.proofs.turns.Turns.wake.Goals.{then-is_clear-via-then-is_clear, then-is_clear-via-else-is_clear+then-not-is_clear}

pub returns-then-is_clear-clause-has : goal.returns-then-is_clear-clause-has
returns-then-is_clear-clause-has c =
    let t = c.args.self.now in
    let no : wakes (marks_of t) (done_of t) (count_of t) c.args.place c.args.waiting ≡ false =
    elim c.then-is_clear.branch [
      | then-is_clear-via-then-is_clear w ↦ waits_for_none t c.args.waiting c.args.place c.requires.0 c.requires.1 (sym w.if-is_clear.true ∙ c.is_clear.ensures)
      | then-is_clear-via-else-is_clear+then-not-is_clear w ↦
          waits_for_another t c.args.waiting c.args.place c.requires.0 c.requires.1 (sym w.if-not-is_clear.true ∙ w.is_clear-else-is_clear.ensures)
    ] in
    λ j. passes_not (wakes (marks_of t) (done_of t) (count_of t) c.args.place) j c.args.waiting (is_in j (vec_items c.args.woken.now.items)) no

-- one that is neither waits for it
yes : (c : goal.After-insert) → wakes (marks_of c.args.self.now) (done_of c.args.self.now) (count_of c.args.self.now) c.args.place c.args.waiting ≡ true
yes c = waits_for_it c.args.self.now c.args.waiting c.args.place c.requires.0 c.requires.1 (sym c.if-is_clear.false ∙ c.is_clear.ensures) (sym c.if-not-is_clear.false ∙ c.is_clear-else-is_clear.ensures)

pub returns-clause-has : goal.returns-clause-has
returns-clause-has c =
    let t = c.args.self.now in
    IfOk-weaker c.insert.result _ _ (λ _ h j. h j ∙ passes (wakes (marks_of t) (done_of t) (count_of t) c.args.place) j c.args.waiting (is_in j (vec_items c.args.woken.now.items)) (yes c)) c.insert.ensures.has

pub returns-clause-wanting : goal.returns-clause-wanting
returns-clause-wanting c = refused_anyway c.insert.result _ (c.args.waiting, yes c)
