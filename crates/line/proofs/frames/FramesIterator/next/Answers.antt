use Rattle.std.proofs.Common.{◌≡◌, ◌+◌, ◌∷◌, length, drop, refl, ap, ◌∙◌, arith, ltb-false, ltb-true}
use Rattle.std.proofs.lemmas.List.{length-take, length-drop}
use Rattle.line.specs.Frames.{frames}
use Rattle.line.proofs.Framing.{frames_short, frames_cut}
use Rattle.line.proofs.Reading.{next_order}
use Rattle.line.proofs.frames.FramesIterator.next.Goals as goal
use Rattle.line.proofs.frames.FramesIterator.next.Goals.{After-split_at}

pub returns-in_default-clause-steps : goal.returns-in_default-clause-steps
returns-in_default-clause-steps c = (frames_short c.args.self.now.rest.now (omega (arith, ltb-true)), refl)

pub returns-then-rest-len-clause-steps : goal.returns-then-rest-len-clause-steps
returns-then-rest-len-clause-steps c = (
  frames_cut c.args.self.now.rest.now c.from-len.result (omega (arith, ltb-false)) (c.from-len.ensures ∙ c.from_be_bytes.ensures)
      (omega (arith, simp (length-take, length-drop) at c.if-rest-len.true, ltb-false)),
  refl,
)

-- the next order stands first, and what is left behind it
first : (c : After-split_at) → (frames c.args.self.now.rest.now ≡ c.split_at.result.0.now ∷ frames c.split_at.result.1.now) × (c.split_at.result.1.now ≡ drop (length c.split_at.result.0.now + 2) c.args.self.now.rest.now)
first c =
    next_order c.args.self.now.rest.now c.split_at.result.0.now c.split_at.result.1.now c.from-len.result (omega (arith, ltb-false)) (c.from-len.ensures ∙ c.from_be_bytes.ensures)
    (omega (arith, simp (length-take, length-drop) at c.if-rest-len.false)) c.split_at.ensures.front c.split_at.ensures.back

pub returns-clause-steps : goal.returns-clause-steps
returns-clause-steps c = first (goal.at.returns-clause-steps c).After-split_at

pub returns-clause-goes : goal.returns-clause-goes
returns-clause-goes c = record { on = λ _. (tt, tt, omega (arith, ap length (first (goal.at.returns-clause-goes c).After-split_at).0)); keeps = tt; rests = λ _. tt }
