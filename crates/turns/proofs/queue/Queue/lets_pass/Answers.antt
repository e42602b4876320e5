use Rattle.std.proofs.Common.{◌<◌, true≢false, [], length, append-nil, sym, refl, ap, ◌∙◌, arith}
use Rattle.turns.specs.Entries.{entries_in}
use Rattle.turns.specs.Queues.{clear_in}
use Rattle.turns.proofs.Passing.{clear_in_nobody, clear_in_front}
use Rattle.turns.proofs.queue.Queue.lets_pass.Goals as goal

pub returns-in_default : goal.returns-in_default
returns-in_default c =
    sym (clear_in_nobody c.args.place c.args.but c.args.writes (entries_in c.args.self.now) (λ some. true≢false (sym (c.in_default.ensures.variant.1 (omega (arith, some, c.args.self.now.entries.ok))))))

pub returns-then-first-place : goal.returns-then-first-place
returns-then-first-place c =
    let some : 0 < length (entries_in c.args.self.now) = omega (arith, c.args.self.now.entries.ok, c.in-Some.ensures.variant.0 refl) in
    sym (clear_in_front c.args.place c.args.but c.args.writes (entries_in c.args.self.now) c.in-Some.first.now some c.in-Some.ensures.lookup c.if-first-place.true)

-- behind the second part there is nobody
pub returns-in-None : goal.returns-in-None
unfolding clear_in
returns-in-None c =
    let back = c.as_slices.result.1.now in
    let whole = ap (clear_in c.args.place c.args.but c.args.writes) (append-nil back) in
    c.unwrap_or.ensures ∙ sym (c.verdict-in-None.ensures []) ∙ whole ∙ sym (c.in-None.ensures back) ∙ ap (clear_in c.args.place c.args.but c.args.writes) c.as_slices.ensures.items
