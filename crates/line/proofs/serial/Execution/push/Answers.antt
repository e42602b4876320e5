use Rattle.std.proofs.Common.{◌-◌, take, drop, vec_items, vec_len, refl, sym, ap, ◌∙◌, arith}
use Rattle.std.proofs.lemmas.Slice.{pushed}
use Rattle.line.proofs.Pieces.{executes_more, moved_down}
use Rattle.line.proofs.serial.Execution.push.Goals as goal

pub returns-clause-executes : goal.returns-clause-executes
returns-clause-executes c bs was =
    let all = vec_items c.extend_from_slice.new.self in
    let n = c.run-count.result in
    executes_more bs c.args.piece.now c.as_slice.result.now c.args.self.now _ c.reserve.new.self n was c.reserve.ensures.same
    (c.as_slice.ensures.value ∙ pushed c.args.piece.now refl c.in_ok-extend_from_slice.was c.extend_from_slice.ensures.items)
    c.run-count.ensures.does c.run-count.ensures.takes
    (c.truncate.ensures.items ∙ ap (take (c.len-2.result - n)) c.copy_within.ensures.items
    ∙ moved_down all n (c.len-2.result - n) (vec_len c.extend_from_slice.new.self - n) (omega arith) (omega arith) (omega arith)
    ∙ ap (drop n) (sym c.as_slice.ensures.value))
