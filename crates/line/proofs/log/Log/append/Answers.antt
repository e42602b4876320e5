use Rattle.std.proofs.Common.{◌/◌, ◌%◌, [], ◌∷◌, length, vec_items, refl, ap, ◌∙◌, arith}
use Rattle.std.proofs.lemmas.List.{length_push}
use Rattle.std.proofs.lemmas.Slice.{pushed}
use Rattle.line.specs.Frames.{frames}
use Rattle.line.proofs.Reading.{Appended, appended}
use Rattle.line.proofs.log.Log.append.Goals as goal
use Rattle.line.proofs.log.Log.append.Goals.{In_ok-extend_from_slice-2}

written : (c : In_ok-extend_from_slice-2) → Appended (vec_items c.args.self.now.bytes) c.args.order.now (vec_items c.extend_from_slice-2.new.self)
written c =
    appended _ c.to_be_bytes.result _ _ _ c.in-Ok.ensures.0 c.args.self.now.whole
    (c.to_be_bytes.ensures ∙ ap (λ n. (n / 256 % 256) ∷ (n % 256) ∷ []) c.in-Ok.ensures.1)
    (pushed c.to_be_bytes.result c.reserve.ensures.items c.in_ok-extend_from_slice.was c.extend_from_slice.ensures.items)
    (pushed c.args.order.now refl c.in_ok-extend_from_slice-2.was c.extend_from_slice-2.ensures.items)

pub invariant_of-self-2 : goal.invariant_of-self-2
invariant_of-self-2 c =
    record {
      whole = (written c).whole;
      counted = omega (arith, ap length (written c).orders, length_push (frames (vec_items c.args.self.now.bytes)) c.args.order.now);
    }

pub returns : goal.returns
returns c = let w = written (goal.at.returns c).In_ok-extend_from_slice-2 in (c.args.self.now.counted, w.bytes, w.orders)
