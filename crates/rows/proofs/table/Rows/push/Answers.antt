use Rattle.std.proofs.Common.{refl}
use Rattle.std.proofs.lemmas.Slice.{pushed}
use Rattle.rows.proofs.Block.{pushed_rises, pushed_rows}
use Rattle.rows.proofs.table.Rows.push.Goals as goal

pub invariant_of-self-2 : goal.invariant_of-self-2
invariant_of-self-2 g c =
    record {
      held = pushed_rises c.args.self.now c.extend_from_slice.new.self c.push_reserved.new.self c.args.row.now
          (pushed c.args.row.now refl c.in_ok-extend_from_slice.was c.extend_from_slice.ensures.items) (cc);
    }

pub returns-clause-pushed : goal.returns-clause-pushed
returns-clause-pushed g c =
    pushed_rows c.args.self.now c.extend_from_slice.new.self c.push_reserved.new.self c.args.row.now
    (pushed c.args.row.now refl c.in_ok-extend_from_slice.was c.extend_from_slice.ensures.items) (cc)
