use Rattle.interpreter.proofs.Values.{padded_copied}
use Rattle.interpreter.proofs.load.Goals as goal

pub returns-then-not-is_empty : goal.returns-then-not-is_empty
returns-then-not-is_empty c = padded_copied 32 c.min-len.result c.args.values.now c.copy_from_slice.new.self c.min-len.ensures c.copy_from_slice.ensures.after
