use Rattle.std.proofs.Common.{◌∙◌, drop, arith}
use Rattle.std.proofs.lemmas.List.{drop_all, length-drop, take_all}
use Rattle.serial.proofs.Rows.{drop_before, value_long}
use Rattle.serial.proofs.row.spell.Goals as goal

pub returns : goal.returns
returns c =
    let value = c.write_digits-space in
    let key = c.write_digits-start in
    let line = drop_before c.args.room.now 17 10 (omega arith) (omega arith) in
    let end = drop_all 17 c.args.room.now (omega arith) in
    let space = drop_before value.new.buf value.result 32 (omega (arith, value_long)) (omega arith) in
    take_all _ (drop key.result key.new.buf) (omega (arith, length-drop key.result key.new.buf)) ∙ cc
