use Rattle.std.proofs.Common.{◌∙◌}
use Rattle.orders.proofs.Beside.{keys_few}
use Rattle.interpreter.proofs.Turns.{all_fit_more}
use Rattle.interpreter.proofs.Zeros.{from_registers}
use Rattle.interpreter.proofs.run_in.Goals as goal

pub execute-came-requires : goal.execute-came-requires
execute-came-requires c = all_fit_more _ 16 c.code.result.now (keys_few c.args.order.now.writes) c.code.ensures.fit

pub returns-in-Some : goal.returns-in-Some
returns-in-Some c vs is =
    from_registers c.args.order.now c.read_set.result.now c.write_set.result.now c.code.result.now c.args.registers.now _ _ vs is c.read_set.ensures c.write_set.ensures
    c.new-place.ensures.registers c.new-place.ensures.written c.code.ensures.is
    ∙ c.in-Some.ensures

pub returns-in-None : goal.returns-in-None
returns-in-None c vs is =
    from_registers c.args.order.now c.read_set.result.now c.write_set.result.now c.code.result.now c.args.registers.now _ _ vs is c.read_set.ensures c.write_set.ensures
    c.new-place.ensures.registers c.new-place.ensures.written c.code.ensures.is
    ∙ c.in-None.ensures
