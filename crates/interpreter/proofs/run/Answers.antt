use Rattle.orders.proofs.Beside.{keys_few}
use Rattle.interpreter.proofs.Turns.{all_fit_more}
use Rattle.interpreter.proofs.run.Goals as goal

pub execute-requires : goal.execute-requires
execute-requires c = all_fit_more _ 16 c.code.result.now (keys_few c.args.order.now.writes) c.code.ensures.fit
