use Rattle.std.proofs.Common.{vec_items}
use Rattle.orders.specs.Contents.{contents_of}
use Rattle.line.specs.Serial.{values_in}
use Rattle.line.proofs.Applied.{one_formed, one_malformed}
use Rattle.line.proofs.serial.Progress.step.Goals as goal

pub returns-in-Ok-clause-does : goal.returns-in-Ok-clause-does
returns-in-Ok-clause-does c =
    one_formed c.args.order.now (values_in c.args.self.now.store) c.args.self.now.done (vec_items c.args.self.now.malformed)
    (values_in c.apply.new.self) (contents_of c.decode_into.new.self) c.in-Ok.ensures.finds c.apply.ensures.leaves

pub returns-in-Err-clause-does : goal.returns-in-Err-clause-does
returns-in-Err-clause-does c =
    one_malformed c.args.order.now (values_in c.args.self.now.store) c.args.self.now.done (vec_items c.args.self.now.malformed)
    c.args.place (vec_items c.push_reserved.new.self) c.in-Err.ensures.finds c.requires.0 c.push_reserved.ensures.items
