use Rattle.shard.proofs.Handing.{handed_back}
use Rattle.shard.proofs.house.House.look.Goals as goal

pub returns : goal.returns
returns c = handed_back c.look_in_place-came.new.self c.look_in_place-came.result c.hand_back.result _ _ _ c.hand_back.ensures c.look_in_place-came.ensures (λ v a. (a.0, a.1))
