use Rattle.core_house.proofs.Right.{own_right}
use Rattle.core_house.proofs.own_is_right.Goals as goal

pub returns : goal.returns
returns c = own_right
