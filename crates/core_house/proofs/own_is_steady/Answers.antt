use Rattle.core_house.proofs.Right.{own_steady}
use Rattle.core_house.proofs.own_is_steady.Goals as goal

pub returns : goal.returns
returns c = own_steady
