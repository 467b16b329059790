use Rattle.house.proofs.Right.{own_steady}
use Rattle.house.proofs.own_is_steady.Goals as goal

pub returns : goal.returns
returns c = own_steady
