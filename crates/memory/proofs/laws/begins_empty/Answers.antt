use Rattle.memory.specs.Laws.{BeginsEmpty}
use Rattle.memory.proofs.Houses.{house-zeros}
use Rattle.memory.proofs.laws.begins_empty.Goals as goal

pub returns : goal.returns
unfolding BeginsEmpty
returns c = house-zeros
