use Rattle.memory.specs.Laws.{LoadsBack}
use Rattle.memory.proofs.Storing.{load_store}
use Rattle.memory.proofs.Houses.{house-stored}
use Rattle.memory.proofs.laws.loads_back.Goals as goal

pub returns : goal.returns
unfolding LoadsBack
returns c = λ r m t. (load_store r m t, house-stored r m t)
