use Rattle.records.proofs.Laws.{recopied_right}
use Rattle.records.proofs.recopied_right.Goals as goal

pub returns : goal.returns
returns c = recopied_right
