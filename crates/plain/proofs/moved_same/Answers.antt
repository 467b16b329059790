use Rattle.plain.proofs.Moved.{moved_same}
use Rattle.plain.proofs.moved_same.Goals as goal

pub returns : goal.returns
returns c = moved_same
