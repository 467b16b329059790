use Rattle.plain.proofs.Undo.{marks_stay}
use Rattle.plain.proofs.marks_stay.Goals as goal

pub returns : goal.returns
returns c = marks_stay
