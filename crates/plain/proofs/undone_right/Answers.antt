use Rattle.plain.proofs.Undo.{undone_right}
use Rattle.plain.proofs.undone_right.Goals as goal

pub returns : goal.returns
returns c = undone_right
