use Rattle.plain.proofs.Turns.{shown_same}
use Rattle.plain.proofs.shown_same.Goals as goal

pub returns : goal.returns
returns c = shown_same
