use Rattle.plain.proofs.Turns.{all_or_none}
use Rattle.plain.proofs.all_or_none.Goals as goal

pub returns : goal.returns
returns c = all_or_none
