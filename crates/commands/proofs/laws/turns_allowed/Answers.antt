use Rattle.commands.proofs.Granted.{turns_allowed}
use Rattle.commands.proofs.laws.turns_allowed.Goals as goal

pub returns : goal.returns
returns c = turns_allowed
