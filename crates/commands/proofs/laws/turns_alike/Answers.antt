use Rattle.commands.proofs.Turned.{turns_alike}
use Rattle.commands.proofs.laws.turns_alike.Goals as goal

pub returns : goal.returns
returns c = turns_alike
