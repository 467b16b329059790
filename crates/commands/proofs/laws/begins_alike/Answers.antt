use Rattle.commands.proofs.Granted.{begins_alike}
use Rattle.commands.proofs.laws.begins_alike.Goals as goal

pub returns : goal.returns
returns c = begins_alike
