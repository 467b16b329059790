use Rattle.commands.proofs.Texts.{weighs_alike}
use Rattle.commands.proofs.laws.weighs_alike.Goals as goal

pub returns : goal.returns
returns c = weighs_alike
