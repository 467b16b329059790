use Rattle.commands.proofs.Planned.{plans_stand}
use Rattle.commands.proofs.laws.plans_stand.Goals as goal

pub returns : goal.returns
returns c = plans_stand
