use Rattle.commands.proofs.Planned.{smalls_weigh}
use Rattle.commands.proofs.laws.smalls_weigh.Goals as goal

pub returns : goal.returns
returns c = smalls_weigh
