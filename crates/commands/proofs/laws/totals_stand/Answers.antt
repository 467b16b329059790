use Rattle.commands.proofs.Totals.{totals_stand}
use Rattle.commands.proofs.laws.totals_stand.Goals as goal

pub returns : goal.returns
returns c = totals_stand
