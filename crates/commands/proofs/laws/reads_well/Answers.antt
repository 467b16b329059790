use Rattle.commands.proofs.Readings.{reads_well}
use Rattle.commands.proofs.laws.reads_well.Goals as goal

pub returns : goal.returns
returns c = reads_well
