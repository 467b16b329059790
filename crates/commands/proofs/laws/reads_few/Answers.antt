use Rattle.commands.proofs.Readings.{reads_few}
use Rattle.commands.proofs.laws.reads_few.Goals as goal

pub returns : goal.returns
returns c = reads_few
