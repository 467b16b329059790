use Rattle.plain.proofs.Stops.{fastened_stays}
use Rattle.plain.proofs.fastened_stays.Goals as goal

pub returns : goal.returns
returns c = fastened_stays
