use Rattle.plain.proofs.Fair.{stays_fair}
use Rattle.plain.proofs.stays_fair.Goals as goal

pub returns : goal.returns
returns c = stays_fair
