use Rattle.plain.proofs.Fair.{stays_numbered}
use Rattle.plain.proofs.stays_numbered.Goals as goal

pub returns : goal.returns
returns c = stays_numbered
