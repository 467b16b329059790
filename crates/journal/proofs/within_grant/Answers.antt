use Rattle.journal.proofs.Laws.{within-grant}
use Rattle.journal.proofs.within_grant.Goals as goal

pub returns : goal.returns
returns c = within-grant
