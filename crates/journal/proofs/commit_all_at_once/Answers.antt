use Rattle.journal.proofs.Laws.{commit_all_at_once}
use Rattle.journal.proofs.commit_all_at_once.Goals as goal

pub returns : goal.returns
returns c = commit_all_at_once
