use Rattle.journal.proofs.Laws.{torn_tail_unseen}
use Rattle.journal.proofs.torn_tail_unseen.Goals as goal

pub returns : goal.returns
returns c = torn_tail_unseen
