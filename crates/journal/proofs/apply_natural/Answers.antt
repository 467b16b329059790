use Rattle.journal.proofs.Laws.{apply_is_natural}
use Rattle.journal.proofs.apply_natural.Goals as goal

pub returns : goal.returns
returns c = apply_is_natural
