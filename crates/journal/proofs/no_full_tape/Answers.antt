use Rattle.journal.proofs.Laws.{no_full_tape}
use Rattle.journal.proofs.no_full_tape.Goals as goal

pub returns : goal.returns
returns c = no_full_tape
