use Rattle.journal.proofs.Laws.{stop_keeps_state}
use Rattle.journal.proofs.stop_keeps_state.Goals as goal

pub returns : goal.returns
returns c = stop_keeps_state
