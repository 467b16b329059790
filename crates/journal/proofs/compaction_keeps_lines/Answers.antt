use Rattle.journal.proofs.Laws.{compaction_keeps_lines}
use Rattle.journal.proofs.compaction_keeps_lines.Goals as goal

pub returns : goal.returns
returns c = compaction_keeps_lines
