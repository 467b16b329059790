use Rattle.records.proofs.Laws.{line-packed}
use Rattle.records.proofs.line_packed.Goals as goal

pub returns : goal.returns
returns c = line-packed
