use Rattle.records.proofs.Laws.{torn_is_broken}
use Rattle.records.proofs.torn_broken.Goals as goal

pub returns : goal.returns
returns c = torn_is_broken
