use Rattle.records.proofs.Laws.{page_is_back}
use Rattle.records.proofs.page_back.Goals as goal

pub returns : goal.returns
returns c = page_is_back
