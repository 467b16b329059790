use Rattle.plain.proofs.Weights.{zero_differs}
use Rattle.plain.proofs.zero_differs.Goals as goal

pub returns : goal.returns
returns c = zero_differs
