use Rattle.plain.proofs.Weights.{put_weight}
use Rattle.plain.proofs.put_weight.Goals as goal

pub returns : goal.returns
returns c = put_weight
