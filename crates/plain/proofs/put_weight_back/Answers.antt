use Rattle.plain.proofs.Weights.{put_weight-back}
use Rattle.plain.proofs.put_weight_back.Goals as goal

pub returns : goal.returns
returns c = put_weight-back
