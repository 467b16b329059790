use Rattle.std.proofs.Common.{refl}
use Rattle.protocol.specs.Acts.{ActTold}
use Rattle.commits.proofs.rows.end_done.Goals as goal

pub returns : goal.returns
unfolding ActTold
returns c = λ m out. record { registers = refl; memory = refl; act = (refl, refl) }
