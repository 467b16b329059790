use Rattle.std.proofs.Common.{refl}
use Rattle.protocol.specs.Acts.{ActTold}
use Rattle.recovery.specs.Wake.{wake}
use Rattle.recovery.proofs.heads.wake.Goals as goal

pub returns : goal.returns
unfolding wake ActTold
returns c = λ m out. record { registers = c.woken_up.ensures; memory = refl; act = (c.read.ensures, refl) }
