use Rattle.std.proofs.Common.{refl}
use Rattle.protocol.specs.Acts.{ActTold}
use Rattle.recovery.specs.Wake.{fresh_next}
use Rattle.recovery.proofs.fresh.fresh_next.Goals as goal

pub returns : goal.returns
unfolding fresh_next ActTold
returns c = λ m out. record { registers = refl; memory = refl; act = (refl, refl) }
