use Rattle.std.proofs.Common.{refl}
use Rattle.protocol.specs.Acts.{ActTold}
use Rattle.compaction.specs.Carry.{begin_old}
use Rattle.compaction.proofs.tapes.begin_old.Goals as goal

pub returns : goal.returns
unfolding begin_old ActTold
returns c = λ m out. record { registers = refl; memory = refl; act = (refl, refl) }
