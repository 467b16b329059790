use Rattle.std.proofs.Common.{refl}
use Rattle.protocol.specs.Acts.{ActTold}
use Rattle.commits.specs.Putting.{after_commit}
use Rattle.commits.proofs.putting.after_commit.Goals as goal

pub returns-then-registers : goal.returns-then-registers
unfolding after_commit
returns-then-registers c = simp c.if-registers.true c.finish.ensures

pub returns : goal.returns
unfolding after_commit ActTold
returns c = simp c.if-registers.false record { registers = refl; memory = refl; act = (refl, refl) }
