use Rattle.commits.specs.Putting.{after_fast}
use Rattle.commits.proofs.putting.after_fast.Goals as goal

pub returns-then-registers : goal.returns-then-registers
unfolding after_fast
returns-then-registers c = simp c.if-registers.true c.start_pass.ensures

pub returns-else-registers : goal.returns-else-registers
unfolding after_fast
returns-else-registers c = simp c.if-registers.false c.finish.ensures
