use Rattle.commits.specs.Putting.{put_next}
use Rattle.commits.proofs.putting.put_next.Goals as goal

pub returns-then-registers : goal.returns-then-registers
unfolding put_next
returns-then-registers c = simp c.if-registers.true c.put_piece.ensures

pub returns-else-registers : goal.returns-else-registers
unfolding put_next
returns-else-registers c = simp c.if-registers.false c.put_commit.ensures
