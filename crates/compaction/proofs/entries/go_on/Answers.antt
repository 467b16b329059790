use Rattle.compaction.specs.Carry.{go_on}
use Rattle.compaction.proofs.entries.go_on.Goals as goal

pub returns-then-registers : goal.returns-then-registers
unfolding go_on
returns-then-registers c = simp c.if-registers.true (c.end_done.ensures c.args.memory.now c.args.out.now)

pub returns-else-registers : goal.returns-else-registers
unfolding go_on
returns-else-registers c = simp c.if-registers.false c.start_pass.ensures
