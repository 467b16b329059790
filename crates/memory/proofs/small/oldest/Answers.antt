use Rattle.memory.proofs.Weighing.{oldest_none, oldest_first}
use Rattle.memory.proofs.small.oldest.Goals as goal

pub returns-then-ring : goal.returns-then-ring
returns-then-ring c = oldest_none c.args.ring c.args.memory.now c.requires.0 c.if-ring.true

pub returns-else-ring : goal.returns-else-ring
returns-else-ring c = oldest_first c.args.ring c.args.memory.now c.requires.0 c.requires.1 c.if-ring.false
