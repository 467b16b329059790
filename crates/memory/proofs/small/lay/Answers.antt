use Rattle.memory.proofs.Filing.{laid_more}
use Rattle.memory.proofs.small.lay.Goals as goal

pub loop-i-preserved : goal.loop-i-preserved
loop-i-preserved c = laid_more c.args.bytes.now c.args.section.now c.loop-i.section c.loop-i.i c.loop-i-test.true c.requires c.loop-i.invariant
