use Rattle.std.proofs.Common.{arith}
use Rattle.memory.proofs.Texting.{laid_none, laid_one}
use Rattle.memory.proofs.text.lay_low.Goals as goal

pub loop-i-init : goal.loop-i-init
loop-i-init c = laid_none c.args.bytes.now c.args.cells.now

pub loop-i-preserved : goal.loop-i-preserved
loop-i-preserved c = laid_one c.args.bytes.now c.args.cells.now c.loop-i.cells c.loop-i.i c.loop-i-test.true (omega arith) c.loop-i.invariant
