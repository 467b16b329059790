use Rattle.std.proofs.Common.{refl, arith}
use Rattle.memory.proofs.Splicing.{fill_none, fill_one}
use Rattle.memory.proofs.directory.fill_pending.Goals as goal

pub loop-i-init : goal.loop-i-init
loop-i-init c = fill_none c.args.p c.args.memory.now c.requires.0 (omega arith)

pub loop-i-preserved : goal.loop-i-preserved
loop-i-preserved c =
    fill_one c.args.p c.loop-i.i _ c.args.memory.now c.loop-i.memory c.set.new.dir c.requires.0 (omega arith) (omega arith) c.loop-i.invariant refl
    c.set.ensures.entries c.set.ensures.spare
