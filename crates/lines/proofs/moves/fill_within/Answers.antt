use Rattle.lines.proofs.Packing.{length-slots}
use Rattle.lines.proofs.Splices.{filled_none, filled_more}
use Rattle.lines.proofs.moves.fill_within.Goals as goal
use Rattle.std.proofs.Common.{rules}

pub overflow_add-p : goal.overflow_add-p
overflow_add-p c = search (rules, length-slots)

pub loop-i-init : goal.loop-i-init
loop-i-init c = search (rules, filled_none)

pub loop-i-preserved : goal.loop-i-preserved
loop-i-preserved c = search (rules, filled_more)
