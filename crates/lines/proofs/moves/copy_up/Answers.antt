use Rattle.lines.proofs.Copies.{copied-up, copied-up_none}
use Rattle.lines.proofs.Packing.{get_or-whole, length-slots}
use Rattle.lines.proofs.moves.copy_up.Goals as goal
use Rattle.std.proofs.Common.{rules}

pub loop-i-init : goal.loop-i-init
loop-i-init c = search (rules, copied-up_none)

pub overflow_add-from : goal.overflow_add-from
overflow_add-from c = search (rules, length-slots)

pub overflow_add-to : goal.overflow_add-to
overflow_add-to c = search (rules, length-slots)

pub loop-i-preserved : goal.loop-i-preserved
loop-i-preserved c = search (rules, copied-up, get_or-whole)
