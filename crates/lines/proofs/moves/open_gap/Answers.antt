use Rattle.lines.proofs.moves.open_gap.Goals as goal
use Rattle.lines.proofs.Packing.{length-slots}
use Rattle.std.proofs.Common.{rules}

pub overflow_add-cut : goal.overflow_add-cut
overflow_add-cut c = search (rules, length-slots)
