use Rattle.lines.proofs.Splices.{before_is, behind_is}
use Rattle.lines.proofs.moves.duplicate.Goals as goal
use Rattle.lines.proofs.moves.duplicate.Goals.{then-y-cut, else-y-cut+then-cut-x+then-y-cut-2}
use Rattle.lines.proofs.Packing.{length-slots}
use Rattle.std.proofs.Common.{rules}

pub copy_within-requires : goal.copy_within-requires
copy_within-requires c = elim c.if-y-cut.branch [
  | then-y-cut w ↦ search (rules, length-slots)
  | else-y-cut+then-cut-x+then-y-cut-2 w ↦ search (rules, length-slots)
]

pub returns-clause-done : goal.returns-clause-done
returns-clause-done c = elim c.if-y-cut.branch [
  | then-y-cut w ↦ search (rules, before_is)
  | else-y-cut+then-cut-x+then-y-cut-2 w ↦ search (rules, behind_is)
]
