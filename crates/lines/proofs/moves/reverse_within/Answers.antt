use Rattle.lines.proofs.Turned.{reversed_inner, reversed-done}
use Rattle.lines.proofs.Packing.{length-slots}
use Rattle.lines.proofs.moves.reverse_within.Goals as goal
use Rattle.std.proofs.Common.{rules}

pub loop-i-preserved : goal.loop-i-preserved
loop-i-preserved c = search (rules, length-slots, reversed_inner)

pub returns-clause-entries : goal.returns-clause-entries
returns-clause-entries c = search (rules, length-slots, reversed-done)
