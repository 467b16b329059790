use Rattle.lines.proofs.Turned.{rotated_is}
use Rattle.lines.proofs.Packing.{length-slots}
use Rattle.lines.proofs.moves.rotate.Goals as goal
use Rattle.std.proofs.Common.{rules}

pub reverse_within-requires-then-hi-len : goal.reverse_within-requires-then-hi-len
reverse_within-requires-then-hi-len c = search (rules, length-slots)

pub reverse_within-requires-then-hi-len-2 : goal.reverse_within-requires-then-hi-len-2
reverse_within-requires-then-hi-len-2 c = search (rules, length-slots)

pub returns-then-hi-len : goal.returns-then-hi-len
returns-then-hi-len c = search (rules, rotated_is)
