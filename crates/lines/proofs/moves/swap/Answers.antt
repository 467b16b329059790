use Rattle.lines.proofs.Packing.{get_or-whole}
use Rattle.lines.proofs.moves.swap.Goals as goal
use Rattle.lines.specs.Moves.{swapped}
use Rattle.std.proofs.Common.{rules}

-- what is read is an entry, so what is written is all of it
pub returns : goal.returns
unfolding swapped
returns c = search (rules, get_or-whole)
