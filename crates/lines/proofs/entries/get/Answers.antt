use Rattle.lines.proofs.Packing.{get_or-slots, length-slots}
use Rattle.lines.proofs.entries.get.Goals as goal
use Rattle.std.proofs.lemmas.List.{get_or_past}
use Rattle.std.proofs.Common.{rules}

pub returns-then-w-dir : goal.returns-then-w-dir
returns-then-w-dir c = search (rules, get_or-slots)

pub returns-else-w-dir : goal.returns-else-w-dir
returns-else-w-dir c = search (rules, get_or_past, length-slots)
