use Rattle.lines.proofs.Packing.{slots-stored, spares-stored, length-slots}
use Rattle.lines.proofs.entries.set.Goals as goal
use Rattle.std.proofs.lemmas.List.{set_past}
use Rattle.std.proofs.Common.{rules}

pub returns-then-w-dir : goal.returns-then-w-dir
returns-then-w-dir c = search (rules, slots-stored, spares-stored)

pub returns-else-w-dir : goal.returns-else-w-dir
returns-else-w-dir c = search (rules, set_past, length-slots)
