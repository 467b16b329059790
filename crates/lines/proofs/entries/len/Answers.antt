use Rattle.lines.proofs.Packing.{length-slots}
use Rattle.lines.proofs.entries.len.Goals as goal
use Rattle.std.proofs.Common.{rules}

pub returns : goal.returns
returns c = search (rules, length-slots)
