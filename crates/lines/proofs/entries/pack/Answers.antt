use Rattle.lines.proofs.Packing.{masked, pack_add}
use Rattle.lines.proofs.entries.pack.Goals as goal
use Rattle.std.proofs.Common.{rules}

pub overflow_add-result : goal.overflow_add-result
overflow_add-result c = search (rules, pack_add, masked)

pub returns : goal.returns
returns c = search (rules, pack_add, masked)
