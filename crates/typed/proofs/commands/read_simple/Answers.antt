use Rattle.std.proofs.Common.{arith}
use Rattle.typed.proofs.Ranges.{left_range}
use Rattle.typed.proofs.commands.read_simple.Goals as goal

pub read_deed-requires : goal.read_deed-requires
read_deed-requires c = omega (arith, left_range _ c.args.cs.now _ c.in_ok-range.ensures)
