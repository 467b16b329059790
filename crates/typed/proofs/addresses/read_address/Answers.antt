use Rattle.std.proofs.Common.{arith}
use Rattle.typed.proofs.Shorter.{left_base}
use Rattle.typed.proofs.addresses.read_address.Goals as goal

pub offsets-requires : goal.offsets-requires
offsets-requires c = omega (arith, left_base _ c.args.cs.now _ c.in_ok-place.ensures)
