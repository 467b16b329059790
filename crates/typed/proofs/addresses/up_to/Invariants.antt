use Rattle.std.proofs.Common.{◌≡◌, ◌-◌, [], length, take, drop}
use Rattle.plain.specs.Command.{up_to}
use Rattle.typed.proofs.addresses.up_to.Given as goal

abbrev pub invariant-loop-i : goal.invariant-loop-i
invariant-loop-i l = up_to l.delimiter [] l.cs ≡ up_to l.delimiter (take l.i l.cs) (drop l.i l.cs)

abbrev pub decreases-loop-i : goal.decreases-loop-i
decreases-loop-i l = length l.cs - l.i
