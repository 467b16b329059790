use Rattle.std.proofs.Common.{◌≡◌, ◌++◌, map, take, drop}
use Rattle.records.proofs.writer.lay.Given as goal

abbrev pub invariant-loop-i : goal.invariant-loop-i
invariant-loop-i g l = l.out ≡ map g.B.LowByte.low (take l.i l.cells) ++ drop l.i l.initial.out
