use Rattle.std.proofs.Common.{◌≡◌, ◌++◌, map, take, drop}
use Rattle.memory.specs.Sections.{low}
use Rattle.memory.proofs.small.lay.Given as goal

abbrev pub invariant-loop-i : goal.invariant-loop-i
invariant-loop-i l = l.section ≡ map low (take l.i l.bytes) ++ drop l.i l.initial.section
