use Rattle.std.proofs.Common.{◌≡◌, take}
use Rattle.memory.specs.Sections.{laid_low}
use Rattle.memory.proofs.text.lay_low.Given as goal

abbrev pub invariant-loop-i : goal.invariant-loop-i
invariant-loop-i l = l.cells ≡ laid_low (take l.i l.bytes) l.initial.cells
