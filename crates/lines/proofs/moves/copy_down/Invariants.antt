use Rattle.lines.proofs.moves.copy_down.Given as goal
use Rattle.lines.specs.Moves.{copied}
use Rattle.lines.specs.Slots.{slots, spares}
use Rattle.std.proofs.Common.{◌≡◌}

abbrev pub invariant-loop-i : goal.invariant-loop-i
invariant-loop-i l = (slots l.dir ≡ copied l.from l.i l.to (slots l.initial.dir)) × (spares l.dir ≡ spares l.initial.dir)
