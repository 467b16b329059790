use Rattle.lines.proofs.moves.fill_within.Given as goal
use Rattle.lines.specs.Moves.{spliced}
use Rattle.lines.specs.Slots.{entry, slots, spares}
use Rattle.std.proofs.Common.{◌≡◌, map, take}

abbrev pub invariant-loop-i : goal.invariant-loop-i
invariant-loop-i l =
    (slots l.dir ≡ spliced l.p l.i (map entry (take l.i l.new)) (slots l.initial.dir)) × (spares l.dir ≡ spares l.initial.dir)
