use Rattle.std.proofs.Common.{◌≡◌, ◌+◌, ◌-◌}
use Rattle.lines.proofs.moves.reverse_within.Given as goal
use Rattle.lines.specs.Moves.{reversed}
use Rattle.lines.specs.Slots.{slots, spares}

-- to reverse what is left in the middle gives what the whole reversal gives
abbrev pub invariant-loop-i : goal.invariant-loop-i
invariant-loop-i l =
    (reversed (l.lo + l.i) (l.hi - l.i) (slots l.dir) ≡ reversed l.lo l.hi (slots l.initial.dir))
    × (spares l.dir ≡ spares l.initial.dir)
