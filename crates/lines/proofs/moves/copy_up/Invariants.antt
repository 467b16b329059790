use Rattle.std.proofs.Common.{◌≡◌, ◌+◌, ◌-◌, ◌≤◌}
use Rattle.lines.proofs.moves.copy_up.Given as goal
use Rattle.lines.specs.Moves.{copied}
use Rattle.lines.specs.Slots.{slots, spares}

-- the entries from `i` on are copied
abbrev pub invariant-loop-i : goal.invariant-loop-i
invariant-loop-i l =
    (l.i ≤ l.n)
    × (slots l.dir ≡ copied (l.from + l.i) (l.n - l.i) (l.to + l.i) (slots l.initial.dir))
    × (spares l.dir ≡ spares l.initial.dir)
