use Rattle.std.proofs.Common.{◌≡◌, length}
use Rattle.plain.specs.House.{short_all}
use Rattle.typed.specs.Meaning.{lines_in}
use Rattle.typed.proofs.given.Lines.all_short.Given as goal

abbrev pub invariant-loop-line : goal.invariant-loop-line
invariant-loop-line l = short_all (lines_in l.self) ≡ short_all (lines_in l.lines)

abbrev pub decreases-loop-line : goal.decreases-loop-line
decreases-loop-line l = length (lines_in l.lines)
