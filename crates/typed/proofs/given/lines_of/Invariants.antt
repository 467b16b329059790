use Rattle.std.proofs.Common.{◌≡◌, ◌+◌, ◌≤◌, [], length, drop}
use Rattle.plain.specs.Command.{lines_of}
use Rattle.typed.proofs.given.lines_of.Given as goal

abbrev pub invariant-loop-b : goal.invariant-loop-b
invariant-loop-b l = (length (lines_of [] l.text) + 1 ≡ l.n + length (lines_of [] (drop l.b-index l.text))) × (l.n ≤ l.b-index + 1)
