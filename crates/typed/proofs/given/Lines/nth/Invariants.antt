use Rattle.std.proofs.Common.{◌≡◌, drop}
use Rattle.typed.specs.Meaning.{lines_in}
use Rattle.typed.proofs.given.Lines.nth.Given as goal

abbrev pub invariant-loop : goal.invariant-loop
invariant-loop l = drop l.counter (lines_in l.fn.self) ≡ lines_in l.lines
