use Rattle.std.proofs.Common.{◌≡◌, ◌++◌, drop}
use Rattle.plain.specs.Pattern.{any}
use Rattle.reader.specs.Front.{can_read, begins}
use Rattle.reader.proofs.failure.begins.Given as goal

-- the endings that are left decide
abbrev pub invariant-loop-ending : goal.invariant-loop-ending
invariant-loop-ending l = begins l.front ≡ any (λ e. can_read (l.front ++ e.now)) (drop l.ending-index l.ending-items)
