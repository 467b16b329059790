use Rattle.std.proofs.Common.{◌≡◌, ◌*◌, ◌≤◌}
use Rattle.plain.specs.Pattern.{added_up}
use Rattle.memory.specs.Abstract.{files_of}
use Rattle.memory.proofs.small.file_lines.Given as goal

abbrev pub invariant-loop-i : goal.invariant-loop-i
invariant-loop-i l = (l.lines ≡ added_up (λ e. e.lines) (files_of l.i l.memory)) × (l.lines ≤ 4294967295 * l.i)
