use Rattle.std.proofs.Common.{◌≡◌, ◌*◌, ◌≤◌}
use Rattle.plain.specs.Pattern.{added_up}
use Rattle.commands.specs.Smalls.{entry_size}
use Rattle.memory.specs.Abstract.{files_of}
use Rattle.memory.proofs.small.file_weight.Given as goal

abbrev pub invariant-loop-i : goal.invariant-loop-i
invariant-loop-i l = (l.weight ≡ added_up entry_size (files_of l.i l.memory)) × (l.weight ≤ 4294967487 * l.i)
