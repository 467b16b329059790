use Rattle.std.proofs.Common.{◌≡◌, ◌*◌, ◌≤◌, drop}
use Rattle.commands.specs.Plan.{look_up}
use Rattle.memory.specs.Abstract.{files_of}
use Rattle.memory.proofs.small.find_file.Given as goal

abbrev pub invariant-loop-i : goal.invariant-loop-i
invariant-loop-i l =
    (look_up l.name l.i l.before (drop l.i (files_of l.files l.memory)) ≡ look_up l.name 0 0 (files_of l.files l.memory))
    × (l.before ≤ 4294967295 * l.i)
