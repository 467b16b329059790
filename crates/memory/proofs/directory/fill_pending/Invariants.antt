use Rattle.std.proofs.Common.{◌≡◌}
use Rattle.memory.specs.Sections.{pending_filled}
use Rattle.memory.proofs.directory.fill_pending.Given as goal

abbrev pub invariant-loop-i : goal.invariant-loop-i
invariant-loop-i l = l.memory ≡ pending_filled l.p l.i l.initial.memory
