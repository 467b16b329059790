use Rattle.std.proofs.Common.{length}
use Rattle.typed.proofs.Steps.{Sofar}
use Rattle.typed.proofs.addresses.offsets.Given as goal

abbrev pub invariant-loop-rest : goal.invariant-loop-rest
invariant-loop-rest l = Sofar l.place l.cs l.on l.back l.rest

abbrev pub decreases-loop-rest : goal.decreases-loop-rest
decreases-loop-rest l = length l.rest
