use Rattle.std.proofs.Common.{length}
use Rattle.typed.proofs.Digits.{Sofar}
use Rattle.typed.proofs.addresses.number.Given as goal

abbrev pub invariant-loop-rest : goal.invariant-loop-rest
invariant-loop-rest l = Sofar l.cs l.value l.count l.rest

abbrev pub decreases-loop-rest : goal.decreases-loop-rest
decreases-loop-rest l = length l.rest
