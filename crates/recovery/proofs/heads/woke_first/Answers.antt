use Rattle.std.proofs.Common.{refl, ap}
use Rattle.memory.specs.declared.phase.Phase.TheVariants.{WakeSecond}
use Rattle.protocol.specs.Acts.{ActTold}
use Rattle.commits.specs.Setters.{in_phase, with_tapes}
use Rattle.recovery.specs.Wake.{woke_first, with_generation}
use Rattle.recovery.proofs.heads.woke_first.Goals as goal

pub returns : goal.returns
unfolding woke_first ActTold
returns c =
    let r = c.args.registers.now in
    λ m out. record {
      registers = ap (λ g. in_phase WakeSecond (with_tapes (with_generation g r.tapes) r)) c.head_generation.ensures;
      memory = refl;
      act = (c.read.ensures, refl);
    }
