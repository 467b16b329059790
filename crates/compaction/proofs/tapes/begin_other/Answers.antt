use Rattle.std.proofs.Common.{refl, ap}
use Rattle.memory.specs.declared.phase.Phase.TheVariants.{CompactBegun}
use Rattle.protocol.specs.declared.Told.TheVariants.{Begin}
use Rattle.protocol.specs.Acts.{ActTold}
use Rattle.commits.specs.Setters.{carrying, in_phase, with_tapes, with_carrying}
use Rattle.compaction.specs.Carry.{begin_other, beginning}
use Rattle.compaction.proofs.tapes.begin_other.Goals as goal

pub returns : goal.returns
unfolding begin_other ActTold
returns c =
    let r = c.args.registers.now in
    let zero = c.default.ensures in
    λ m out. record {
      registers = λ i. in_phase CompactBegun (with_carrying (carrying (zero.0 i) (zero.1.0 i) (zero.1.1.0 i) (zero.1.1.1.0 i) c.args.quota c.args.waking) (with_tapes (beginning r.tapes) r));
      memory = refl;
      act = (ap Begin c.passive.ensures, refl);
    }
