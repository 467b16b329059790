use Rattle.std.proofs.Common.{refl, ap, add-one}
use Rattle.memory.specs.declared.phase.Phase.TheVariants.{SettingUp}
use Rattle.protocol.specs.declared.Told.TheVariants.{Append}
use Rattle.protocol.specs.Acts.{ActTold}
use Rattle.commits.specs.Setters.{with_other, in_phase, with_tapes}
use Rattle.compaction.proofs.tapes.put_other.Goals as goal

pub returns : goal.returns
unfolding ActTold
returns c =
    let r = c.args.registers.now in
    λ m page out. record { registers = ap (λ n. in_phase SettingUp (with_tapes (with_other n r.tapes) r)) (add-one r.tapes.other); memory = refl; act = (ap Append c.passive.ensures, refl) }
