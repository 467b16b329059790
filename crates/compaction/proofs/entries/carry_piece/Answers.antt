use Rattle.std.proofs.Common.{refl, ap, add-one}
use Rattle.memory.specs.declared.phase.Phase.TheVariants.{CarryPut}
use Rattle.protocol.specs.declared.Told.TheVariants.{Append}
use Rattle.protocol.specs.Acts.{ActTold}
use Rattle.commits.specs.Setters.{carrying, with_other, in_phase, with_tapes, with_carrying}
use Rattle.compaction.specs.Carry.{carry_piece}
use Rattle.compaction.proofs.Paged.{copy-laid}
use Rattle.compaction.proofs.entries.carry_piece.Goals as goal

pub returns : goal.returns
unfolding carry_piece ActTold
returns c =
    let r = c.args.registers.now in
    let long = c.copy_line-long.ensures.long in
    let other = add-one r.tapes.other in
    λ m. record {
      registers = λ i. in_phase CarryPut (with_carrying (carrying r.carrying.index r.carrying.part (long i) r.carrying.start r.carrying.quota r.carrying.waking)
          (with_tapes (with_other (other i) r.tapes) r));
      memory = refl;
      act = (ap Append c.passive.ensures, copy-laid _ _ c.args.read.now c.args.out.now c.copy_line-long.new.out c.copy_line-long.ensures.laid);
    }
