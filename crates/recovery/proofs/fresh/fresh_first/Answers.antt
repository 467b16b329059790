use Rattle.std.proofs.Common.{refl}
use Rattle.memory.specs.declared.phase.Phase.TheVariants.{FreshHead}
use Rattle.protocol.specs.Acts.{ActTold}
use Rattle.commits.specs.Setters.{in_phase, with_tapes, with_kept}
use Rattle.compaction.proofs.Paged.{head-laid}
use Rattle.recovery.specs.Wake.{fresh_first}
use Rattle.recovery.proofs.fresh.fresh_first.Goals as goal

pub returns : goal.returns
unfolding fresh_first ActTold
returns c =
    let r = c.args.registers.now in
    let tapes = c.one_tape-registers.ensures in
    let kept = c.nothing_kept-registers.ensures in
    λ m. record {
      registers = λ i. in_phase FreshHead (with_kept (kept i) (with_tapes (tapes i) r));
      memory = refl;
      act = (refl, head-laid 1 1 0 c.args.out.now c.encode_head.new.out refl c.encode_head.ensures);
    }
