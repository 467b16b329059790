use Rattle.std.proofs.Common.{◌≡◌, ◌+◌, ◌-◌, ◌*◌, ◌++◌, take, drop, ap, ◌∙◌, arith}
use borrow.Rule.Slice.PartMut.{put_mid}
use Rattle.records.specs.Pages.{fours}
use Rattle.records.proofs.Writing.{fours_next}
use Rattle.records.proofs.writer.put_numbers.Goals as goal

pub loop-i-preserved : goal.loop-i-preserved
loop-i-preserved c =
    let k : 4 * c.loop-i.i + 4 - 4 * c.loop-i.i ≡ 4 = omega arith in
    ap (λ n. put_mid (4 * c.loop-i.i) n c.loop-i.out c.copy_from_slice.new.self) k
    ∙ ap (λ t. put_mid (4 * c.loop-i.i) 4 t c.copy_from_slice.new.self) c.loop-i.invariant
    ∙ ap (λ t. put_mid (4 * c.loop-i.i) 4 (fours (take c.loop-i.i c.args.numbers.now) ++ drop (4 * c.loop-i.i) c.args.out.now) t) (c.copy_from_slice.ensures.after ∙ c.to_be_bytes.ensures)
    ∙ fours_next c.args.numbers.now c.args.out.now c.loop-i.i (4 * (c.loop-i.i + 1)) c.loop-i-test.true (omega arith)
