use Rattle.std.proofs.Common.{get_or, set, ap, ◌∙◌, arith}
use Rattle.records.proofs.Writing.{laid}
use Rattle.records.proofs.writer.lay.Goals as goal

pub loop-i-preserved : goal.loop-i-preserved
loop-i-preserved g c =
    let i = c.loop-i.i in
    ap (λ v. set c.loop-i.out i v) (c.low.ensures ∙ ap g.B.LowByte.low c.index-cells-i.is) ∙ ap (λ s. set s i (g.B.LowByte.low (get_or c.args.cells.now i c.index-cells-i.result))) c.loop-i.invariant
    ∙ laid g.B.LowByte.low c.args.cells.now c.args.out.now i c.index-cells-i.result c.loop-i-test.true (omega arith)
