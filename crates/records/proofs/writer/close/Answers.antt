use Rattle.std.proofs.Common.{◌-◌, length, map, replicate, ap, ◌∙◌, arith}
use lib.ListN.{length-map}
use Rattle.records.proofs.Writing.{closed_is, rest_long}
use Rattle.records.proofs.writer.close.Goals as goal

pub returns : goal.returns
returns g c =
    let n = length c.args.cells.now in
    let e = length c.args.out.now - 1 in
    c.seal.ensures
    ∙ closed_is (map g.B.LowByte.low c.args.cells.now) c.lay.new.out c.args.out.now c.fill.new.self n e (length-map _ _) c.lay.ensures (omega arith) (omega arith)
    (c.fill.ensures.after (λ y h. h) ∙ ap (λ m. replicate m 0) (rest_long n e c.lay.new.out c.args.out.now (ap length c.lay.ensures ∙ length-map _ _) (omega arith)))
