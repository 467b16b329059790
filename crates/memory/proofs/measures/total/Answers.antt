use Rattle.std.proofs.Common.{◌≡◌, ◌+◌, ◌-◌, ◌*◌, ap, mul-add, arith}
use Rattle.memory.specs.Abstract.{text_of}
use Rattle.memory.proofs.Texting.{text-long}
use Rattle.memory.proofs.Counting.{summed-on, summed-place}
use Rattle.memory.proofs.measures.total.Goals as goal

pub line_end-end-requires : goal.line_end-end-requires
line_end-end-requires g c =
    let m = g.M.Measure in
    let t = text_of c.args.len c.args.memory.now in
    let l = text-long c.args.len c.args.memory.now c.requires.0 c.requires.1 in
    (c.requires.0, (summed-place m.size m.most c.args.lines t c.args.len c.loop-more.sum c.loop-more.at c.loop-more.more l c.loop-more-test.true c.loop-more.invariant, c.requires.1))

pub loop-more-preserved : goal.loop-more-preserved
loop-more-preserved g c =
    let m = g.M.Measure in
    let t = text_of c.args.len c.args.memory.now in
    let l = text-long c.args.len c.args.memory.now c.requires.0 c.requires.1 in
    summed-on m.size m.most c.args.lines t g.met.M.Measure.bound c.args.len c.loop-more.sum c.loop-more.at c.line_end-end.result c.of-sum.result
    c.loop-more.more l c.loop-more-test.true c.loop-more.invariant c.line_end-end.ensures.end c.of-sum.ensures

pub returns-clause-few : goal.returns-clause-few
returns-clause-few g c =
    let most = g.M.Measure.most in
    let at = c.loop-more.at in
    let l = text-long c.args.len c.args.memory.now c.requires.0 c.requires.1 in
    let e : at + (65537 - at) ≡ 65537 = omega (arith, c.loop-more.invariant.within, l, c.requires.1) in
    let k = ap (λ n. most * n) e in
    let d = mul-add most at (65537 - at) in
    omega (arith, c.loop-more.invariant.few)
