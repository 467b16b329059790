use Rattle.std.proofs.Common.{arith}
use Rattle.typed.proofs.Texts.{count-newline, count-byte, count-end}
use Rattle.typed.proofs.given.lines_of.Goals as goal
use Rattle.typed.proofs.given.lines_of.Goals.{then-b-eq10, else-b-eq10}

pub loop-b-preserved : goal.loop-b-preserved
loop-b-preserved c =
    let i = c.loop-b.b-index in
    let cs = c.args.text.now in
    elim c.if-b-eq10.branch [
      | then-b-eq10 w ↦ (omega (arith, count-newline i cs c.loop-b-test.true w.if-b-eq10.true), omega arith)
      | else-b-eq10 w ↦ (omega (arith, count-byte i cs c.loop-b-test.true w.if-b-eq10.false), omega arith)
    ]

pub returns : goal.returns
returns c = omega (arith, count-end c.loop-b.b-index c.args.text.now c.loop-b-test.false)
