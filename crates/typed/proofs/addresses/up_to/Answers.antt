use Rattle.std.proofs.Common.{◌≡◌, ◌+◌, ◌-◌, take, sym, ◌∙◌, arith}
use Rattle.std.proofs.lemmas.List.{take_rest}
use Rattle.plain.specs.Pattern.{got}
use Rattle.typed.proofs.Ends.{found_at, plain_at, escape_at, never}
use Rattle.typed.proofs.addresses.up_to.Goals as goal
use Rattle.typed.proofs.addresses.up_to.Goals.{then-cs-i-eq92, else-cs-i-eq92}

pub returns-then-cs-i : goal.returns-then-cs-i
returns-then-cs-i c =
    let whole : c.loop-i.i - 0 ≡ c.loop-i.i = omega arith in
    (λ j. got (take (whole j) c.args.cs.now) (take_rest c.args.cs.now (c.loop-i.i + 1) j)) ∙ sym (c.loop-i.invariant ∙ found_at _ _ _ c.loop-i-test.true c.if-cs-i.true)

pub loop-i-preserved : goal.loop-i-preserved
loop-i-preserved c =
    let d = c.args.delimiter in
    let i = c.loop-i.i in
    let cs = c.args.cs.now in
    elim c.if-cs-i-eq92.branch [
      | then-cs-i-eq92 w ↦ rw w.i-is (c.loop-i.invariant ∙ escape_at d i cs c.loop-i-test.true c.if-cs-i.false w.if-cs-i-eq92.true)
      | else-cs-i-eq92 w ↦ rw w.i-is (c.loop-i.invariant ∙ plain_at d i cs c.loop-i-test.true c.if-cs-i.false w.if-cs-i-eq92.false)
    ]

pub returns : goal.returns
returns c = sym (c.loop-i.invariant ∙ never _ _ _ c.loop-i-test.false)
