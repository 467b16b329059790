use Rattle.std.proofs.Common.{◌+◌, ◌*◌, ◌<◌, refl, ap, ◌∙◌, arith}
use Rattle.protocol.specs.Events.{from_eight}
use Rattle.protocol.proofs.Eight.{eight-more, eight-below, eight_fits}
use Rattle.protocol.proofs.from_eight.Goals as goal

pub loop-byte-init : goal.loop-byte-init
unfolding from_eight
loop-byte-init c = (refl, omega arith)

pub overflow_mul-number : goal.overflow_mul-number
overflow_mul-number c =
    let i : c.loop-byte.byte-index < 8 = omega arith in
    let h = eight_fits c.loop-byte.number c.loop-byte.byte-index 0 i (omega arith) c.loop-byte.invariant.1 in
    omega arith

pub overflow_add-number : goal.overflow_add-number
overflow_add-number c =
    let i : c.loop-byte.byte-index < 8 = omega arith in
    let b : c.from.result < 256 = omega (arith, c.type_inv.bytes c.loop-byte.byte-index) in
    let h = eight_fits c.loop-byte.number c.loop-byte.byte-index c.from.result i b c.loop-byte.invariant.1 in
    omega arith

pub loop-byte-preserved : goal.loop-byte-preserved
loop-byte-preserved c =
    let b : c.from.result < 256 = omega (arith, c.type_inv.bytes c.loop-byte.byte-index) in (
      ap (λ n. c.loop-byte.number * 256 + n) c.from.ensures ∙ eight-more c.loop-byte.number c.loop-byte.byte-index c.args.bytes.now c.loop-byte-test.true c.loop-byte.invariant.0,
      eight-below c.loop-byte.number c.loop-byte.byte-index c.from.result b c.loop-byte.invariant.1,
    )
