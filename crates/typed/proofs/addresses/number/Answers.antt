use Rattle.std.proofs.Common.{arith, ltb-false, ltb-true}
use Rattle.std.proofs.lemmas.List.{take_rest}
use Rattle.typed.proofs.Digits.{one_more, too_many, all_read, no_digit}
use Rattle.typed.proofs.addresses.number.Goals as goal
use Rattle.typed.proofs.addresses.number.Goals.{in_default, in_default-2, in_default-3}

pub returns-then-count-eq-DIGITS : goal.returns-then-count-eq-DIGITS
returns-then-count-eq-DIGITS c =
    too_many _ _ _ _ c.loop-rest.invariant c.if-count-eq-DIGITS.true (omega (arith, ltb-true, ltb-false)) (omega (arith, ltb-true, ltb-false)) (omega (arith, ltb-true, ltb-false))

pub loop-rest-preserved : goal.loop-rest-preserved
loop-rest-preserved c =
    one_more _ _ _ _ _ _ c.loop-rest.invariant (omega (arith, ltb-true, ltb-false)) (omega (arith, ltb-true, ltb-false)) (omega (arith, ltb-true, ltb-false)) c.if-count-eq-DIGITS.false (omega arith) (take_rest c.loop-rest.rest.now 1)

pub returns : goal.returns
returns c =
    all_read _ _ _ _ c.loop-rest.invariant (no_digit c.loop-rest.rest.now (λ some low high. elim c.if-rest-lt1.branch [ in_default w ↦ omega (arith, ltb-true, ltb-false) | in_default-2 w ↦ omega (arith, ltb-true, ltb-false) | in_default-3 w ↦ omega (arith, ltb-true, ltb-false) ]))
