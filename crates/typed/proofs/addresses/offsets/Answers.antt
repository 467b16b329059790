use Rattle.std.proofs.Common.{length, get_or, refl, ap, arith, rules, ltb-false, ltb-true}
use Rattle.typed.proofs.Fronts.{tail_of, front, no_front}
use Rattle.typed.proofs.Steps.{small, shorter, on-more, back_more, stopped, cut_off, ended}
use Rattle.typed.proofs.addresses.offsets.Goals as goal
use Rattle.typed.proofs.addresses.offsets.Goals.{in_default, in-len1-up+in_ok-n+in_default-c}

pub returns-in_err-n : goal.returns-in_err-n
returns-in_err-n c =
    let rest = c.loop-rest.rest.now in
    rw c.from_residual.ensures (cut_off c.loop-rest.invariant (get_or rest 0 0) (tail_of rest) (front rest (get_or rest 0 0) (omega (arith, ltb-false)) refl) c.in_err-n.ensures)

pub overflow_add-on : goal.overflow_add-on
overflow_add-on c = omega (arith, small _ (tail_of c.loop-rest.rest.now) _ c.in_ok-n.ensures)

pub overflow_add-back : goal.overflow_add-back
overflow_add-back c = omega (arith, small _ (tail_of c.loop-rest.rest.now) _ c.in_ok-n.ensures)

pub loop-rest-smaller-in-43 : goal.loop-rest-smaller-in-43
loop-rest-smaller-in-43 c =
    let rest = c.loop-rest.rest.now in
    let long = ap length (front rest 43 (omega (arith, ltb-false)) c.in-43.is) in
    omega (arith, shorter _ (tail_of rest) _ c.in_ok-n.ensures)

pub loop-rest-preserved-in-43 : goal.loop-rest-preserved-in-43
loop-rest-preserved-in-43 c =
    let rest = c.loop-rest.rest.now in
    on-more _ (tail_of rest) _ c.in_ok-n.ensures c.loop-rest.invariant (front rest 43 (omega (arith, ltb-false)) c.in-43.is)

pub loop-rest-smaller : goal.loop-rest-smaller
loop-rest-smaller c =
    let rest = c.loop-rest.rest.now in
    let long = ap length (front rest 45 (omega (arith, ltb-false)) c.in-45.is) in
    omega (arith, shorter _ (tail_of rest) _ c.in_ok-n.ensures)

pub loop-rest-preserved : goal.loop-rest-preserved
loop-rest-preserved c =
    let rest = c.loop-rest.rest.now in
    back_more _ (tail_of rest) _ c.in_ok-n.ensures c.loop-rest.invariant (front rest 45 (omega (arith, ltb-false)) c.in-45.is)

pub returns : goal.returns
returns c =
    let rest = c.loop-rest.rest.now in
    elim c.if-rest-lt1.branch [
      | in_default w ↦ ended c.loop-rest.invariant (no_front rest (omega (arith, ltb-true)))
      | in-len1-up+in_ok-n+in_default-c w ↦
          stopped _ (tail_of rest) _ w.in_ok-n.ensures c.loop-rest.invariant (get_or rest 0 0) (front rest (get_or rest 0 0) (omega (arith, ltb-false)) refl) (search rules) (search rules)
    ]
