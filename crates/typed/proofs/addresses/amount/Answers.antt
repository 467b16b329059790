use Rattle.std.proofs.Common.{arith, ltb-false, ltb-true}
use Rattle.typed.proofs.Digits.{no_digit, one_if_none}
use Rattle.typed.proofs.addresses.amount.Goals as goal
use Rattle.typed.proofs.addresses.amount.Goals.{in_default-via-then-cs-lt1, in_default-via-else-cs-lt1+then-cs-lt48, in_default-via-else-cs-lt1+else-cs-lt48+else-cs-lt58}

pub returns-in_default : goal.returns-in_default
returns-in_default c =
    one_if_none _ (no_digit c.args.cs.now (λ some low high.
    elim c.in_default.branch [
      | in_default-via-then-cs-lt1 w ↦ omega (arith, ltb-true)
      | in_default-via-else-cs-lt1+then-cs-lt48 w ↦ omega (arith, ltb-true)
      | in_default-via-else-cs-lt1+else-cs-lt48+else-cs-lt58 w ↦ omega (arith, ltb-false)
    ]))
