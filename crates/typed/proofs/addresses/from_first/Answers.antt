use Rattle.std.proofs.Common.{length, ap, arith, rules}
use Rattle.typed.proofs.Fronts.{front}
use Rattle.typed.proofs.Shorter.{left_address}
use Rattle.typed.proofs.addresses.from_first.Goals as goal

pub to_second-requires : goal.to_second-requires
to_second-requires c =
    let ds = c.in_ok-first.rest.now in
    omega (arith, left_address _ c.args.cs.now ds c.in_ok-first.ensures, ap length (front ds 44 (search rules) (search rules)))

pub to_second-requires-in-59 : goal.to_second-requires-in-59
to_second-requires-in-59 c =
    let ds = c.in_ok-first.rest.now in
    omega (arith, left_address _ c.args.cs.now ds c.in_ok-first.ensures, ap length (front ds 59 (search rules) (search rules)))
