use Rattle.std.proofs.Common.{length, ap, arith, rules}
use Rattle.typed.proofs.Fronts.{tail_of, front}
use Rattle.typed.proofs.Shorter.{left_up-to}
use Rattle.typed.proofs.commands.global.Goals as goal

pub read_simple-requires : goal.read_simple-requires
read_simple-requires c =
    let cs = c.args.cs.now in
    omega (arith, left_up-to 47 _ (tail_of cs) _ c.in_ok-pattern.ensures, ap length (front cs 47 (search rules) (search rules)))
