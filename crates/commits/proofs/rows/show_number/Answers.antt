use Rattle.std.proofs.Common.{◌++◌, drop, refl, ap}
use Rattle.plain.specs.Pattern.{in_bytes}
use Rattle.protocol.specs.Acts.{ActTold}
use Rattle.commits.proofs.rows.show_number.Goals as goal

pub returns : goal.returns
unfolding ActTold in_bytes
returns c = λ m. record { registers = refl; memory = refl; act = (refl, ap (λ t. t ++ drop 8 c.args.out.now) c.put_number.ensures) }
