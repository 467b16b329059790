use Rattle.std.proofs.Common.{refl}
use Rattle.lines.proofs.Splices.{copied_same}
use Rattle.lines.proofs.moves.copy_within.Goals as goal

pub returns-then-to-from : goal.returns-then-to-from
returns-then-to-from c = record { entries = copied_same c.args.from c.args.n c.args.to _ c.if-to-from.true; spare = refl }
