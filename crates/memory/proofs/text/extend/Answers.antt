use Rattle.std.proofs.Common.{◌+◌, length, refl, ap, arith}
use Rattle.std.proofs.lemmas.Bool.{le-leb, lt-leb}
use Rattle.memory.specs.Sections.{extended, with_cells}
use Rattle.memory.proofs.text.extend.Goals as goal

pub returns-then-bytes-at : goal.returns-then-bytes-at
unfolding extended
returns-then-bytes-at c = simp (lt-leb (c.args.at + length c.args.bytes.now) 65536 (omega arith)) record { done = refl; memory = refl }

pub returns : goal.returns
unfolding extended
returns c =
    simp (le-leb (c.args.at + length c.args.bytes.now) 65536 (omega arith))
    record { done = refl; memory = ap (with_cells c.args.memory.now) c.lay_from.ensures }
