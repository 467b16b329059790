use Rattle.std.proofs.Common.{length, refl, ap}
use Rattle.std.proofs.lemmas.Bool.{le-leb, lt-leb}
use Rattle.memory.specs.Sections.{name_kept, with_name}
use Rattle.memory.proofs.small.keep_name.Goals as goal

pub returns-then-name-gt-NAMES : goal.returns-then-name-gt-NAMES
unfolding name_kept
returns-then-name-gt-NAMES c = simp (lt-leb (length c.args.name.now) 64 c.if-name-gt-NAMES.true) record { done = refl; memory = refl }

pub returns : goal.returns
unfolding name_kept
returns c = simp (le-leb (length c.args.name.now) 64 c.if-name-gt-NAMES.false) record { done = refl; memory = ap (with_name c.args.memory.now) c.lay.ensures }
