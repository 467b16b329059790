use Rattle.std.proofs.Common.{rules}
use Rattle.journal.specs.Log.{choose}
use Rattle.journal.proofs.counting.Goals as goal

pub returns-in-0-eq0 : goal.returns-in-0-eq0
unfolding choose
returns-in-0-eq0 c = search rules

pub returns-in-0-default : goal.returns-in-0-default
unfolding choose
returns-in-0-default c = search rules

pub returns-in_default-eq0 : goal.returns-in_default-eq0
unfolding choose
returns-in_default-eq0 c = search rules

pub returns-in_default : goal.returns-in_default
unfolding choose
returns-in_default c = search rules

pub returns-in_default-2 : goal.returns-in_default-2
unfolding choose
returns-in_default-2 c = search rules
