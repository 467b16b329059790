use Rattle.std.proofs.Common.{rules}
use Rattle.plain.specs.House.{core_deed}
use Rattle.commands.proofs.bounds.known_deed.Goals as goal

pub returns-in-Append : goal.returns-in-Append
unfolding core_deed
returns-in-Append c = search rules

pub returns-in_default : goal.returns-in_default
unfolding core_deed
returns-in_default c = search rules
