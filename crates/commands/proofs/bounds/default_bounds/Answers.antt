use Rattle.std.proofs.Common.{rules}
use Rattle.commands.specs.Resolve.{default_bounds}
use Rattle.commands.proofs.bounds.default_bounds.Goals as goal

pub returns-in-Join : goal.returns-in-Join
unfolding default_bounds
returns-in-Join c = search rules

pub returns-in-LineNumber : goal.returns-in-LineNumber
unfolding default_bounds
returns-in-LineNumber c = search rules

pub returns-in-GoTo : goal.returns-in-GoTo
unfolding default_bounds
returns-in-GoTo c = search rules

pub returns-in-Write : goal.returns-in-Write
unfolding default_bounds
returns-in-Write c = search rules

pub returns-in_default : goal.returns-in_default
unfolding default_bounds
returns-in_default c = search rules
