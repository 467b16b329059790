use Rattle.execution.proofs.Given.{lines_of_deed, no_lines}
use Rattle.execution.proofs.command.lines_given.Goals as goal

pub returns-in-Append : goal.returns-in-Append
returns-in-Append c = lines_of_deed c.args.deed c.in-Append.lines c.in-Append.is

pub returns-in-Append-2 : goal.returns-in-Append-2
returns-in-Append-2 c = lines_of_deed c.args.deed c.in-Append.lines c.in-Append.is

pub returns-in-Append-3 : goal.returns-in-Append-3
returns-in-Append-3 c = lines_of_deed c.args.deed c.in-Append.lines c.in-Append.is

pub returns-in_default : goal.returns-in_default
returns-in_default c = no_lines c.args.deed c.in_default.not-Append c.in_default.not-Insert c.in_default.not-Change
