use Rattle.execution.proofs.Given.{name_of_deed, no_name}
use Rattle.execution.proofs.command.name_given.Goals as goal

pub returns-in-Write : goal.returns-in-Write
returns-in-Write c = name_of_deed c.args.deed c.in-Write.name c.in-Write.is

pub returns-in-Write-2 : goal.returns-in-Write-2
returns-in-Write-2 c = name_of_deed c.args.deed c.in-Write.name c.in-Write.is

pub returns-in-Write-3 : goal.returns-in-Write-3
returns-in-Write-3 c = name_of_deed c.args.deed c.in-Write.name c.in-Write.is

pub returns-in_default : goal.returns-in_default
returns-in_default c = no_name c.args.deed c.in_default.not-Write c.in_default.not-Edit c.in_default.not-Read
