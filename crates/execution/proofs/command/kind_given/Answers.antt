use Rattle.execution.proofs.Given.{kind-given}
use Rattle.execution.proofs.command.kind_given.Goals as goal

pub returns-in-Some : goal.returns-in-Some
returns-in-Some c = kind-given c.args.lines c.in-Some.field-0 c.in-Some.is
