use Rattle.std.proofs.Common.{rules}
use Rattle.commands.specs.Plan.{decide_lines}
use Rattle.commands.specs.Turn.{lines_given}
use Rattle.commands.proofs.decide.plan_lines.Goals as goal

pub append-requires : goal.append-requires
unfolding lines_given
append-requires c = search rules

pub insert-requires : goal.insert-requires
unfolding lines_given
insert-requires c = search rules

pub change-requires : goal.change-requires
unfolding lines_given
change-requires c = search rules

pub returns-in-Append : goal.returns-in-Append
unfolding decide_lines lines_given
returns-in-Append c = search rules

pub returns-in-Insert : goal.returns-in-Insert
unfolding decide_lines lines_given
returns-in-Insert c = search rules

pub returns-in-Change : goal.returns-in-Change
unfolding decide_lines lines_given
returns-in-Change c = search rules

pub returns-in-Delete : goal.returns-in-Delete
unfolding decide_lines lines_given
returns-in-Delete c = search rules

pub returns-in-Join : goal.returns-in-Join
unfolding decide_lines lines_given
returns-in-Join c = search rules

pub returns-in-Print : goal.returns-in-Print
unfolding decide_lines lines_given
returns-in-Print c = search rules

pub returns-in-Number : goal.returns-in-Number
unfolding decide_lines lines_given
returns-in-Number c = search rules

pub returns-in-LineNumber : goal.returns-in-LineNumber
unfolding decide_lines lines_given
returns-in-LineNumber c = search rules

pub returns-in-GoTo : goal.returns-in-GoTo
unfolding decide_lines lines_given
returns-in-GoTo c = search rules

pub returns-in_default : goal.returns-in_default
unfolding decide_lines lines_given
returns-in_default c = search rules
