use Rattle.commits.specs.Rows.{finish}
use Rattle.commits.proofs.rows.finish.Goals as goal

pub returns-in-Nothing : goal.returns-in-Nothing
unfolding finish
returns-in-Nothing c = simp c.in-Nothing.is (c.end_done.ensures c.args.memory.now c.args.out.now)

pub returns-in-Number : goal.returns-in-Number
unfolding finish
returns-in-Number c = simp c.in-Number.is (c.show_number.ensures c.args.memory.now)

pub returns-in-Files : goal.returns-in-Files
unfolding finish
returns-in-Files c = simp c.in-Files.is c.show_files.ensures
