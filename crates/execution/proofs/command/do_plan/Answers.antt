use Rattle.execution.proofs.Told.{says_by}
use Rattle.execution.proofs.Obeyed.{plan-nothing, plan-walks}
use Rattle.execution.proofs.command.do_plan.Goals as goal

pub returns-in-Nothing : goal.returns-in-Nothing
returns-in-Nothing c = says_by (plan-nothing c.args.registers.now.job.plan.update c.args.registers.now c.args.memory.now c.in-Nothing.is) c.finish.ensures

pub returns-in-Current : goal.returns-in-Current
returns-in-Current c = says_by (plan-walks c.args.registers.now.job.plan.update c.args.registers.now c.args.memory.now c.in-Current.is) c.walk_on.ensures
