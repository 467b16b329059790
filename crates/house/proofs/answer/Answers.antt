use Rattle.std.proofs.Common.{◌∙◌}
use Rattle.house.proofs.Steps.{power_answered, said_answered, other_answered}
use Rattle.house.proofs.answer.Goals as goal

pub returns-in-Power : goal.returns-in-Power
returns-in-Power c = rw (c.in-Power.is, c.wake.ensures.told, c.wake.ensures.state, c.number_of.ensures) (power_answered c.args.registers.now c.args.bytes.now)

pub returns-in-Command : goal.returns-in-Command
returns-in-Command c = rw (c.in-Command.is, c.number.ensures ∙ c.refusal.ensures) (said_answered c.args.registers.now c.args.bytes.now)

pub returns-in-Record : goal.returns-in-Record
returns-in-Record c = rw c.number-in-Record.ensures (other_answered c.args.registers.now c.args.bytes.now c.args.event c.in-Record.is)
