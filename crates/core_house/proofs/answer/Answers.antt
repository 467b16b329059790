use Rattle.std.proofs.Common.{sym}
use Rattle.core_house.specs.Machine.{answers}
use Rattle.protocol.specs.Events.{event_of}
use Rattle.core_house.proofs.answer.Goals as goal

pub returns-in-Power : goal.returns-in-Power
unfolding answers event_of
returns-in-Power c = rw (c.in-Power.is, sym c.number_of.ensures) (c.wake.ensures c.args.memory.now c.args.out.now)

pub returns-in-Command : goal.returns-in-Command
unfolding answers event_of
returns-in-Command c = rw c.in-Command.is c.obey.ensures

pub returns-in-Record : goal.returns-in-Record
unfolding answers event_of
returns-in-Record c = rw c.in-Record.is c.on_record.ensures

pub returns-in-Next : goal.returns-in-Next
unfolding answers event_of
returns-in-Next c = rw c.in-Next.is c.on_next.ensures
