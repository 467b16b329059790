use Rattle.memory.specs.declared.phase.Phase.TheVariants.{WakeFirst, WakeSecond, Replaying}
use Rattle.core_house.proofs.Dispatch.{record_at, record_lost}
use Rattle.core_house.proofs.on_record.Goals as goal

pub returns-in-WakeFirst : goal.returns-in-WakeFirst
returns-in-WakeFirst c = record_at c.args.registers.now c.args.memory.now c.args.read.now WakeFirst c.in-WakeFirst.is (c.woke_first.ensures c.args.memory.now c.args.out.now)

pub returns-in-WakeSecond : goal.returns-in-WakeSecond
returns-in-WakeSecond c = record_at c.args.registers.now c.args.memory.now c.args.read.now WakeSecond c.in-WakeSecond.is (c.woke_second.ensures c.args.memory.now c.args.out.now)

pub returns-in-Replaying : goal.returns-in-Replaying
returns-in-Replaying c = record_at c.args.registers.now c.args.memory.now c.args.read.now Replaying c.in-Replaying.is (c.replay_record.ensures c.args.out.now)

pub returns-in_default : goal.returns-in_default
returns-in_default c =
    record_lost c.args.registers.now c.args.memory.now c.args.read.now c.args.registers.now.phase c.in_default.not-WakeFirst c.in_default.not-WakeSecond c.in_default.not-Replaying c.in_default.not-CarryRead c.in_default.not-Fetching
    (c.refuse.ensures c.args.memory.now c.args.out.now)
