use Rattle.std.proofs.Common.{ap, ◌∙◌}
use Rattle.commits.specs.Rows.{refuses}
use Rattle.execution.proofs.Told.{says_by}
use Rattle.execution.proofs.Roomed.{weigh_full, weigh_roomy}
use Rattle.execution.proofs.room.weigh.Goals as goal

pub returns-then-no_room : goal.returns-then-no_room
returns-then-no_room c =
    says_by (ap (λ k. refuses k c.args.registers.now c.args.memory.now) c.number.ensures ∙ weigh_full c.args.registers.now c.args.memory.now c.if-no_room.ensures) (c.refuse.ensures c.args.memory.now c.args.out.now)

pub returns : goal.returns
returns c = says_by (weigh_roomy c.args.registers.now c.args.memory.now c.if-no_room.ensures) c.prepare.ensures
