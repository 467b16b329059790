use Rattle.std.proofs.Common.{ap, ◌∙◌}
use Rattle.commits.specs.Setters.{with_carrying}
use Rattle.compaction.specs.Carry.{carry}
use Rattle.execution.proofs.Told.{says_by}
use Rattle.execution.proofs.Roomed.{prepare-busy, prepare_full, prepare_roomy}
use Rattle.execution.proofs.room.prepare.Goals as goal

pub returns-then-registers : goal.returns-then-registers
returns-then-registers c =
    let r = c.args.registers.now in
    let m = c.args.memory.now in
    says_by (ap (λ k. carry (with_carrying k r) m) c.carrying-registers.ensures ∙ prepare-busy r m c.quota-quota.result c.quota-quota.ensures c.if-registers.true)
    c.carry.ensures

pub returns-then-nearly_full : goal.returns-then-nearly_full
returns-then-nearly_full c =
    says_by (prepare_full c.args.registers.now c.args.memory.now c.quota-quota.result c.quota-quota.ensures c.if-registers.false c.if-nearly_full.ensures)
    (c.begin_other.ensures c.args.memory.now c.args.out.now)

pub returns : goal.returns
returns c =
    says_by (prepare_roomy c.args.registers.now c.args.memory.now c.if-registers.false c.if-nearly_full.ensures) c.start_pass.ensures
