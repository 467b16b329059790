use Rattle.std.proofs.Common.{sym, ap, ◌∙◌, subst}
use Rattle.commits.specs.Bounds.{Loose}
use Rattle.execution.specs.Walk.{weigh}
use Rattle.execution.proofs.Told.{says_by}
use Rattle.execution.proofs.Loosened.{loose-then}
use Rattle.execution.proofs.Walked.{walk_further, walk-ended}
use Rattle.execution.proofs.walk.walk_on.Goals as goal

pub returns-then-goes_on : goal.returns-then-goes_on
returns-then-goes_on c = says_by (walk_further c.args.registers.now c.args.memory.now c.if-goes_on.ensures) (c.fetch.ensures c.args.out.now)

pub weigh-requires : goal.weigh-requires
weigh-requires c =
    (c.requires.0, (c.requires.1.0, subst Loose (sym c.job_then-registers.ensures) (loose-then c.args.registers.now.job.plan.walk c.args.registers.now c.requires.1.1)))

pub returns : goal.returns
returns c =
    says_by (ap (λ r. weigh r c.args.memory.now) c.job_then-registers.ensures ∙ walk-ended c.args.registers.now c.args.memory.now c.if-goes_on.ensures)
    c.weigh.ensures
