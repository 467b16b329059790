use Rattle.std.proofs.Common.{ap}
use Rattle.memory.specs.Sections.{with_weight, with_ring}
use Rattle.memory.proofs.small.push_weight.Goals as goal

pub returns-clause-memory : goal.returns-clause-memory
unfolding with_weight
returns-clause-memory c = ap (with_ring c.args.memory.now) c.push.ensures
