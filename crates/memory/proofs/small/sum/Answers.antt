use Rattle.std.proofs.Common.{map, ◌∙◌, arith}
use Rattle.memory.specs.Numbers.{capped}
use Rattle.memory.proofs.Weighing.{sums_same, sum_few}
use Rattle.memory.proofs.small.sum.Goals as goal

pub capped_sum-requires : goal.capped_sum-requires
capped_sum-requires c = omega (arith, sums_same (map capped c.args.weights.now), sum_few c.args.weights.now)

pub returns-clause-total : goal.returns-clause-total
returns-clause-total c = c.capped_sum.ensures ∙ sums_same (map capped c.args.weights.now)

pub returns-clause-few : goal.returns-clause-few
returns-clause-few c = omega (arith, c.capped_sum.ensures, sums_same (map capped c.args.weights.now), sum_few c.args.weights.now)
