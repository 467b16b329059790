use Rattle.std.proofs.Common.{◌+◌, ◌-◌}
use Rattle.plain.specs.Pattern.{pick}
use Rattle.memory.specs.Abstract.{text_of}
use Rattle.memory.proofs.Counting.{Summed}
use Rattle.memory.proofs.measures.total.Given as goal

abbrev pub invariant-loop-more : goal.invariant-loop-more
invariant-loop-more g l = Summed g.M.Measure.size g.M.Measure.most l.lines (text_of l.len l.memory) l.sum l.at l.more

abbrev pub decreases-loop-more : goal.decreases-loop-more
decreases-loop-more g l = pick l.more (l.len + 1 - l.at) 0
