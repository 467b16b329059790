use Rattle.std.proofs.Common.{◌+◌, refl, ap, ◌∙◌, arith}
use Rattle.memory.specs.Abstract.{files_at}
use Rattle.memory.specs.Sections.{files_in}
use Rattle.memory.proofs.Filing.{added_more}
use Rattle.memory.proofs.small.file_lines.Goals as goal

pub loop-i-init : goal.loop-i-init
unfolding files_at
loop-i-init c = (refl, omega arith)

pub loop-i-preserved : goal.loop-i-preserved
loop-i-preserved c = (
  ap (λ n. n + c.file_at-lines.result.lines) c.loop-i.invariant.0
      ∙ added_more (λ e. e.lines) c.loop-i.i (files_in c.args.memory.now) c.file_at-lines.result.lines (ap (λ f. f.lines) c.file_at-lines.ensures),
  omega (arith, c.loop-i.invariant.1, ap (λ f. f.lines) c.file_at-lines.ensures),
)
