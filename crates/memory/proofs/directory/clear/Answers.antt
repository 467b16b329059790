use Rattle.std.proofs.Common.{replicate, ap, ◌∙◌, arith}
use Rattle.memory.specs.Sections.{cleared, with_words}
use Rattle.memory.proofs.Parted.{length_part}
use Rattle.memory.proofs.directory.clear.Goals as goal

pub returns : goal.returns
unfolding cleared
returns c =
    ap (with_words c.args.memory.now) (c.fill.ensures.after (λ y e. e) ∙ ap (λ n. replicate n 0) (length_part 70016 174763 c.args.memory.now (omega arith)))
