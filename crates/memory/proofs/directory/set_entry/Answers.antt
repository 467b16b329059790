use Rattle.std.proofs.Common.{ap, ◌∙◌}
use Rattle.lines.specs.Slots.{stored}
use Rattle.memory.specs.Sections.{with_entry, with_words, words_in}
use Rattle.memory.proofs.directory.set_entry.Goals as goal

pub returns : goal.returns
unfolding with_entry
returns c =
    ap (with_words c.args.memory.now) (c.set.ensures.words ∙ ap (stored (words_in c.args.memory.now) c.args.i) c.entry.ensures)
