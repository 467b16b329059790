use Rattle.std.proofs.Common.{ap, ◌∙◌}
use Rattle.memory.specs.Sections.{entry_position}
use Rattle.memory.proofs.Entries.{entry-there, entry_past}
use Rattle.memory.proofs.directory.entry.Goals as goal

pub returns-then-i-entries : goal.returns-then-i-entries
returns-then-i-entries c =
    c.from_entry.ensures ∙ ap entry_position c.get.ensures ∙ entry-there c.args.entries c.args.i c.args.memory.now c.if-i-entries.true

pub returns-else-i-entries : goal.returns-else-i-entries
returns-else-i-entries c = entry_past c.args.entries c.args.i c.args.memory.now c.if-i-entries.false
