use Rattle.std.proofs.Common.{◌≡◌, ◌+◌, ◌*◌, refl, ap, ◌∙◌, arith}
use Rattle.memory.specs.Sections.{entry_at}
use Rattle.protocol.specs.Acts.{ActTold}
use Rattle.protocol.specs.declared.Told.TheVariants.{Read}
use Rattle.execution.specs.Walk.{line_entry, fetch}
use Rattle.execution.proofs.Walked.{entry-tape, entry_record}
use Rattle.execution.proofs.walk.fetch.Goals as goal

pub overflow_add-entry : goal.overflow_add-entry
overflow_add-entry c =
    omega (arith, entry_record c.args.registers.now.kept.entries (c.file_lines-text.result + c.args.registers.now.walking.line) c.args.memory.now c.entry-entry.result c.entry-entry.ensures, c.requires.1.part)

pub read-requires : goal.read-requires
read-requires c =
    omega (
      arith,
      entry_record c.args.registers.now.kept.entries (c.file_lines-text.result + c.args.registers.now.walking.line) c.args.memory.now c.entry-entry.result c.entry-entry.ensures,
      entry-tape c.args.registers.now.kept.entries (c.file_lines-text.result + c.args.registers.now.walking.line) c.args.memory.now c.entry-entry.result c.entry-entry.ensures,
      c.requires.1.part,
    )

pub returns : goal.returns
unfolding fetch ActTold
returns c =
    let r = c.args.registers.now in
    let m = c.args.memory.now in
    let e : c.entry-entry.result ≡ line_entry r m = c.entry-entry.ensures ∙ ap (λ n. entry_at r.kept.entries (n + r.walking.line) m) c.file_lines-text.ensures.total in
    λ out. record { registers = refl; memory = refl; act = (c.read.ensures ∙ ap (λ p. Read (2 * (p.at + r.walking.part) + p.tape)) e, refl) }
