use Rattle.std.proofs.Common.{◌*◌, ◌++◌, drop, refl, ap, ◌∙◌}
use Rattle.std.proofs.lemmas.Bool.{lt-ltb, le-ltb}
use Rattle.engine.specs.Machine.{file_row, no_entry}
use Rattle.memory.specs.Registers.{part}
use Rattle.memory.specs.Sections.{files_in}
use Rattle.memory.specs.Abstract.{file_at}
use Rattle.protocol.specs.Acts.{ActTold}
use Rattle.commits.specs.Rows.{show_files}
use Rattle.protocol.specs.declared.Told.TheVariants.{Shows}
use Rattle.commits.proofs.Rowed.{file_is}
use Rattle.commits.proofs.rows.show_files.Goals as goal

pub returns-then-i-registers : goal.returns-then-i-registers
unfolding show_files
returns-then-i-registers c =
    simp (le-ltb c.args.i c.args.registers.now.kept.files c.if-i-registers.true) (c.end_done.ensures c.args.memory.now c.args.out.now)

pub returns : goal.returns
unfolding show_files ActTold
returns c =
    let s = files_in c.args.memory.now in
    let f = file_is c.args.i c.args.registers.now.kept.files s no_entry c.if-i-registers.false in
    simp (lt-ltb c.args.i c.args.registers.now.kept.files c.if-i-registers.false, f) record {
      registers = refl;
      memory = refl;
      act = (
        ap Shows c.put_file_row-long.ensures.long,
        c.put_file_row-long.ensures.row ∙ ap (λ n. file_row (file_at (part (67 * c.args.i) 67 s)) ++ drop n c.args.out.now) c.put_file_row-long.ensures.long,
      );
    }
