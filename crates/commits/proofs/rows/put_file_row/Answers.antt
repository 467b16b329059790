use Rattle.std.proofs.Common.{◌≡◌, ◌*◌, map, length, sym, ap, ◌∙◌, arith}
use Rattle.plain.specs.Pattern.{eight}
use Rattle.memory.specs.Registers.{part}
use Rattle.memory.specs.Sections.{low, files_in}
use Rattle.memory.specs.Abstract.{file_at, file_head}
use Rattle.memory.proofs.Filing.{name-long}
use Rattle.commits.proofs.Rowed.{eight-long, numbers-long, name_cells_long, name-room, row-long, row_written}
use Rattle.commits.proofs.rows.put_file_row.Goals as goal

pub copy_low-requires : goal.copy_low-requires
copy_low-requires c =
    let s = part (67 * c.args.i) 67 (files_in c.args.memory.now) in
    let l = numbers-long c.args.i c.args.memory.now c.requires.0 c.requires.1.0 in
    let n : c.file_at-file.result.name ≡ (file_head s).name = ap (λ f. f.name) c.file_at-file.ensures in
    name-room c.file_at-file.result.name c.put_number.new.out c.file_name.result.now c.args.out.now
    (ap length c.put_number.ensures ∙ eight-long c.file_at-file.result.name) (omega arith) (name_cells_long s c.file_name.result.now l c.file_name.ensures ∙ sym n)

pub returns : goal.returns
returns c =
    let s = part (67 * c.args.i) 67 (files_in c.args.memory.now) in
    let l = numbers-long c.args.i c.args.memory.now c.requires.0 c.requires.1.0 in
    let n : length (file_at s).name ≡ c.file_at-file.result.name = name-long s l ∙ sym (ap (λ f. f.name) c.file_at-file.ensures) in
    record {
      row = row_written (file_at s).name (file_at s).lines c.file_at-file.result.name c.args.out.now c.put_number.new.out c.copy_low.new.out c.put_number-2.new.out n
          c.put_number.ensures (c.copy_low.ensures ∙ ap (map low) c.file_name.ensures)
          (c.put_number-2.ensures ∙ ap (λ f. eight f.lines) c.file_at-file.ensures);
      long = row-long (file_at s).name (file_at s).lines c.file_at-file.result.name n;
    }
