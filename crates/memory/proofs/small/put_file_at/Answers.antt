use Rattle.std.proofs.Common.{◌≡◌, ◌+◌, ◌-◌, ◌*◌, take, drop, ap, ◌∙◌, arith}
use Rattle.memory.specs.Registers.{with_part}
use Rattle.memory.specs.Sections.{file_numbers}
use Rattle.memory.proofs.small.put_file_at.Goals as goal

pub returns : goal.returns
returns c =
    let i = c.args.i in
    let t = c.args.table.now in
    let k : 67 * i + 67 - 67 * i ≡ 67 = omega arith in
    ap (λ n. with_part (67 * i) n t c.put_file.new.numbers) k
    ∙ ap (with_part (67 * i) 67 t) (c.put_file.ensures ∙ ap (λ n. file_numbers c.args.file.name.now c.args.file.lines c.args.file.size (take n (drop (67 * i) t))) k)
