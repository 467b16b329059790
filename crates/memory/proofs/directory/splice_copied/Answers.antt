use Rattle.std.proofs.Common.{◌-◌, take, drop, Some, None, refl, ◌∙◌}
use Rattle.memory.specs.Sections.{entries_in, with_splice, copied_spliced}
use Rattle.memory.proofs.Splicing.{copy_left}
use Rattle.memory.proofs.directory.splice_copied.Goals as goal

pub returns : goal.returns
unfolding with_splice copied_spliced
returns c =
    let m = c.args.memory.now in
    let e = c.in_ok-count.ensures in
    let r = copy_left c.args.cut.count c.args.cut.from c.args.cut.gone c.args.x c.args.y (Some c.in_ok-count.count) m c.duplicate.new.dir _
    (with_splice c.args.cut.count c.args.cut.from c.args.cut.gone (take (c.args.y - c.args.x) (drop c.args.x (entries_in m))) m) c.requires e.done e.refused e.spare refl in
    record { count = r.count; memory = r.memory }

pub returns-in_err-count : goal.returns-in_err-count
unfolding with_splice copied_spliced
returns-in_err-count c =
    let m = c.args.memory.now in
    let e = c.in_err-count.ensures in
    let r = copy_left c.args.cut.count c.args.cut.from c.args.cut.gone c.args.x c.args.y None m c.duplicate.new.dir _
    (with_splice c.args.cut.count c.args.cut.from c.args.cut.gone (take (c.args.y - c.args.x) (drop c.args.x (entries_in m))) m) c.requires e.done e.refused e.spare refl in
    record { count = c.from_residual.ensures ∙ r.count; memory = r.memory }
