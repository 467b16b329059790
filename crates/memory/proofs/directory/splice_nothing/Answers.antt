use Rattle.std.proofs.Common.{[], Some, None, refl, ◌∙◌}
use Rattle.memory.specs.Sections.{with_splice, nothing_spliced}
use Rattle.memory.proofs.Splicing.{splice_left}
use Rattle.memory.proofs.directory.splice_nothing.Goals as goal

pub returns : goal.returns
unfolding with_splice nothing_spliced
returns c =
    let m = c.args.memory.now in
    let e = c.in_ok-count.ensures in
    let r = splice_left c.args.cut.count c.args.cut.from c.args.cut.gone 0 (Some c.in_ok-count.count) m c.splice.new.dir _
    (with_splice c.args.cut.count c.args.cut.from c.args.cut.gone [] m) c.requires e.done e.refused e.spare refl in
    record { count = r.count; memory = r.memory }

pub returns-in_err-count : goal.returns-in_err-count
unfolding with_splice nothing_spliced
returns-in_err-count c =
    let m = c.args.memory.now in
    let e = c.in_err-count.ensures in
    let r = splice_left c.args.cut.count c.args.cut.from c.args.cut.gone 0 None m c.splice.new.dir _
    (with_splice c.args.cut.count c.args.cut.from c.args.cut.gone [] m) c.requires e.done e.refused e.spare refl in
    record { count = c.from_residual.ensures ∙ r.count; memory = r.memory }
