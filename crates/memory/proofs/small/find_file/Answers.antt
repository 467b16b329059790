use Rattle.std.proofs.Common.{◌≡◌, ◌+◌, ◌*◌, true, false, map, drop, sym, ap, ◌∙◌, arith}
use Rattle.plain.specs.Pattern.{same}
use Rattle.commands.specs.Plan.{look_up, slot_of}
use Rattle.memory.specs.Registers.{part}
use Rattle.memory.specs.Sections.{low, files_in}
use Rattle.memory.specs.Abstract.{file_at, file_head, files_at}
use Rattle.memory.proofs.Filing.{found_here, found_later, found_none}
use Rattle.memory.proofs.small.find_file.Goals as goal

pub returns-then-same_name : goal.returns-then-same_name
returns-then-same_name c =
    let s = files_in c.args.memory.now in
    let t : same (file_at (part (67 * c.loop-i.i) 67 s)).name c.args.name.now ≡ true =
    ap (λ u. same (map low u) c.args.name.now) (sym c.file_name.ensures) ∙ sym c.if-same_name.ensures in
    (λ j. slot_of true c.loop-i.i c.loop-i.before (c.file_at-file.ensures j).lines (c.file_at-file.ensures j).size)
    ∙ sym (found_here c.args.name.now c.loop-i.i c.args.files c.loop-i.before s c.loop-i-test.true t) ∙ c.loop-i.invariant.0

pub loop-i-preserved : goal.loop-i-preserved
loop-i-preserved c =
    let s = files_in c.args.memory.now in
    let t : same (file_at (part (67 * c.loop-i.i) 67 s)).name c.args.name.now ≡ false =
    ap (λ u. same (map low u) c.args.name.now) (sym c.file_name.ensures) ∙ sym c.if-same_name.ensures in
    let l : c.file_at-file.result.lines ≡ (file_head (part (67 * c.loop-i.i) 67 s)).lines = ap (λ f. f.lines) c.file_at-file.ensures in (
      ap (λ n. look_up c.args.name.now (c.loop-i.i + 1) (c.loop-i.before + n) (drop (c.loop-i.i + 1) (files_at c.args.files s))) l
          ∙ sym (found_later c.args.name.now c.loop-i.i c.args.files c.loop-i.before s c.loop-i-test.true t) ∙ c.loop-i.invariant.0,
      omega (arith, c.loop-i.invariant.1, l),
    )

pub returns : goal.returns
returns c =
    let s = files_in c.args.memory.now in
    let e : c.args.files ≡ c.loop-i.i = omega arith in
    ap (λ n. slot_of false n c.loop-i.before 0 0) e
    ∙ sym (found_none c.args.name.now c.loop-i.i c.args.files c.loop-i.before s c.loop-i-test.false) ∙ c.loop-i.invariant.0
