use Rattle.std.proofs.Common.{◌≡◌, ◌+◌, ◌*◌, length, sym, refl, ap, ◌∙◌, arith}
use Rattle.memory.specs.Registers.{part}
use Rattle.commands.specs.Smalls.{entry_size}
use Rattle.memory.specs.Abstract.{files_at, file_at}
use Rattle.memory.specs.Sections.{files_in}
use Rattle.memory.proofs.Filing.{added_more, name-long}
use Rattle.memory.proofs.Parted.{length_part}
use Rattle.memory.proofs.small.file_weight.Goals as goal

pub loop-i-init : goal.loop-i-init
unfolding files_at
loop-i-init c = (refl, omega arith)

pub loop-i-preserved : goal.loop-i-preserved
loop-i-preserved c =
    let s = part (67 * c.loop-i.i) 67 (files_in c.args.memory.now) in
    let t = length_part 128 4288 c.args.memory.now (omega arith) in
    let l : length s ≡ 67 = length_part (67 * c.loop-i.i) 67 (files_in c.args.memory.now) (omega arith) in
    let n : c.file_at-file.result.name ≡ length (file_at s).name = ap (λ f. f.name) c.file_at-file.ensures ∙ sym (name-long s l) in
    let z : c.file_at-file.result.size ≡ (file_at s).size = ap (λ f. f.size) c.file_at-file.ensures in
    let v : 128 + c.file_at-file.result.name + c.file_at-file.result.size ≡ entry_size (file_at s) = λ i. 128 + n i + z i in (
      ap (λ w. w + (128 + c.file_at-file.result.name + c.file_at-file.result.size)) c.loop-i.invariant.0
          ∙ added_more entry_size c.loop-i.i (files_in c.args.memory.now) (128 + c.file_at-file.result.name + c.file_at-file.result.size) v,
      omega (arith, c.loop-i.invariant.1, ap (λ f. f.name) c.file_at-file.ensures, ap (λ f. f.size) c.file_at-file.ensures),
    )
