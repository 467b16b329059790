use Rattle.std.proofs.Common.{◌≡◌, ◌*◌, length, Some, refl, ap, ◌∙◌, arith}
use Rattle.plain.specs.Device.{lesser}
use Rattle.memory.specs.Registers.{part, with_part}
use Rattle.memory.specs.Sections.{files_in, with_files, file_numbers, with_file, file_set}
use Rattle.memory.proofs.Filing.{can_not-place, can_not-name, can_both}
use Rattle.memory.proofs.small.set_file.Goals as goal

pub returns-then-place : goal.returns-then-place
unfolding file_set
returns-then-place c =
    let p : c.place_of-place.result ≡ lesser c.args.i c.args.files = c.place_of-place.ensures in
    simp (can_not-place c.args.files c.args.i (length c.args.file.name.now) (omega (arith, p, c.if-place.true))) record { count = refl; memory = refl }

pub returns-then-file-gt-NAMES : goal.returns-then-file-gt-NAMES
unfolding file_set
returns-then-file-gt-NAMES c =
    simp (can_not-name c.args.files c.args.i (length c.args.file.name.now) c.if-file-gt-NAMES.true) record { count = refl; memory = refl }

pub returns : goal.returns
unfolding file_set with_file
returns c =
    let p : c.place_of-place.result ≡ lesser c.args.i c.args.files = c.place_of-place.ensures in
    let m = c.args.memory.now in
    let bs = c.args.file.name.now in
    simp (can_both c.args.files c.args.i (length c.args.file.name.now) (omega (arith, p, c.if-place.false)) c.if-file-gt-NAMES.false) record {
      count = ap Some c.files_with.ensures;
      memory = ap (with_files m) (c.put_file_at.ensures
          ∙ ap (λ i. with_part (67 * i) 67 (files_in m) (file_numbers bs c.args.file.lines c.args.file.size (part (67 * i) 67 (files_in m)))) p);
    }
