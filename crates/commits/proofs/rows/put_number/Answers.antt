use Rattle.std.proofs.Common.{◌∙◌}
use native.Mathlib.Nat.{div-div-eq-div-mul}
use Rattle.plain.specs.Pattern.{in_bytes}
use Rattle.commits.proofs.rows.put_number.Goals as goal

pub returns : goal.returns
unfolding in_bytes
returns c = c.copy_from_slice.ensures.after ∙ (c.to_be_bytes.ensures ∙ simp div-div-eq-div-mul)
