-- The end of a command. Assumes nothing.
use Rattle.std.proofs.Common.{ℕ, ltb, List, sym, refl, ap}
use Rattle.commands.specs.Code.{rows_as}
use Rattle.commands.specs.declared.plan.Rows.{Rows}
use Rattle.commands.specs.declared.plan.Rows.TheVariants.{Nothing, Number, Files}
use Rattle.engine.specs.Fits.{Fits}
use Rattle.engine.specs.Machine as machine
use Rattle.memory.specs.declared.phase.Phase.{Phase}
use Rattle.memory.specs.declared.registers.Registers.{Registers}
use Rattle.memory.specs.Abstract.{house_of}
use Rattle.memory.specs.Sections.{files_in}
use Rattle.memory.proofs.Filing.{length-files}
use Rattle.memory.proofs.Steadiness.{kept_same}
use Rattle.commits.specs.Setters.{in_phase}
use Rattle.commits.specs.Bounds.{Bounded}
use Rattle.commits.specs.Rows.{ends_done, refuses, show_files, finish_by, finish}
use Rattle.refinement.proofs.Same.{Safe, Same, safe_pick, same_by}

-- registers that only differ in what has no bound
pub bounded-phase : {r : Registers} (ph : Phase) → Bounded r → Bounded (in_phase ph r)
bounded-phase ph b = record { active = b.active; kept = b.kept; name = b.name; text = b.text; bytes = b.bytes; at = b.at }

module _ (r : Registers) (m : List ℕ) where
  pub done_safe : Bounded r → Safe m (ends_done r m)
  done_safe b = record { bounded = record { active = b.active; kept = b.kept; name = b.name; text = b.text; bytes = b.bytes; at = b.at }; kept = kept_same m }

  pub done_same : Same (ends_done r m) (machine.ends_done (house_of r m))
  unfolding house_of
  done_same = record { act = refl; state = refl }

  pub refuses_safe : (k : ℕ) → Bounded r → Safe m (refuses k r m)
  refuses_safe k b = record { bounded = record { active = b.active; kept = b.kept; name = b.name; text = b.text; bytes = b.bytes; at = b.at }; kept = kept_same m }

  pub refuses_same : (k : ℕ) → Same (refuses k r m) (machine.refuses k (house_of r m))
  unfolding house_of
  refuses_same k = record { act = refl; state = refl }

  pub files_safe : (i : ℕ) → Bounded r → Safe m (show_files i r m)
  unfolding show_files
  files_safe i b =
      safe_pick (ltb i r.kept.files)
      (record { bounded = record { active = b.active; kept = b.kept; name = b.name; text = b.text; bytes = b.bytes; at = b.at }; kept = kept_same m }) (done_safe b)

  pub files_same : (i : ℕ) → Fits (machine.show_files i (house_of r m)).state → Same (show_files i r m) (machine.show_files i (house_of r m))
  unfolding show_files house_of
  files_same i = same_by (ap (ltb i) (sym (length-files r.kept.files (files_in m)))) (λ f. record { act = refl; state = refl }) (λ f. done_same)

  by_safe : (q : Rows) → Bounded r → Safe m (finish_by q r m)
  by_safe Nothing b = done_safe b
  by_safe (Number n) b = record { bounded = record { active = b.active; kept = b.kept; name = b.name; text = b.text; bytes = b.bytes; at = b.at }; kept = kept_same m }
  by_safe Files b = files_safe 0 b

  pub finish_safe : Bounded r → Safe m (finish r m)
  unfolding finish
  finish_safe b = by_safe r.job.plan.rows b

  by_same : (q : Rows) → Fits (machine.finish_row (rows_as q) (house_of r m)).state → Same (finish_by q r m) (machine.finish_row (rows_as q) (house_of r m))
  unfolding house_of
  by_same Nothing f = done_same
  by_same (Number n) f = record { act = refl; state = refl }
  by_same Files f = files_same 0 f

  pub finish_same : Fits (machine.finish (house_of r m)).state → Same (finish r m) (machine.finish (house_of r m))
  unfolding finish house_of
  finish_same f = by_same r.job.plan.rows f
