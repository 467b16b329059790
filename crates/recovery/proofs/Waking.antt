-- Which tape counts, and what is done then. Assumes nothing.
use Rattle.std.proofs.Common.{◌≡◌, ℕ, ◌+◌, ◌*◌, false, eqb, List, refl, ap, ◌∙◌, subst, arith}
use Rattle.plain.specs.Pattern.{pick}
use Rattle.plain.specs.Device.{Page}
use Rattle.journal.specs.Log.{neither, only, choose, head_of}
use Rattle.records.specs.Checked.{checked_record_of}
use Rattle.memory.specs.declared.phase.Phase.TheVariants.{FreshBegun, Replaying}
use Rattle.memory.specs.declared.registers.Registers.{Registers}
use Rattle.protocol.specs.declared.Told.{Told}
use Rattle.protocol.specs.declared.Told.TheVariants.{Read, Begin}
use Rattle.protocol.specs.Acts.{ActTold}
use Rattle.commits.specs.Acts.{Says}
use Rattle.commits.specs.Setters.{tapes, in_phase, with_tapes}
use Rattle.recovery.specs.Wake.{woke_second, wake_by}

module _ (p : Page) (r : Registers) (h : ℕ) (heads : h ≡ head_of (checked_record_of p)) (m out : List ℕ) where
  pub woke_fresh : neither ≡ choose r.tapes.generation h → Says (woke_second p r m) (in_phase FreshBegun r) m (Begin 0) out out
  unfolding woke_second ActTold
  woke_fresh e =
      subst (λ g. Says (wake_by (choose r.tapes.generation g) g r m) (in_phase FreshBegun r) m (Begin 0) out out) heads
      (subst (λ w. Says (wake_by w h r m) (in_phase FreshBegun r) m (Begin 0) out out) e record { registers = refl; memory = refl; act = (refl, refl) })

  pub woke_counted : (t : ℕ) (r₁ : Registers) (told : Told) → only t ≡ choose r.tapes.generation h → told ≡ Read t
      → r₁ ≡ in_phase Replaying (with_tapes (tapes r.tapes.room t (pick (eqb t 0) r.tapes.generation h) 0 false 0 0) r) → Says (woke_second p r m) r₁ m told out out
  unfolding woke_second ActTold
  woke_counted t r₁ told e a b =
      let z : t ≡ 2 * 0 + t = omega arith in
      subst (λ g. Says (wake_by (choose r.tapes.generation g) g r m) r₁ m told out out) heads
      (subst (λ w. Says (wake_by w h r m) r₁ m told out out) e record { registers = b; memory = refl; act = (a ∙ ap Read z, refl) })
