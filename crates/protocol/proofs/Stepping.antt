-- What a step of an engine says where it is refused, and which steps fit. Assumes nothing.
use Rattle.std.proofs.Common.{◌≡◌, ℕ, ◌<◌, ◌≤◌, true, false, ◌≢◌, ◌⊎◌, List, length, refl, arith, eq-eqb, le-leb}
use Rattle.plain.specs.Run.{Engine}
use Rattle.protocol.specs.declared.Told.TheVariants.{No}
use Rattle.protocol.specs.Stepping.{StepSays, step_fits}

module _ (own : Engine) (long : length own.start ≡ 262144) (m : List ℕ) (k : ℕ) (bs out : List ℕ) where
  pub fits : length m ≡ 262144 → k ≤ 3 → 131072 ≤ length out → step_fits own m k bs out ≡ true
  unfolding step_fits
  fits e h g = rw long (rw (eq-eqb _ _ e, le-leb _ _ h, le-leb _ _ g))

  fits_not : (length m ≢ 262144) ⊎ ((3 < k) ⊎ (length out < 131072)) → step_fits own m k bs out ≡ false
  unfolding step_fits
  fits_not h = rw long (grind (arith, h))

  pub refuses : (length m ≢ 262144) ⊎ ((3 < k) ⊎ (length out < 131072)) → StepSays own m k bs out (step_fits own m k bs out) (No 0) m out
  unfolding StepSays
  refuses h = rw (fits_not h) (refl, refl, refl)
