-- What is added up to see whether there is room. Assumes nothing: these are definitions.
use Rattle.std.specs.Prelude.{ℕ, ◌<◌}
use Rattle.journal.specs.declared.commit.Numbers.{Numbers}
use Rattle.journal.specs.declared.commit.Also.{Also}
use Rattle.journal.specs.declared.commit.Also.TheVariants.{Nothing, Push, Store}

-- NUMBERS OF 50 BITS, so that no sum of a few is too large
abbrev pub Light : ℕ → Type 0
Light n = n < 1125899906842624

abbrev pub AlsoLight : Also ℕ → Type 0
AlsoLight Nothing = Unit {0}
AlsoLight (Push weight) = Light weight
AlsoLight (Store slot lines weight) = Light weight

pub record NewsLight (n : Numbers ℕ) : Type 0 where
  pub weight : Light n.weight
  pub also : AlsoLight n.also
