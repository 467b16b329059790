-- The main promise, from what is shown of an engine, or of a machine that an engine keeps in its memory, for each size of a tape. Assumes nothing.
use Rattle.std.proofs.Common.{ℕ, ◌≤◌, Bool, List, length}
use Rattle.plain.specs.Command.{Command}
use Rattle.plain.specs.House.{Plain}
use Rattle.plain.specs.Device.{Device, fresh}
use Rattle.plain.specs.Run.{Engine, World, Steady}
use Rattle.plain.specs.Promise.{May, Whole, first_plain}
use Rattle.journal.specs.Machine.{Machine, coded}
use Rattle.journal.proofs.Running.{Sound, right-off}
use Rattle.journal.proofs.Machine.{SoundMachine, Idle-kept, sound-engine}
use Rattle.journal.proofs.Coding.{Coding, Loads, coding_keeps}

module _ (known : Command → Bool) (Off : (records n : ℕ) → Device → Plain → Type 0) where
  -- the first device holds the first state
  abbrev pub Begins : Type 0
  Begins = (records n : ℕ) → 1024 ≤ records → records ≤ 1048576 → n ≤ 4294967296 → Off records n (fresh records) first_plain

  pub whole :
      (e : Engine) (Idle : (records n : ℕ) → World → Plain → Type 0) → Steady e →
      ((records : ℕ) → 1024 ≤ records → records ≤ 1048576 → Sound (May known records) e (Off records) (Idle records)) → Begins → Whole known e
  unfolding Whole
  whole e Idle steady sound begins = (
    steady,
    λ records is low high few p.
        right-off (May known records) e (Off records) (Idle records) (sound records low high) (fresh records) first_plain is (begins records (length is) low high few) p,
  )

  -- the same for a machine that is loaded from numbers and stored there
  pub coded-whole :
      {X : Type 0} (M : Machine X) (load : List ℕ → X) (store : X → List ℕ → List ℕ) (zeros : List ℕ) (Idle : (records n : ℕ) → X → Device → Plain → Type 0) →
      Steady (coded M load store zeros) → Coding M load store zeros →
      ((records : ℕ) → 1024 ≤ records → records ≤ 1048576 → SoundMachine (May known records) M (Off records) (Idle records)) → Begins →
      Whole known (coded M load store zeros)
  coded-whole M load store zeros Idle steady coding sound begins =
      let keeps = coding_keeps M load store zeros coding in
      whole (coded M load store zeros)
      (λ records. Idle-kept (May known records) M (λ x. Unit {0}) (coded M load store zeros) (Loads M load store zeros) keeps (Off records) (Idle records))
      steady
      (λ records low high. sound-engine (May known records) M (λ x. Unit {0}) (coded M load store zeros) (Loads M load store zeros) keeps (Off records) (Idle records) (λ x ev ok. tt) (λ n x d s h. tt) (sound records low high))
      begins
