-- One step of an engine over lent memory and a lent row of bytes. Assumes nothing: these are definitions.
use Rattle.std.specs.Prelude.{◌≡◌, ℕ, Bool, true, false, ◌&&◌, List, length, ◌==◌, nat_le}
use Rattle.plain.specs.Run.{Engine}
use Rattle.protocol.specs.declared.Told.{Told}
use Rattle.protocol.specs.declared.Told.TheVariants.{No}
use Rattle.protocol.specs.Acts.{ActTold}
use Rattle.protocol.specs.Events.{event_of}

-- one step: for memories of the engine's own length and a lent row of at least 131,072 bytes; for others number 0 is told and nothing is changed
unfoldable pub StepSays : (own : Engine) (memory : List ℕ) (kind : ℕ) (bytes out : List ℕ) → Bool → Told → (memory₁ out₁ : List ℕ) → Type 0
StepSays own memory kind bytes out true r memory₁ out₁ =
    (memory₁ ≡ (own.step memory (event_of kind bytes)).memory) × ActTold (own.step memory (event_of kind bytes)).act r out out₁
StepSays own memory kind bytes out false r memory₁ out₁ = (r ≡ No 0) × (memory₁ ≡ memory) × (out₁ ≡ out)

unfoldable pub step_fits : (own : Engine) (memory : List ℕ) (kind : ℕ) (bytes out : List ℕ) → Bool
step_fits own memory kind bytes out = length memory == length own.start && (nat_le kind 3 && nat_le 131072 (length out))
