-- The house itself as a machine. Assumes nothing: these are definitions.
use Rattle.std.specs.Prelude.{◌≡◌, ℕ, List}
use Rattle.plain.specs.Run.{Engine, Event}
use Rattle.journal.specs.Machine.{coded}
use Rattle.memory.specs.declared.registers.Registers.{Registers}
use Rattle.memory.specs.Registers.{loaded}
use Rattle.house.specs.Machine.{answers, machine, store, zeros}
use Rattle.protocol.specs.declared.Told.{Told}
use Rattle.protocol.specs.Acts.{ActTold}

-- The house: its memory at the start, and what it makes of memory and event.
unfoldable pub own : Engine
own = coded machine loaded store zeros

-- registers and act after something was told, whatever the row holds
pub record Answered (r : Registers) (ev : Event) (r₁ : Registers) (told : Told) : Type 0 where
  pub state : r₁ ≡ (answers r ev).state
  pub act : (out : List ℕ) → ActTold (answers r ev).act told out out
