-- What one step makes: registers, memory and an act; and how it is told. Assumes nothing: these are definitions.
use Rattle.std.specs.Prelude.{◌≡◌, ℕ, List}
use Rattle.plain.specs.Run.{Act}
use Rattle.protocol.specs.Acts.{ActTold}
use Rattle.memory.specs.declared.registers.Registers.{Registers}
use Rattle.protocol.specs.declared.Told.{Told}

pub record Made : Type 0 where
  pub registers : Registers
  pub memory : List ℕ
  pub act : Act

abbrev pub made : Registers → List ℕ → Act → Made
made r m a = record { registers = r; memory = m; act = a }

-- a function left just this: registers, memory, what it told, and the row
pub record Says (d : Made) (r₁ : Registers) (m₁ : List ℕ) (told : Told) (out out₁ : List ℕ) : Type 0 where
  pub registers : r₁ ≡ d.registers
  pub memory : m₁ ≡ d.memory
  pub act : ActTold d.act told out out₁
