-- The house itself as a machine. Assumes nothing: these are definitions.
use Rattle.std.specs.Prelude.{length, ◌==◌}
use Rattle.plain.specs.Pattern.{pick}
use Rattle.plain.specs.Run.{Engine, refused, Step}
use Rattle.memory.specs.Registers.{loaded, stored}
use Rattle.commits.specs.Acts.{Made}
use Rattle.core_house.specs.Machine.{answers, zeros}

-- THE HOUSE ITSELF: its memory at the start, and what it makes of memory and event. The registers are loaded from the memory and stored there again; a memory
-- of another length is left as it is.
abbrev pub stepped : Made → Step
stepped d = record { memory = stored d.registers d.memory; act = d.act }

unfoldable pub own : Engine
own = record { start = zeros; step = λ m ev. pick (length m == 262144) (stepped (answers (loaded m) m ev)) (record { memory = m; act = refused 0 }) }
