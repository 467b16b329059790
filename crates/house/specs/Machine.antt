-- The machine on its registers: it takes note of power and knows no command. Assumes nothing: these are definitions.
use Rattle.std.specs.Prelude.{ℕ, Bool, false, List, replicate}
use Rattle.plain.specs.Pattern.{pick, none_of}
use Rattle.plain.specs.Command.{Command, reads}
use Rattle.plain.specs.Run.{Event, on, said, page, next, done, refused}
use Rattle.journal.specs.Machine.{Did, did, Machine, laid}
use Rattle.memory.specs.declared.phase.Phase.TheVariants.{Idle}
use Rattle.memory.specs.declared.registers.Registers.{Registers}
use Rattle.memory.specs.Registers.{Tame, loaded, numbers}

-- no command is known
abbrev pub nothing : Command → Bool
nothing c = false

-- what can't be read, and what isn't known yet
abbrev pub refused_by : List ℕ → ℕ
refused_by text = pick (none_of (reads text)) 1 2

-- power came, with room for so many records on a tape
abbrev pub woken : ℕ → Registers → Registers
woken room r =
    record {
      phase = Idle;
      tapes =
          record {
            room = room;
            active = r.tapes.active;
            generation = r.tapes.generation;
            used = r.tapes.used;
            busy = r.tapes.busy;
            other = r.tapes.other;
            cursor = r.tapes.cursor;
          };
      kept = r.kept;
      job = r.job;
      walking = r.walking;
      putting = r.putting;
      carrying = r.carrying;
    }

unfoldable pub answers : Registers → Event → Did Registers
answers r (on room) = did (woken room r) done
answers r (said text) = did r (refused (refused_by text))
answers r (page bytes) = did r (refused 2)
answers r next = did r (refused 2)

unfoldable pub zeros : List ℕ
zeros = replicate 262144 0

unfoldable pub machine : Machine Registers
machine = record { start = loaded zeros; step = answers; Ok = λ r ev. Tame r }

-- its memory: the registers, and what is behind them
abbrev pub store : Registers → List ℕ → List ℕ
store r m = laid (numbers r) m
