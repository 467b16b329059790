-- The tape that the code chooses, in the words of the log. Assumes nothing: these are definitions.
use Rattle.std.specs.Prelude.{Some, None, Option}
use Rattle.journal.specs.Log.{Which, neither, only}
use Rattle.journal.specs.declared.Tape.{Tape}
use Rattle.journal.specs.declared.Tape.TheVariants.{First, Second}

abbrev pub which_of : Option Tape → Which
which_of None = neither
which_of (Some First) = only 0
which_of (Some Second) = only 1
