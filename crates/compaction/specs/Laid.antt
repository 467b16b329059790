-- A page over the front of a lent row. Assumes nothing: this is a definition.
use Rattle.std.specs.Prelude.{ℕ, List, ◌++◌, length, drop}
use Rattle.plain.specs.Device.{Page}

abbrev pub laid : Page → List ℕ → List ℕ
laid p out = p ++ drop (length p) out
