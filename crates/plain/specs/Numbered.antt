-- Ids are numbers from 1 on, 0 being no line's. Assumes nothing: these are definitions.
use Rattle.std.specs.Prelude.{◌≡◌, Bool, true, ◌&&◌, leb, ◌∷◌, ◌++◌, nat_le}
use Rattle.plain.specs.Pattern.{every}
use Rattle.plain.specs.Command.{Command}
use Rattle.plain.specs.House.{Plain, Stand, turn}
use Rattle.plain.specs.Promise.{fair}

abbrev pub from_one : Stand → Bool
from_one s = every (λ l. leb 1 l.id) s.lines

unfoldable pub numbered : Plain → Bool
numbered w = nat_le 1 w.next && every from_one (w.now ∷ (w.before ++ w.undone))

unfoldable pub StaysNumbered : Type 0
StaysNumbered = (w : Plain) (c : Command) → fair w ≡ true → numbered w ≡ true → numbered (turn w c).next ≡ true
