-- What the world tells the house. Assumes nothing: these are definitions.
use Rattle.std.specs.Prelude.{◌≡◌, ℕ, ◌+◌, ◌*◌, ◌<◌, List, [], ◌∷◌, take, ◌==◌, Result, MatchResult}
use Rattle.plain.specs.Pattern.{pick}
use Rattle.plain.specs.Run.{Event, on, said, page, next}
use Rattle.protocol.specs.declared.Event.{Event as Kind}
use Rattle.protocol.specs.declared.Event.TheVariants.{Power, Command, Record, Next}
use Rattle.protocol.specs.declared.NoEvent.{NoEvent}

abbrev pub kind_number : Kind → ℕ
kind_number Power = 0
kind_number Command = 1
kind_number Record = 2
kind_number Next = 3

-- the event with this number, or that there is none
abbrev pub Decodes : ℕ → Result Kind NoEvent → Type 0
Decodes k r = MatchResult r (λ e. kind_number e ≡ k) (λ no. (no.0 ≡ k) × (3 < k))

-- what the world tells is a kind and some bytes: 0 power, with a number of eight bytes, the highest first, 1 a command, 2 a record, 3 go on
unfoldable pub from_eight : ℕ → List ℕ → ℕ
from_eight n [] = n
from_eight n (b ∷ bs) = from_eight (256 * n + b) bs

unfoldable pub event_of : ℕ → List ℕ → Event
event_of k bs = pick (k == 0) (on (from_eight 0 (take 8 bs))) (pick (k == 1) (said bs) (pick (k == 2) (page bs) next))
