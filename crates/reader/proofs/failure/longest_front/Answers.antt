use Rattle.std.proofs.Common.{◌≡◌, true, [], refl, arith}
use Rattle.plain.specs.Command.{a_range, deed, command, whole_command}
use Rattle.reader.specs.Front.{begins}
use Rattle.reader.proofs.failure.longest_front.Goals as goal

-- nothing typed is a command
from_nothing : begins [] ≡ true
unfolding begins a_range deed command whole_command
from_nothing = refl

pub loop-low-init : goal.loop-low-init
loop-low-init c = (omega arith, omega arith, from_nothing, λ h. absurd (omega arith))
