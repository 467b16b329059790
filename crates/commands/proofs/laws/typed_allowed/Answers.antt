use Rattle.commands.proofs.Typed.{typed-allowed}
use Rattle.commands.proofs.laws.typed_allowed.Goals as goal

pub returns : goal.returns
returns c = typed-allowed
