use Rattle.std.proofs.Common.{arith}
use Rattle.typed.specs.Meaning.{command_of}
use Rattle.typed.proofs.Wholes.{read_all}
use Rattle.typed.proofs.commands.read.Goals as goal

pub returns : goal.returns
returns c = read_all command_of c.read_command.result c.args.typed.now (omega arith) (λ i. omega (arith, c.type_inv.typed i)) c.read_command.ensures
