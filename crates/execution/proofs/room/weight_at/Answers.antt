use Rattle.std.proofs.Common.{arith}
use Rattle.execution.proofs.Sums.{none_at, weight-there}
use Rattle.execution.proofs.room.weight_at.Goals as goal

pub returns-then-slot-files : goal.returns-then-slot-files
returns-then-slot-files c = none_at c.args.files c.args.slot c.args.memory.now (omega arith)

pub returns : goal.returns
returns c = weight-there c.args.files c.args.slot c.args.memory.now c.file_at-file.result c.requires.0 (omega arith) c.requires.1 c.file_at-file.ensures
