use Rattle.execution.proofs.Walked.{text-laid}
use Rattle.execution.proofs.walk.lay_text.Goals as goal

pub returns : goal.returns
returns c =
    text-laid c.args.kept c.args.memory.now c.args.row.now c.copy_out.new.out c.args.bytes.now c.copy_from_slice.new.self c.requires.0 c.requires.1.0
    c.copy_out.ensures c.copy_from_slice.ensures.after
