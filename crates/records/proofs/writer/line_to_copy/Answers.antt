use Rattle.std.proofs.Common.{◌∙◌, arith}
use Rattle.records.proofs.Writing.{recopied_written}
use Rattle.records.proofs.writer.line_to_copy.Goals as goal

pub returns : goal.returns
returns c =
    recopied_written c.args.index c.args.read.now c.args.out.now c.copy_from_slice.new.self c.copy_from_slice-2.new.self c.copy_from_slice-3.new.self
    (omega arith) (omega arith) c.copy_from_slice.ensures.after (c.copy_from_slice-2.ensures.after ∙ c.to_be_bytes.ensures) c.copy_from_slice-3.ensures.after
