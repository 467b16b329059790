use Rattle.std.proofs.Common.{arith}
use Rattle.commits.proofs.Pieces.{piece_put}
use Rattle.commits.proofs.line_parts.put_page.Goals as goal

pub returns : goal.returns
returns c = λ text h k.
    piece_put c.args.memory.now c.text_cells-cells.result.now c.args.out.now c.encode_line.new.out c.args.line.from c.args.line.to c.args.part
    c.min-from.result c.min-here.result text c.requires.0 (omega arith) h k c.min-from.ensures c.min-here.ensures c.text_cells-cells.ensures.cells c.encode_line.ensures
