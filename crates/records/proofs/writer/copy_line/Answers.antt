use Rattle.std.proofs.Common.{[], ◌∷◌, get_or, ap, ◌∙◌, arith}
use Rattle.journal.specs.Log.{Piece, piece_in}
use Rattle.records.specs.Checked.{checked_record_of}
use Rattle.records.specs.Values.{piece_of}
use Rattle.records.proofs.Writing.{copy_written}
use Rattle.records.proofs.writer.copy_line.Goals as goal

pub returns : goal.returns
returns c =
    let e = c.piece_read-piece.ensures.piece in
    record {
      laid = copy_written c.args.index c.args.part (piece_of c.piece_read-piece.result) (piece_in (checked_record_of c.args.read.now)) c.args.out.now
          c.copy_from_slice.new.self c.copy_from_slice-2.new.self c.close.new.out e (omega arith)
          (c.copy_from_slice.ensures.after ∙ ap (λ t. 3 ∷ c.args.part ∷ get_or t 0 0 ∷ get_or t 1 0 ∷ []) c.to_be_bytes.ensures)
          (c.copy_from_slice-2.ensures.after ∙ c.to_be_bytes-2.ensures) c.close.ensures;
      long = ap (λ (b : Piece). b.long) e;
    }
