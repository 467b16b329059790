use Rattle.std.proofs.Common.{◌≤◌, length, sym, ap, subst}
use Rattle.journal.specs.Log.{Piece, piece_in}
use Rattle.records.proofs.Read.{piece-short}
use Rattle.records.proofs.reader.piece_read.Goals as goal

pub returns-in-Line-clause-short : goal.returns-in-Line-clause-short
returns-in-Line-clause-short c = subst (λ (b : Piece). length b.bytes ≤ 503) (sym (ap piece_in c.in-Line.ensures)) (piece-short c.args.page.now)

pub returns-in-Line-2-clause-short : goal.returns-in-Line-2-clause-short
returns-in-Line-2-clause-short c = subst (λ (b : Piece). length b.bytes ≤ 503) (sym (ap piece_in c.in-Line.ensures)) (piece-short c.args.page.now)
