use Rattle.std.proofs.Common.{◌-◌, ◌%◌, ◌++◌, take, drop, sym, ap, ◌∙◌}
use Rattle.journal.specs.Log.{line}
use Rattle.records.specs.Pages.{page_of}
use Rattle.engine.specs.Packing.{piece_of}
use Rattle.memory.specs.declared.phase.Phase.TheVariants.{LinePut}
use Rattle.memory.specs.Abstract.{text_of}
use Rattle.protocol.specs.declared.Told.TheVariants.{Append}
use Rattle.protocol.specs.Acts.{ActTold}
use Rattle.commits.specs.Setters.{in_phase, with_kept, with_tapes}
use Rattle.commits.specs.Putting.{first_line, put_piece}
use Rattle.commits.proofs.Pieces.{line-long}
use Rattle.commits.proofs.line_parts.put_piece.Goals as goal

pub returns : goal.returns
unfolding put_piece ActTold
returns c =
    let r = c.args.registers.now in
    let m = c.args.memory.now in
    let out = c.args.out.now in
    let part = r.putting.part in
    let f = c.first_line-line.ensures in
    record {
      registers = λ i. in_phase LinePut (with_kept (c.pending_then-registers.ensures i) (with_tapes (c.lengthen-registers.ensures i) r));
      memory = c.note_pending.ensures;
      act = (
        ap Append c.target-tape.ensures,
        c.put_page.ensures r.job.text f.within c.requires.1.1.bounded.text
            ∙ (λ i. page_of (line (part % 256) (piece_of (take (f.to i - f.from i) (drop (f.from i) (text_of r.job.text m))) part)) ++ drop 512 out)
            ∙ (λ i. page_of (line (part % 256) (piece_of (first_line r m) part)) ++ drop (sym (line-long (part % 256) part (first_line r m)) i) out),
      );
    }
