use Rattle.std.proofs.Common.{◌≡◌, suc, ◌+◌, ◌-◌, ◌++◌, length, drop, sym, refl, ap, ◌∙◌, arith}
use Rattle.std.proofs.lemmas.List.{length-append}
use Rattle.plain.specs.Pattern.{pick, eight}
use Rattle.memory.specs.Abstract.{text_of}
use Rattle.records.specs.Values.{piece_of}
use Rattle.execution.specs.Walk.{row_of}
use Rattle.execution.proofs.Walked.{row_laid, row-long, eight-long}
use Rattle.execution.proofs.walk.lay_row.Goals as goal

pub returns-then-numbered : goal.returns-then-numbered
returns-then-numbered c =
    let r = c.args.registers.now in
    let m = c.args.memory.now in
    let out = c.args.out.now in
    let bs = c.args.piece.bytes.now in
    let t = text_of r.walking.bytes m in
    let n : r.walking.line + 1 ≡ suc r.walking.line = omega arith in
    let e : c.put_number.new.out ≡ eight (suc r.walking.line) = c.put_number.ensures ∙ ap eight n in
    let k : length c.put_number.new.out ≡ 8 = ap length e ∙ eight-long (suc r.walking.line) in
    let row : c.put_number.new.out ++ (t ++ bs) ≡ row_of c.args.numbered (piece_of c.args.piece) r m =
    ap (λ x. x ++ (t ++ bs)) e ∙ ap (λ b. pick b (eight (suc r.walking.line) ++ (t ++ bs)) (t ++ bs)) (sym c.if-numbered.true) in
    record {
      long = sym (length-append c.put_number.new.out (t ++ bs) ∙ (λ i. k i + row-long r.walking.bytes m bs c.requires.0 c.requires.1.1.0.walking.bytes i)) ∙ ap length row;
      row = row_laid r.walking.bytes (length (c.put_number.new.out ++ drop 8 out) - 8) t bs out c.put_number.new.out c.lay_text.new.row k (omega arith) refl
          c.lay_text.ensures ∙ ap (λ x. x ++ drop (8 + (r.walking.bytes + length bs)) out) row;
    }
