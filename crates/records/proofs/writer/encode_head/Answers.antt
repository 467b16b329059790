use Rattle.std.proofs.Common.{[], ◌∷◌, ◌++◌, drop, set, refl, ap, ◌∙◌, arith}
use borrow.Rule.Slice.PartMut.{put_mid}
use Rattle.records.specs.Pages.{fours, page_of}
use Rattle.records.proofs.Writing.{written_first, page-closed}
use Rattle.records.proofs.writer.encode_head.Goals as goal

pub returns : goal.returns
unfolding page_of
returns c =
    let out = c.args.out.now in
    let part = c.put_numbers.new.out in
    page-closed 9 502 (1 ∷ fours (c.args.generation ∷ c.args.entries ∷ [])) [] out (put_mid 1 8 (set out 0 1) part) c.close.new.out
    (written_first 1 8 part out (omega arith) ∙ ap (λ t. (1 ∷ t) ++ drop 9 out) c.put_numbers.ensures) refl refl c.requires c.close.ensures
