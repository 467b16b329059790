use Rattle.std.proofs.Common.{[], ◌∷◌, ◌++◌, get_or, drop, refl, ap, ◌∙◌, arith}
use Rattle.records.specs.Pages.{two, page_of}
use Rattle.records.specs.Values.{low_bytes}
use Rattle.records.proofs.Writing.{page-closed}
use Rattle.records.proofs.writer.encode_line.Goals as goal

pub returns : goal.returns
unfolding page_of
returns c =
    let out = c.args.out.now in
    let front = 2 ∷ c.args.part ∷ two c.args.long ++ (0 ∷ 0 ∷ 0 ∷ 0 ∷ []) in
    page-closed 8 503 front (low_bytes c.args.cells.now) out (c.copy_from_slice.new.self ++ drop 8 out) c.close.new.out
    (ap (λ t. t ++ drop 8 out) (c.copy_from_slice.ensures.after ∙ ap (λ t. 2 ∷ c.args.part ∷ get_or t 0 0 ∷ get_or t 1 0 ∷ 0 ∷ 0 ∷ 0 ∷ 0 ∷ []) c.to_be_bytes.ensures))
    refl refl (omega arith) c.close.ensures
