use Rattle.std.proofs.Common.{map, sym, ◌∙◌, ne_eqb}
use Rattle.std.proofs.lemmas.List.{length-map}
use Rattle.memory.specs.Sections.{low}
use Rattle.memory.proofs.Filing.{same_unlike, same_zip}
use Rattle.memory.proofs.small.same_name.Goals as goal

pub returns-then-cells-name : goal.returns-then-cells-name
returns-then-cells-name c = c.same_bytes.ensures ∙ same_zip c.args.cells.now c.args.name.now c.if-cells-name.true

pub returns-else-cells-name : goal.returns-else-cells-name
returns-else-cells-name c =
    ne_eqb _ _ c.if-cells-name.false ∙ sym (same_unlike (map low c.args.cells.now) c.args.name.now (λ e. c.if-cells-name.false (sym (length-map c.args.cells.now low) ∙ e)))
