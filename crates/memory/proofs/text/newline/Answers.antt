use Rattle.std.proofs.Common.{not, eqb, ◌%◌, length, ap, ◌∙◌}
use Rattle.std.proofs.lemmas.List.{take_rest}
use Rattle.std.specs.List.{take_while}
use Rattle.memory.proofs.Texting.{newline_from}
use Rattle.memory.proofs.text.newline.Goals as goal

pub returns : goal.returns
returns c = newline_from c.args.from c.line_long.result c.args.cells.now (c.line_long.ensures ∙ ap (λ t. length (take_while (λ x. not (eqb (x % 256) 10)) t)) (take_rest c.args.cells.now c.args.from))
