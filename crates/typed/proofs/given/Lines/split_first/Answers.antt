use Rattle.std.proofs.Common.{[], ◌+◌, ◌∷◌, take, sym, ap, ◌∙◌}
use Rattle.std.proofs.lemmas.List.{take_rest}
use Rattle.plain.specs.Command.{lines_of}
use Rattle.typed.specs.Meaning.{text_lines}
use Rattle.typed.proofs.Texts.{split_at, unsplit}
use Rattle.typed.proofs.given.Lines.split_first.Goals as goal

pub returns-in-Some : goal.returns-in-Some
returns-in-Some c =
    let text = c.in_ok-text.text.now in
    let i = c.in-Some.i in
    ap (λ t. take i text ∷ lines_of [] t) (take_rest text (i + 1)) ∙ split_at text i (sym c.newline.ensures ∙ c.in-Some.is) ∙ ap text_lines (sym c.in_ok-text.was)

pub returns-in-None : goal.returns-in-None
returns-in-None c = unsplit c.in_ok-text.text.now (sym c.newline.ensures ∙ c.in-None.is) ∙ ap text_lines (sym c.in_ok-text.was)
