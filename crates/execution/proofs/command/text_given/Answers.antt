use Rattle.std.proofs.Common.{refl, ap, ◌∙◌}
use Rattle.execution.proofs.Given.{text-back}
use Rattle.execution.proofs.command.text_given.Goals as goal

pub returns : goal.returns
returns c = ap (λ b. b.now) c.unwrap_or.ensures ∙ text-back c.args.lines _ refl
