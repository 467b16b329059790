use Rattle.std.proofs.Common.{sym, ap, ◌∙◌, arith}
use Rattle.typed.specs.Meaning.{bytes}
use Rattle.typed.specs.Answer.{listed}
use Rattle.typed.proofs.Texts.{on_by_one, past_end}
use Rattle.typed.proofs.given.Lines.nth.Goals as goal

pub returns-in_err-rest : goal.returns-in_err-rest
returns-in_err-rest c = ap (listed bytes) c.from_residual.ensures ∙ past_end _ c.loop.counter c.args.n (omega arith) (c.loop.invariant ∙ sym c.in_err-rest.ensures)

pub loop-preserved : goal.loop-preserved
loop-preserved c = on_by_one _ _ _ c.loop.counter (c.loop.invariant ∙ sym c.in_ok-rest.ensures)
