use Rattle.std.proofs.Common.{◌≡◌, Option, None, Some, ap, ◌∙◌, arith}
use Rattle.std.specs.Option.{UnwrapsOrElse, unwrap_or}
use Rattle.memory.specs.declared.phase.Phase.{Phase}
use Rattle.memory.specs.declared.phase.Phase.TheVariants.{Idle}
use Rattle.memory.specs.Numbers.{phase_of}
use Rattle.memory.proofs.phase.PhaseFromU64.from.Goals as goal

unwrapped : (o : Option Phase) (r : Phase) → UnwrapsOrElse o (λ x. x ≡ Idle) r → r ≡ unwrap_or o Idle
unwrapped None r u = u
unwrapped (Some x) r u = u

pub returns : goal.returns
unfolding phase_of
returns c =
    unwrapped c.copied.result c.unwrap_or_default.result c.unwrap_or_default.ensures
    ∙ ap (λ o. unwrap_or o Idle) c.copied.ensures ∙ c.get.ensures.lookup.4 (omega arith) Idle
