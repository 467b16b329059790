-- What a function left, for a step that is the same. Assumes nothing.
use Rattle.std.proofs.Common.{◌≡◌, ℕ, List, subst}
use Rattle.memory.specs.declared.registers.Registers.{Registers}
use Rattle.commits.specs.Acts.{Made, Says}
use Rattle.protocol.specs.declared.Told.{Told}

pub says_by : {d e : Made} {r₁ : Registers} {m₁ : List ℕ} {t : Told} {out out₁ : List ℕ} → d ≡ e → Says d r₁ m₁ t out out₁ → Says e r₁ m₁ t out out₁
says_by {r₁} {m₁} {t} {out} {out₁} q s = subst (λ x. Says x r₁ m₁ t out out₁) q s
