-- What a function says, by cases of a test. Assumes nothing.
use Rattle.std.proofs.Common.{◌≡◌, ℕ, Bool, true, false, List, sym, subst}
use Rattle.plain.specs.Pattern.{pick}
use Rattle.memory.specs.declared.registers.Registers.{Registers}
use Rattle.protocol.specs.declared.Told.{Told}
use Rattle.commits.specs.Acts.{Made, Says}

module _ (b : Bool) (d e : Made) (r : Registers) (m : List ℕ) (told : Told) (out out₁ : List ℕ) where
  pub says_yes : b ≡ true → Says d r m told out out₁ → Says (pick b d e) r m told out out₁
  says_yes h s = subst (λ t. Says (pick t d e) r m told out out₁) (sym h) s

  pub says_no : b ≡ false → Says e r m told out out₁ → Says (pick b d e) r m told out out₁
  says_no h s = subst (λ t. Says (pick t d e) r m told out out₁) (sym h) s
