-- What a step says, from what its parts say. Assumes nothing.
use Rattle.std.proofs.Common.{◌≡◌, ℕ, ◌≤◌, List, length, sym, ap, ◌∙◌, subst}
use Rattle.protocol.specs.declared.Told.{Told}
use Rattle.protocol.specs.Acts.{ActTold}
use Rattle.protocol.specs.Events.{event_of}
use Rattle.protocol.specs.Stepping.{StepSays, step_fits}
use Rattle.protocol.proofs.Stepping.{fits}
use Rattle.memory.specs.declared.registers.Registers.{Registers}
use Rattle.memory.specs.Registers.{loaded, stored}
use Rattle.commits.specs.Acts.{Says}
use Rattle.core_house.specs.Machine.{answers}
use Rattle.core_house.specs.Entry.{own}
use Rattle.core_house.proofs.Right.{zeros-long, own_steps}

pub own-long : length own.start ≡ 262144
unfolding own
own-long = zeros-long

module _ (m : List ℕ) (k : ℕ) (bs out : List ℕ) where
  pub steps : (r r₁ : Registers) (told : Told) (m₁ m₂ out₁ : List ℕ) → length m ≡ 262144 → k ≤ 3 → 131072 ≤ length out → r ≡ loaded m → Says (answers r m (event_of k bs)) r₁ m₁ told out out₁ → m₂ ≡ stored r₁ m₁ →
      StepSays own m k bs out (step_fits own m k bs out) told m₂ out₁
  unfolding StepSays
  steps r r₁ told m₁ m₂ out₁ long low wide load a put =
      let b : Says (answers (loaded m) m (event_of k bs)) r₁ m₁ told out out₁ = subst (λ z. Says (answers z m (event_of k bs)) r₁ m₁ told out out₁) load a in
      let s = own_steps m (event_of k bs) long in
      rw (fits own own-long m k bs out long low wide) (put ∙ (λ i. stored (b.registers i) (b.memory i)) ∙ sym (ap (λ z. z.memory) s), subst (λ z. ActTold z.act told out out₁) (sym s) b.act)
