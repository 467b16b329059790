-- What a step says, from what its parts say. Assumes nothing.
use Rattle.std.proofs.Common.{◌≡◌, ℕ, ◌≤◌, ◌⊎◌, inl, inr, List, length, take, sym, refl, ap, ◌∙◌, subst, arith}
use Rattle.protocol.specs.declared.Told.{Told}
use Rattle.protocol.specs.declared.Told.TheVariants.{Done, No}
use Rattle.protocol.specs.Acts.{ActTold}
use Rattle.protocol.specs.declared.Event.{Event}
use Rattle.protocol.specs.declared.Event.TheVariants.{Record, Next}
use Rattle.protocol.specs.Events.{from_eight, event_of, kind_number}
use Rattle.protocol.specs.Stepping.{StepSays, step_fits}
use Rattle.protocol.proofs.Stepping.{fits}
use Rattle.memory.specs.declared.registers.Registers.{Registers}
use Rattle.memory.specs.Registers.{loaded, stored}
use Rattle.house.specs.Machine.{refused_by, woken, answers, machine}
use Rattle.house.specs.Entry.{own, Answered}
use Rattle.house.proofs.Right.{zeros-long, stored_is}

pub own-long : length own.start ≡ 262144
unfolding own
own-long = zeros-long

-- ANSWERS, by event
module _ (r : Registers) (bs : List ℕ) where
  pub power_answered : Answered r (event_of 0 bs) (woken (from_eight 0 (take 8 bs)) r) Done
  unfolding event_of answers ActTold
  power_answered = record { state = refl; act = λ out. (refl, refl) }

  pub said_answered : Answered r (event_of 1 bs) r (No (refused_by bs))
  unfolding event_of answers ActTold
  said_answered = record { state = refl; act = λ out. (refl, refl) }

  pub other_answered : (ev : Event) → (ev ≡ Record) ⊎ (ev ≡ Next) → Answered r (event_of (kind_number ev) bs) r (No 2)
  unfolding event_of answers ActTold
  other_answered ev is =
      elim is [
        | inl e ↦ rw e (record { state = refl; act = λ out. (refl, refl) })
        | inr e ↦ rw e (record { state = refl; act = λ out. (refl, refl) })
      ]

-- A STEP
module _ (m : List ℕ) (k : ℕ) (bs out : List ℕ) where
  pub steps : (r r₁ : Registers) (told : Told) (m₁ : List ℕ) → length m ≡ 262144 → k ≤ 3 → 131072 ≤ length out → r ≡ loaded m → Answered r (event_of k bs) r₁ told → m₁ ≡ stored r₁ m →
      StepSays own m k bs out (step_fits own m k bs out) told m₁ out
  unfolding StepSays own machine
  steps r r₁ told m₁ long low wide load a put =
      let b : Answered (loaded m) (event_of k bs) r₁ told = subst (λ z. Answered z (event_of k bs) r₁ told) load a in
      let e = stored_is (answers (loaded m) (event_of k bs)).state m (omega arith) in
      rw (fits own own-long m k bs out long low wide) (put ∙ ap (λ z. stored z m) b.state ∙ sym e, b.act out)
