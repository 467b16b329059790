-- A record that was replayed: what its parts leave is what the whole leaves. Assumes nothing.
use Rattle.std.proofs.Common.{◌≡◌, ℕ, suc, ◌+◌, ◌*◌, List, refl, ap, ◌∙◌, subst}
use Rattle.plain.specs.Device.{Page}
use Rattle.journal.specs.Log.{Rec}
use Rattle.journal.specs.Small.{News}
use Rattle.records.specs.Checked.{checked_record_of}
use Rattle.memory.specs.declared.registers.Registers.{Registers}
use Rattle.protocol.specs.declared.Told.{Told}
use Rattle.protocol.specs.declared.Told.TheVariants.{Read}
use Rattle.protocol.specs.Acts.{ActTold}
use Rattle.commits.specs.Acts.{Says}
use Rattle.commits.specs.Setters.{with_used, with_tapes, with_kept}
use Rattle.recovery.specs.Wake.{kept_with, memory_with, next_record, replay_by, replay_record}

pub next_said : (c : Rec News) (r r₁ r₂ : Registers) (m m₁ : List ℕ) (told : Told) (out : List ℕ) → r₁ ≡ with_kept (kept_with c r.kept) r → m₁ ≡ memory_with c r m
    → told ≡ Read (2 * suc r₁.tapes.used + r₁.tapes.active) → r₂ ≡ with_tapes (with_used (suc r₁.tapes.used) r₁.tapes) r₁ → Says (next_record c r m) r₂ m₁ told out out
unfolding ActTold
next_said c r r₁ r₂ m m₁ told out a b t e = record {
  registers = e ∙ ap (λ z. with_tapes (with_used (suc z.tapes.used) z.tapes) z) a;
  memory = b;
  act = (t ∙ ap (λ z. Read (2 * suc z.tapes.used + z.tapes.active)) a, refl);
}

pub replayed_as : (p : Page) (x : Rec News) (r r₁ : Registers) (m m₁ : List ℕ) (told : Told) (out : List ℕ) → x ≡ checked_record_of p → Says (replay_by x r m) r₁ m₁ told out out
    → Says (replay_record p r m) r₁ m₁ told out out
unfolding replay_record
replayed_as p x r r₁ m m₁ told out e s = subst (λ z. Says (replay_by z r m) r₁ m₁ told out out) e s
