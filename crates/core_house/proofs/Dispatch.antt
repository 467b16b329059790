-- What is told is answered by the phase. Assumes nothing.
use Rattle.std.proofs.Common.{◌≡◌, ℕ, List, sym, refl, subst}
use Rattle.plain.specs.Device.{Page}
use Rattle.memory.specs.declared.phase.Phase.{Phase}
use Rattle.memory.specs.declared.phase.Phase.TheVariants.{Idle, WakeFirst, WakeSecond, Replaying, FreshBegun, FreshHead, FreshFast, CompactBegun, SettingUp, CarryRead, CarryPut, CompactFast, Switched, Fetching, RowShown, LinePut, CommitPut, CommitFast, CountShown, FileShown}
use Rattle.memory.specs.declared.registers.Registers.{Registers}
use Rattle.protocol.specs.declared.Told.{Told}
use Rattle.commits.specs.Acts.{Says}
use Rattle.commits.specs.Rows.{refuses}
use Rattle.core_house.specs.Machine.{on_record, on_next}

module _ (r : Registers) (m : List ℕ) {r₁ : Registers} {m₁ : List ℕ} {told : Told} {out out₁ : List ℕ} where
  pub record_at : (p : Page) (ph : Phase) → r.phase ≡ ph → Says (on_record ph p r m) r₁ m₁ told out out₁ → Says (on_record r.phase p r m) r₁ m₁ told out out₁
  record_at p ph e s = subst (λ q. Says (on_record q p r m) r₁ m₁ told out out₁) (sym e) s

  pub next_at : (ph : Phase) → r.phase ≡ ph → Says (on_next ph r m) r₁ m₁ told out out₁ → Says (on_next r.phase r m) r₁ m₁ told out out₁
  next_at ph e s = subst (λ q. Says (on_next q r m) r₁ m₁ told out out₁) (sym e) s

  -- in any other phase it is lost
  pub record_lost : (p : Page) (ph : Phase) → (ph ≡ WakeFirst → ⊥) → (ph ≡ WakeSecond → ⊥) → (ph ≡ Replaying → ⊥) → (ph ≡ CarryRead → ⊥) → (ph ≡ Fetching → ⊥) → Says (refuses 999 r m) r₁ m₁ told out out₁ → Says (on_record ph p r m) r₁ m₁ told out out₁
  record_lost p Idle n0 n1 n2 n3 n4 s = s
  record_lost p WakeFirst n0 n1 n2 n3 n4 s = absurd (n0 refl)
  record_lost p WakeSecond n0 n1 n2 n3 n4 s = absurd (n1 refl)
  record_lost p Replaying n0 n1 n2 n3 n4 s = absurd (n2 refl)
  record_lost p FreshBegun n0 n1 n2 n3 n4 s = s
  record_lost p FreshHead n0 n1 n2 n3 n4 s = s
  record_lost p FreshFast n0 n1 n2 n3 n4 s = s
  record_lost p CompactBegun n0 n1 n2 n3 n4 s = s
  record_lost p SettingUp n0 n1 n2 n3 n4 s = s
  record_lost p CarryRead n0 n1 n2 n3 n4 s = absurd (n3 refl)
  record_lost p CarryPut n0 n1 n2 n3 n4 s = s
  record_lost p CompactFast n0 n1 n2 n3 n4 s = s
  record_lost p Switched n0 n1 n2 n3 n4 s = s
  record_lost p Fetching n0 n1 n2 n3 n4 s = absurd (n4 refl)
  record_lost p RowShown n0 n1 n2 n3 n4 s = s
  record_lost p LinePut n0 n1 n2 n3 n4 s = s
  record_lost p CommitPut n0 n1 n2 n3 n4 s = s
  record_lost p CommitFast n0 n1 n2 n3 n4 s = s
  record_lost p CountShown n0 n1 n2 n3 n4 s = s
  record_lost p FileShown n0 n1 n2 n3 n4 s = s

  pub next_lost : (ph : Phase) → (ph ≡ FreshBegun → ⊥) → (ph ≡ FreshHead → ⊥) → (ph ≡ FreshFast → ⊥) → (ph ≡ CompactBegun → ⊥) → (ph ≡ SettingUp → ⊥) → (ph ≡ CarryPut → ⊥) → (ph ≡ CompactFast → ⊥) → (ph ≡ Switched → ⊥) → (ph ≡ RowShown → ⊥) → (ph ≡ LinePut → ⊥) → (ph ≡ CommitPut → ⊥) → (ph ≡ CommitFast → ⊥) → (ph ≡ CountShown → ⊥) → (ph ≡ FileShown → ⊥) → Says (refuses 999 r m) r₁ m₁ told out out₁ → Says (on_next ph r m) r₁ m₁ told out out₁
  next_lost Idle n0 n1 n2 n3 n4 n5 n6 n7 n8 n9 n10 n11 n12 n13 s = s
  next_lost WakeFirst n0 n1 n2 n3 n4 n5 n6 n7 n8 n9 n10 n11 n12 n13 s = s
  next_lost WakeSecond n0 n1 n2 n3 n4 n5 n6 n7 n8 n9 n10 n11 n12 n13 s = s
  next_lost Replaying n0 n1 n2 n3 n4 n5 n6 n7 n8 n9 n10 n11 n12 n13 s = s
  next_lost FreshBegun n0 n1 n2 n3 n4 n5 n6 n7 n8 n9 n10 n11 n12 n13 s = absurd (n0 refl)
  next_lost FreshHead n0 n1 n2 n3 n4 n5 n6 n7 n8 n9 n10 n11 n12 n13 s = absurd (n1 refl)
  next_lost FreshFast n0 n1 n2 n3 n4 n5 n6 n7 n8 n9 n10 n11 n12 n13 s = absurd (n2 refl)
  next_lost CompactBegun n0 n1 n2 n3 n4 n5 n6 n7 n8 n9 n10 n11 n12 n13 s = absurd (n3 refl)
  next_lost SettingUp n0 n1 n2 n3 n4 n5 n6 n7 n8 n9 n10 n11 n12 n13 s = absurd (n4 refl)
  next_lost CarryRead n0 n1 n2 n3 n4 n5 n6 n7 n8 n9 n10 n11 n12 n13 s = s
  next_lost CarryPut n0 n1 n2 n3 n4 n5 n6 n7 n8 n9 n10 n11 n12 n13 s = absurd (n5 refl)
  next_lost CompactFast n0 n1 n2 n3 n4 n5 n6 n7 n8 n9 n10 n11 n12 n13 s = absurd (n6 refl)
  next_lost Switched n0 n1 n2 n3 n4 n5 n6 n7 n8 n9 n10 n11 n12 n13 s = absurd (n7 refl)
  next_lost Fetching n0 n1 n2 n3 n4 n5 n6 n7 n8 n9 n10 n11 n12 n13 s = s
  next_lost RowShown n0 n1 n2 n3 n4 n5 n6 n7 n8 n9 n10 n11 n12 n13 s = absurd (n8 refl)
  next_lost LinePut n0 n1 n2 n3 n4 n5 n6 n7 n8 n9 n10 n11 n12 n13 s = absurd (n9 refl)
  next_lost CommitPut n0 n1 n2 n3 n4 n5 n6 n7 n8 n9 n10 n11 n12 n13 s = absurd (n10 refl)
  next_lost CommitFast n0 n1 n2 n3 n4 n5 n6 n7 n8 n9 n10 n11 n12 n13 s = absurd (n11 refl)
  next_lost CountShown n0 n1 n2 n3 n4 n5 n6 n7 n8 n9 n10 n11 n12 n13 s = absurd (n12 refl)
  next_lost FileShown n0 n1 n2 n3 n4 n5 n6 n7 n8 n9 n10 n11 n12 n13 s = absurd (n13 refl)
