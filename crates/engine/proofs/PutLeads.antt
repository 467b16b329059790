-- Where putting a command's records on leads, on one tape or on both, from the room that there was when the command began. Assumes nothing.
use Rattle.std.proofs.Common.{◌≡◌, ℕ, suc, ◌+◌, ◌*◌, ◌≤◌, true, false, List, length, sym, ◌∙◌, subst, arith}
use lib.ListN.{length-map}
use Rattle.plain.specs.House.{Plain}
use Rattle.plain.specs.Device.{Device}
use Rattle.journal.specs.Log.{Position, apply, positions}
use Rattle.journal.specs.Room.{Rooms, Carrying}
use Rattle.journal.proofs.Alike.{alike_length}
use Rattle.journal.proofs.Machine.{after_did}
use Rattle.journal.proofs.Waiting.{waiting}
use Rattle.commands.specs.Kept.{Kept, directory}
use Rattle.commands.specs.Held.{Held}
use Rattle.commands.specs.Turn.{more_rows}
use Rattle.engine.specs.State.{House, passive}
use Rattle.engine.specs.Fits.{Fits}
use Rattle.engine.specs.Packing.{packs, records_on}
use Rattle.engine.specs.Machine.{need, news_of, start_pass, threshold}
use Rattle.engine.proofs.Facts.{Codec, Quiet, Busy}
use Rattle.engine.proofs.Course.{Course, Leads, On-course}
use Rattle.engine.proofs.Devices.{sides_apart}
use Rattle.engine.proofs.Shares.{records_on_most, directory_weighs}
use Rattle.engine.proofs.Splices.{OnlyNew, rooms_here, rest_after}
use Rattle.engine.proofs.PutBrings.{Bringing}
use Rattle.engine.proofs.PutCommit.{pass_quiet}
use Rattle.engine.proofs.PutBoth.{pass_busy}

-- as long as a tape isn't full of what is carried, neither tape is full
carrying-room : {R T m n V S J : ℕ} → Rooms R T → Carrying R T m n V S J → 64 * V ≤ 32 * R → (m ≤ R) × (n ≤ R)
carrying-room r c v = (
  let a = c.old in let b = c.slow in let d = r.below in omega arith,
  let a = c.new in let b = c.slow in let d = r.enough in omega arith,
)

-- ROOM FOR IT: on the tape that counts, alone; or on both, for a command of size s that has carried its share, where J entries waited before
pub data Able (codec : Codec) (R : ℕ) (d : Device) (x : House) (k : Kept) : Type 0 where
  on_one : Quiet codec R true d x k → x.tapes.used + need x ≤ threshold R → Able codec R d x k
  on_both :
      (s S J : ℕ) → Busy codec R true d x k → OnlyNew x.job.plan.splice.source x.job.lines →
      Carrying R (threshold R) x.tapes.used x.tapes.other (records_on (passive x) x.store.dir (directory k)) S J → waiting x.tapes.active x.store.dir + 16 * s ≤ J →
      need x ≤ 3 * s → suc (3 * x.job.plan.splice.gone) ≤ 3 * s → Able codec R d x k

module _ (codec : Codec) (R n : ℕ) {w : Plain} {t : List ℕ} (C : Course R w t) where
  -- at the decision to put its first record on
  pub pass_leads :
      (x : House) {d : Device} {k : Kept} {ss : List (List ℕ)} {r j : ℕ} → Able codec R d x k → Held w k → Fits x → Bringing k C.kept x.job.lines x.job.plan.splice (news_of x) →
      On-course codec R n C ss (more_rows x.job.plan.rows C.kept.files) r j → 2 * need x ≤ j → 0 ≡ C.reply → Leads codec R n C (after_did d ss r (start_pass false x))
  pass_leads x (on_one h l) held f b o g e = pass_quiet codec R n C x h held f b l o (omega arith) e
  pass_leads x {k = k} (on_both s S J h only c q l₁ l₂) held f b o g e =
      let D₁ : List Position = apply x.job.plan.splice x.store.dir (positions (passive x) x.tapes.other (packs x.job.lines)) in
      let rooms = rooms_here R h.powered.enough in
      let long : length x.store.dir ≡ length (directory k) = alike_length h.log.compacting.holds ∙ length-map (directory k) _ in
      let c₀ = rest_after x.tapes.active (passive x) s x.job.plan.splice x.store.dir (directory k) x.job.lines rooms (sides_apart h.log.layout.sides) long only c q (omega arith) (omega arith) in
      let c₁ : Carrying R (threshold R) (x.tapes.used + need x) (x.tapes.other + need x) (records_on (passive x) D₁ (directory C.kept)) (S + s) (waiting x.tapes.active D₁) =
      subst (λ z. Carrying R (threshold R) (x.tapes.used + need x) (x.tapes.other + need x) (records_on (passive x) D₁ z) (S + s) (waiting x.tapes.active D₁)) (sym b.entries) c₀ in
      let a = records_on_most (passive x) D₁ (directory C.kept) in
      let v = directory_weighs C.kept in
      let light = C.light in
      let fits = carrying-room rooms c₁ (omega arith) in
      pass_busy codec R n C x (S + s) h held f b only fits.0 fits.1 c₁ o g e
