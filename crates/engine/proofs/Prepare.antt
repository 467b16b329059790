-- Before anything is put on: from the decision to begin, with carrying as far as it is due, to the first record of the command. Assumes nothing.
use Rattle.std.proofs.Common.{◌≡◌, ℕ, suc, ◌+◌, ◌-◌, ◌*◌, ◌≤◌, Bool, true, false, ltb, List, length, sym, ap, ◌∙◌, subst, inl, inr, arith}
use lib.ListN.{length-map}
use Rattle.std.proofs.lemmas.Bool.{ltb-false, cases_Bool}
use Rattle.plain.specs.House.{Plain}
use Rattle.plain.specs.Device.{Device, stopped}
use Rattle.journal.specs.Room.{Rooms, Carrying}
use Rattle.journal.proofs.Alike.{alike_length}
use Rattle.journal.proofs.Machine.{after_did}
use Rattle.journal.proofs.Waiting.{waiting}
use Rattle.commands.specs.Kept.{Kept, kept_weight, directory}
use Rattle.commands.specs.Held.{Held}
use Rattle.commands.specs.Turn.{more_rows}
use Rattle.engine.specs.State.{House, Job, passive}
use Rattle.engine.specs.Fits.{Fits, Word}
use Rattle.engine.specs.Packing.{records_on, lines_records}
use Rattle.commands.specs.Smalls.{news_by}
use Rattle.engine.specs.Machine.{Does, came_weight, need, job_size, no_limit, quota_of, threshold, with_quota, news_of, prepare, carry, begin_other, go_on, start_pass, ends_done}
use Rattle.engine.proofs.Facts.{Codec, OffAt, Quiet, Busy, Rest, quiet, busy}
use Rattle.engine.proofs.Course.{Course, Stop, Leads, On-course, stops, chosen}
use Rattle.engine.proofs.Devices.{sides_apart}
use Rattle.engine.proofs.Shares.{directory_weighs, records-both, either_lies, lines_few, waiting_most}
use Rattle.engine.proofs.CompactFacts.{Untouched, SomeCarried, SomeBegun}
use Rattle.engine.proofs.Compact.{carry-leads, begin-leads}
use Rattle.engine.proofs.Splices.{OnlyNew, rooms_here}
use Rattle.engine.proofs.PutBrings.{Bringing}
use Rattle.engine.proofs.PutLeads.{Able, on_one, on_both, pass_leads}

-- the source of a splice that is done while entries are carried
pub data From (x : House) : Type 0 where
  from_new : OnlyNew x.job.plan.splice.source x.job.lines → quota_of x ≡ 16 * job_size x → suc (3 * x.job.plan.splice.gone) ≤ 3 * job_size x → From x
  from_copies : quota_of x ≡ no_limit → From x

-- HOW LARGE the command is, and that what it brings has room beside all that is kept, of which nothing is forgotten yet
pub record Sized (R : ℕ) (k : Kept) (x : House) : Type 0 where
  pub source : From x
  pub few : need x ≤ 3 * job_size x
  pub room : 64 * (lines_records (directory k) + lines_records x.job.lines) ≤ 32 * R
  pub quota : Word (quota_of x)

-- what is brought depends on job, walk and small state alone
news_same : {v : Bool} {x x₁ : House} → Untouched v x x₁ → news_of x₁ ≡ news_of x
news_same h =
    let j = h.job in let s = h.small in let w = h.walking in
    λ i. news_by (j i).plan.update (s i) (j i).plan (w i).went (came_weight (j i).plan.splice.source (j i).plan.update (j i).lines (w i).went (j i).size) (j i).name

brings_same : {v : Bool} {x x₁ : House} {k k₁ : Kept} → Untouched v x x₁ → Bringing k k₁ x.job.lines x.job.plan.splice (news_of x) → Bringing k k₁ x₁.job.lines x₁.job.plan.splice (news_of x₁)
brings_same {x = x} {x₁} {k} {k₁} h b =
    let e = h.job in let n = news_same h in
    subst (λ u. Bringing k k₁ x₁.job.lines x₁.job.plan.splice u) (sym n) (subst (λ (j : Job). Bringing k k₁ j.lines j.plan.splice (news_of x)) (sym e) b)

module _ (codec : Codec) (R n : ℕ) {w : Plain} {t : List ℕ} (C : Course R w t) (k : Kept) (held : Held w k) (light : kept_weight k ≤ 32 * R) where
  -- entries carried or not, it goes on
  go_on_leads : (x x₁ : House) {d₁ : Device} {ss : List (List ℕ)} {r₁ : ℕ} → Untouched false x x₁ → Able codec R d₁ x₁ k → Fits x₁ →
      Bringing k C.kept x.job.lines x.job.plan.splice (news_of x) →
      On-course codec R n C ss (more_rows x.job.plan.rows C.kept.files) r₁ (2 * need x) → 0 ≡ C.reply → Leads codec R n C (after_did d₁ ss r₁ (go_on x₁))
  go_on_leads x x₁ {d₁} {ss} {r₁} same able fits b o q =
      chosen (λ (y : Does). Leads codec R n C (after_did d₁ ss r₁ y)) x₁.carrying.waking false (ends_done x₁) (start_pass false x₁) same.waking
      (let e : need x₁ ≡ need x = ap (λ (j : Job). suc (lines_records j.lines)) same.job in
      let o₁ : On-course codec R n C ss (more_rows x₁.job.plan.rows C.kept.files) r₁ (2 * need x) = subst (λ (j : Job). On-course codec R n C ss (more_rows j.plan.rows C.kept.files) r₁ (2 * need x)) (sym same.job) o in
      pass_leads codec R n C x₁ able held fits (brings_same same b) o₁ (omega arith) q)

  can_stop : {ss more : List (List ℕ)} {r j : ℕ} → On-course codec R n C ss more r j → (d : Device) → ((cs : List ℕ) → OffAt codec R (stopped d cs) k) → Stop codec R n C d ss
  can_stop o d f = stops codec R n C k held light (record { leaves = λ cs. inl (f cs) }) o

  -- the other tape has to be begun
  begun_leads : (x : House) {d : Device} {ss : List (List ℕ)} {r : ℕ} → Quiet codec R true d x k → x.tapes.used ≤ threshold R → Fits x → Sized R k x →
      Bringing k C.kept x.job.lines x.job.plan.splice (news_of x) →
      On-course codec R n C ss (more_rows x.job.plan.rows C.kept.files) r (130 + 6 * quota_of x + 2 * need x) → 0 ≡ C.reply → Leads codec R n C (after_did d ss r (begin_other (quota_of x) false x))
  begun_leads x {d} {ss} {r} h u f z b o q =
      let rooms = rooms_here R h.powered.enough in
      let long : length x.store.dir ≡ length (directory k) = alike_length h.log.keeps.holds ∙ length-map (directory k) _ in
      let less = lines_few (directory k) in
      let weighs = directory_weighs k in
      let more : (r₁ : ℕ) → r₁ ≤ r + 130 + 6 * quota_of x → On-course codec R n C ss (more_rows x.job.plan.rows C.kept.files) r₁ (2 * need x) =
      λ r₁ c. record { rows = o.rows; count = let a = o.count in omega arith } in
      begin-leads codec R _ _ ss k (can_stop o) held.sound x d (quota_of x) false r f z.quota h
      (λ x₁ d₁ r₁ c. go_on_leads x x₁ c.same (some x₁ d₁ r₁ c rooms long less weighs z.source) c.fits b (more r₁ c.count) q)
      (λ x₁ d₁ r₁ c. go_on_leads x x₁ c.same
      (on_one c.quiet (let e : need x₁ ≡ need x = ap (λ (j : Job). suc (lines_records j.lines)) c.same.job in let a = c.used in let g = z.room in let l = rooms.above in let m = rooms.enough in omega arith))
      c.fits b (more r₁ c.count) q)
    where
      some : (x₁ : House) (d₁ : Device) (r₁ : ℕ) → SomeBegun codec R true k (quota_of x) false r x x₁ d₁ r₁ → Rooms R (threshold R) → length x.store.dir ≡ length (directory k) →
          length (directory k) ≤ lines_records (directory k) → 64 * lines_records (directory k) ≤ kept_weight k → From x → Able codec R d₁ x₁ k
      some x₁ d₁ r₁ c rooms long less weighs (from_copies e) = absurd (let a = c.waits in let g = f.store.dir_few in omega arith)
      some x₁ d₁ r₁ c rooms long less weighs (from_new only e g) =
          let s : ℕ = job_size x in
          let same = c.same in
          let pa : passive x₁ ≡ passive x = ap (λ y. 1 - y) c.active in
          let w₁ : waiting x₁.tapes.active x₁.store.dir ≡ waiting x.tapes.active x₁.store.dir = ap (λ y. waiting y x₁.store.dir) c.active in
          let v₁ : records_on (passive x₁) x₁.store.dir (directory k) ≡ records_on (passive x) x₁.store.dir (directory k) = ap (λ y. records_on y x₁.store.dir (directory k)) pa in
          let ne : need x₁ ≡ need x = ap (λ (j : Job). suc (lines_records j.lines)) same.job in
          let ge : x₁.job.plan.splice.gone ≡ x.job.plan.splice.gone = ap (λ (j : Job). j.plan.splice.gone) same.job in
          on_both s 0 (length x.store.dir) c.busy (subst (λ (j : Job). OnlyNew j.plan.splice.source j.lines) (sym same.job) only)
          (record { old = let a = c.used in omega arith; new = let a = c.shares in omega (arith, v₁); slow = omega (arith, long, less, weighs, light) })
          (let a = c.waits in omega (arith, w₁, e)) (let a = z.few in omega (arith, ne)) (omega (arith, ge))

  -- entries are being carried already
  carried_leads : (x : House) {d : Device} {ss : List (List ℕ)} {r S : ℕ} → Busy codec R true d x k →
      Carrying R (threshold R) x.tapes.used x.tapes.other (records_on (passive x) x.store.dir (directory k)) S (waiting x.tapes.active x.store.dir) → Fits x → Sized R k x →
      Bringing k C.kept x.job.lines x.job.plan.splice (news_of x) →
      On-course codec R n C ss (more_rows x.job.plan.rows C.kept.files) r (130 + 6 * quota_of x + 2 * need x) → 0 ≡ C.reply →
      Leads codec R n C (after_did d ss r (carry (with_quota (quota_of x) false x)))
  carried_leads x {d} {ss} {r} {S} h c f z b o q =
      let rooms = rooms_here R h.powered.enough in
      let x₀ : House = with_quota (quota_of x) false x in
      let f₀ : Fits x₀ = record { tapes = f.tapes; store = f.store; job = f.job; walking = f.walking; putting = f.putting; carrying = record { index = omega arith; part = omega arith; long = omega arith; start = omega arith; quota = z.quota } } in
      let h₀ : Busy codec R true d x₀ k = record {
        powered = record {
          machine-room = h.powered.machine-room;
          device-room = h.powered.device-room;
          enough = h.powered.enough;
          at_most = h.powered.at_most;
          light = h.powered.light;
          small = h.powered.small;
          other_fits = h.powered.other_fits;
          used-fits = h.powered.used-fits;
        };
        is-busy = h.is-busy;
        log = h.log;
        behind = h.behind;
        cursor = h.cursor;
      } in
      let long : length x.store.dir ≡ length (directory k) = alike_length h.log.compacting.holds ∙ length-map (directory k) _ in
      let both = records-both (sides_apart h.log.layout.sides) (either_lies h.log.compacting.holds) (directory k) long in
      let weighs = directory_weighs k in
      let more : (r₁ : ℕ) → r₁ ≤ r + 6 * quota_of x → On-course codec R n C ss (more_rows x.job.plan.rows C.kept.files) r₁ (2 * need x) =
      λ r₁ a. record { rows = o.rows; count = let e = o.count in omega arith } in
      carry-leads codec R _ _ ss k (can_stop o) held.sound x₀ d r f₀ h₀ (let a = c.new in let e = c.slow in let g = rooms.enough in omega (arith, both, weighs, light))
      (λ x₁ d₁ r₁ a. go_on_leads x x₁ (as_before a.same) (some x₁ d₁ r₁ a z.source) a.fits b (more r₁ a.count) q)
      (λ x₁ d₁ r₁ a. go_on_leads x x₁ (as_before a.same)
      (on_one a.quiet
      (let e : need x₁ ≡ need x = ap (λ (j : Job). suc (lines_records j.lines)) a.same.job in
      let u = a.used in let g = z.room in let l = rooms.above in let m = rooms.enough in let i = c.new in let j = c.slow in omega (arith, both)))
      a.fits b (more r₁ a.count) q)
    where
      as_before : {x₁ : House} → Untouched false (with_quota (quota_of x) false x) x₁ → Untouched false x x₁
      as_before a = record { room = a.room; small = a.small; pending = a.pending; job = a.job; walking = a.walking; putting = a.putting; waking = a.waking }

      some : (x₁ : House) (d₁ : Device) (r₁ : ℕ) → SomeCarried codec R true k (quota_of x) r (with_quota (quota_of x) false x) x₁ d₁ r₁ → From x → Able codec R d₁ x₁ k
      some x₁ d₁ r₁ a (from_copies e) = absurd (let w₁ = a.waits in let g = f.store.dir_few in let m = waiting_most x.tapes.active x.store.dir in omega arith)
      some x₁ d₁ r₁ a (from_new only e g) =
          let s : ℕ = job_size x in
          let same = a.same in
          let pa : passive x₁ ≡ passive x = ap (λ y. 1 - y) a.active in
          let w₁ : waiting x₁.tapes.active x₁.store.dir ≡ waiting x.tapes.active x₁.store.dir = ap (λ y. waiting y x₁.store.dir) a.active in
          let v₁ : records_on (passive x₁) x₁.store.dir (directory k) ≡ records_on (passive x) x₁.store.dir (directory k) = ap (λ y. records_on y x₁.store.dir (directory k)) pa in
          let ne : need x₁ ≡ need x = ap (λ (j : Job). suc (lines_records j.lines)) same.job in
          let ge : x₁.job.plan.splice.gone ≡ x.job.plan.splice.gone = ap (λ (j : Job). j.plan.splice.gone) same.job in
          on_both s S (waiting x.tapes.active x.store.dir) a.busy (subst (λ (j : Job). OnlyNew j.plan.splice.source j.lines) (sym same.job) only)
          (record { old = let u = a.used in let i = c.old in omega arith; new = let u = a.shares in let i = c.new in omega (arith, v₁); slow = c.slow })
          (let u = a.waits in omega (arith, w₁, e)) (let u = z.few in omega (arith, ne)) (omega (arith, ge))

  -- AT THE DECISION
  pub prepare_leads : (x : House) {d : Device} {ss : List (List ℕ)} {r : ℕ} → Rest codec R d x k → Fits x → Sized R k x → Bringing k C.kept x.job.lines x.job.plan.splice (news_of x) →
      On-course codec R n C ss (more_rows x.job.plan.rows C.kept.files) r (130 + 6 * quota_of x + 2 * need x) → 0 ≡ C.reply → Leads codec R n C (after_did d ss r (prepare x))
  prepare_leads x {d} {ss} {r} (busy S h c) f z b o q =
      chosen (λ (y : Does). Leads codec R n C (after_did d ss r y)) x.tapes.busy true _ _ h.is-busy (carried_leads x h c f z b o q)
  prepare_leads x {d} {ss} {r} (quiet h u) f z b o q =
      let m = h.powered.machine-room in
      chosen (λ (y : Does). Leads codec R n C (after_did d ss r y)) x.tapes.busy false _ _ h.not-busy
      (elim (cases_Bool (ltb (threshold x.tapes.room) (x.tapes.used + need x))) [
        | inl e ↦ chosen (λ (y : Does). Leads codec R n C (after_did d ss r y)) (ltb (threshold x.tapes.room) (x.tapes.used + need x)) true _ _ e (begun_leads x h u f z b o q)
        | inr e ↦ chosen (λ (y : Does). Leads codec R n C (after_did d ss r y)) (ltb (threshold x.tapes.room) (x.tapes.used + need x)) false _ _ e
            (let l = ltb-false (threshold x.tapes.room) (x.tapes.used + need x) e in
            let g : threshold x.tapes.room ≡ threshold R = ap threshold m in
            pass_leads codec R n C x (on_one h (omega arith)) held f b o (omega arith) q)
      ])
