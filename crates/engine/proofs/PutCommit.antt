-- The commit of a command, applied in memory as it is put on, and a command on one tape alone. Assumes nothing.
use Rattle.std.proofs.Common.{◌≡◌, ℕ, suc, ◌+◌, ◌-◌, ◌≤◌, Bool, true, false, not, leb, List, [], length, sym, refl, ap, ◌∙◌, subst, append-nil, arith}
use lib.Dec.{leb-zero}
use lib.ListN.{length-map}
use Rattle.plain.specs.Pattern.{pick}
use Rattle.plain.specs.House.{Plain}
use Rattle.plain.specs.Device.{Device, tape_of, fastened}
use Rattle.plain.specs.Run.{put_on}
use Rattle.plain.specs.Promise.{all_longer}
use Rattle.journal.specs.Log.{Position, state, apply, positions}
use Rattle.journal.specs.Small.{updated}
use Rattle.journal.specs.Machine.{did}
use Rattle.records.specs.Pages.{page_of}
use Rattle.journal.proofs.Alike.{alike_length, length-apply}
use Rattle.journal.proofs.Machine.{after_did}
use Rattle.commands.specs.Kept.{Kept, directory}
use Rattle.commands.specs.Held.{Held}
use Rattle.commands.specs.Smalls.{smalls_of}
use Rattle.commands.specs.Turn.{more_rows}
use Rattle.engine.specs.State.{House, house, Phase, commit_put, commit_fast, at_phase, with_store, with_tapes, with_cursor, putting_of, passive}
use Rattle.engine.specs.Fits.{Fits, SmallFits, PositionsFit, none}
use Rattle.engine.specs.Packing.{lines_records, packs}
use Rattle.engine.specs.Machine.{Does, need, news_of, commit_of, cursor_after, cursor_then, applied, target_longer, put_commit, start_pass, finish, threshold}
use Rattle.engine.proofs.Facts.{Codec, Powered, Quiet, Rest, quiet}
use Rattle.engine.proofs.Course.{Course, Leads, On-course, stops, go_next, fastens, chosen}
use Rattle.engine.proofs.Devices.{side_first}
use Rattle.engine.proofs.PassDevices.{all_longer-room, all_longer_beside, with_tape_beside, fastened-room}
use Rattle.engine.proofs.Finish.{stops_then, rest_off, finish_leads}
use Rattle.engine.proofs.PutRecords.{pages, fit_apply, positions_fit, positions-count}
use Rattle.engine.proofs.PutPass.{counted, midway, side, brought, tapes-counted, Passing, pass-goes}
use Rattle.engine.proofs.PutBrings.{Bringing, One, first-room, first_safe, first-fast}

-- WHERE THE MACHINE IS when the commit is on, the last of those that are put on: m records before it
abbrev pub committed : Bool → Phase → ℕ → List Position → House → House
committed second ph m P x =
    house ph (with_cursor (cursor_after x.tapes.cursor x.job.plan.splice.from x.job.plan.splice.gone (length P)) (counted second (suc m) x.tapes))
    (state (apply x.job.plan.splice x.store.dir P) [] (updated (news_of x) x.store.small)) x.job x.walking (putting_of second [] 0) x.carrying

pub commit-second : (ph : Phase) (m : ℕ) (P : List Position) (x : House) → put_commit (midway true ph m P [] 0 x) ≡ did (committed true commit_put m P x) (put_on (side true x) (page_of (commit_of x)))
commit-second ph m P x = refl

-- on one tape: the only one, or the first of two
commit_by : (ph : Phase) (m : ℕ) (P : List Position) (x : House) (b : Bool) → x.tapes.busy ≡ b →
    put_commit (midway false ph m P [] 0 x)
    ≡ did (pick (not b) (committed false commit_put m P x) (midway false commit_put (suc m) P [] 0 x)) (put_on (side false x) (page_of (commit_of x)))
commit_by ph m P x b e =
    ap by-choice e ∙ go b
  where
    y : House
    y = midway false ph m P [] 0 x

    by-choice : Bool → Does
    by-choice c = did (at_phase commit_put (pick (not c) (with_store (applied y) (with_tapes (with_cursor (cursor_then y) (target_longer y)) y)) (with_tapes (target_longer y) y))) (put_on (side false x) (page_of (commit_of x)))

    go : (c : Bool) → by-choice c ≡ did (pick (not c) (committed false commit_put m P x) (midway false commit_put (suc m) P [] 0 x)) (put_on (side false x) (page_of (commit_of x)))
    go true = refl
    go false = refl

pub commit-alone : (ph : Phase) (m : ℕ) (P : List Position) (x : House) → x.tapes.busy ≡ false →
    put_commit (midway false ph m P [] 0 x) ≡ did (committed false commit_put m P x) (put_on (side false x) (page_of (commit_of x)))
commit-alone ph m P x e = commit_by ph m P x false e

pub commit_first : (ph : Phase) (m : ℕ) (P : List Position) (x : House) → x.tapes.busy ≡ true →
    put_commit (midway false ph m P [] 0 x) ≡ did (midway false commit_put (suc m) P [] 0 x) (put_on (side false x) (page_of (commit_of x)))
commit_first ph m P x e = commit_by ph m P x true e

-- IT FITS
-- where it is known how long the directory is
pub record DirFits (x : House) (P : List Position) : Type 0 where
  pub few : length (apply x.job.plan.splice x.store.dir P) ≤ 524288
  pub small : SmallFits (updated (news_of x) x.store.small)

pub dir-fits : (x : House) (k k₁ : Kept) (P : List Position) → length x.store.dir ≡ length (packs (directory k)) → length P ≡ length (packs x.job.lines) → x.store.small ≡ smalls_of k →
    Bringing k k₁ x.job.lines x.job.plan.splice (news_of x) → DirFits x P
dir-fits x k k₁ P e p s b =
    let q = b.allowed.then in
    let a = length-apply x.job.plan.splice x.store.dir (packs (directory k)) P (packs x.job.lines) e p in
    record { few = let z = q.entries_few in omega (arith, a); small = subst (λ v. SmallFits (updated (news_of x) v)) (sym s) q.small }

pub fits_committed : (second : Bool) {x : House} (ph : Phase) (m : ℕ) (P : List Position) → Fits x → suc m ≤ 1048576 → PositionsFit P → DirFits x P →
    cursor_after x.tapes.cursor x.job.plan.splice.from x.job.plan.splice.gone (length P) ≤ 524288 → Fits (committed second ph m P x)
fits_committed second {x} ph m P f a p g c =
    let t = tapes-counted second (suc m) a f.tapes in
    record {
      tapes = record { room = t.room; active = t.active; generation = t.generation; used = t.used; other = t.other; cursor = c };
      store = record { dir_few = g.few; pending_few = omega arith; dir = fit_apply x.job.plan.splice f.store.dir p; pending = none; small = g.small };
      job = f.job;
      walking = f.walking;
      putting = record { part = omega arith };
      carrying = f.carrying;
    }

-- ON ONE TAPE ALONE
module _ (codec : Codec) (R n : ℕ) {w : Plain} {t : List ℕ} (C : Course R w t) where
  -- what the first pass begins codec.reading with, as far as the tapes go
  pub passing_first :
      (x : House) (d : Device) (k : Kept) {D : List Position} → Powered codec R d x k → Held w k → Fits x → Bringing k C.kept x.job.lines x.job.plan.splice (news_of x) →
      One codec d x.tapes.active (passive x) x.tapes.generation x.tapes.used D k → x.tapes.used + need x ≤ R → Passing codec R n C false x d k x.tapes.used
  passing_first x d k h held f b log l = record {
    held = held;
    light = h.light;
    fits = f;
    below = side_first log.layout.sides;
    few = b.few;
    most = let q = h.at_most in omega arith;
    safe = first_safe codec b log h.device-room l h.other_fits;
    room = first-room codec b log h.device-room l;
  }

  -- memory then is what the tape has
  pub committed_small : (x : House) (k : Kept) → x.store.small ≡ smalls_of k → Bringing k C.kept x.job.lines x.job.plan.splice (news_of x) → updated (news_of x) x.store.small ≡ smalls_of C.kept
  committed_small x k s b = ap (updated (news_of x)) s ∙ sym b.numbers

  cursor_first : (c from gone came : ℕ) → c ≡ 0 → cursor_after c from gone came ≡ 0
  cursor_first c from gone came e = ap (λ z. cursor_after z from gone came) e ∙ ap (λ b. pick b 0 (pick (leb 0 (from + gone)) (from + came) (0 - gone + came))) (leb-zero from)

  pub pass_quiet :
      (x : House) {d : Device} {k : Kept} {ss : List (List ℕ)} {r j : ℕ} → Quiet codec R true d x k → Held w k → Fits x →
      Bringing k C.kept x.job.lines x.job.plan.splice (news_of x) → x.tapes.used + need x ≤ threshold R →
      On-course codec R n C ss (more_rows x.job.plan.rows C.kept.files) r j → need x ≤ j → 0 ≡ C.reply →
      Leads codec R n C (after_did d ss r (start_pass false x))
  pass_quiet x {d} {k} {ss} {r} {j} h held f b l o g e =
      let a : ℕ = x.tapes.active in
      let m : ℕ = x.tapes.used in
      let here = h.powered in
      let fits : m + need x ≤ R = omega arith in
      let p : Passing codec R n C false x d k m = passing_first x d k here held f b h.log fits in
      let P : List Position = positions a m (packs x.job.lines) in
      let i : ℕ = m + lines_records x.job.lines in
      let most : suc i ≤ 1048576 = let q = here.at_most in omega arith in
      let d₁ : Device = all_longer d a (pages (brought x)) in
      let y : House = committed false commit_fast i P x in
      let long : length x.store.dir ≡ length (packs (directory k)) = alike_length h.log.keeps.holds in
      let g₁ = dir-fits x k C.kept P long (positions-count a m x.job.lines ∙ sym (length-map x.job.lines _)) here.small b in
      let c₁ = cursor_first x.tapes.cursor x.job.plan.splice.from x.job.plan.splice.gone (length P) h.cursor in
      let q₁ = positions_fit a m x.job.lines p.below (omega arith) in
      let f₁ : (ph : Phase) → Fits (committed false ph i P x) = λ ph. fits_committed false ph i P f most q₁ g₁ (omega (arith, c₁)) in
      let log₁ = first-fast codec b h.log in
      let beside : tape_of (fastened d₁ a) (passive x) ≡ tape_of d (passive x) = with_tape_beside d₁ _ h.log.layout.sides ∙ all_longer_beside d (pages (brought x)) h.log.layout.sides in
      let rest : Rest codec R (fastened d₁ a) y C.kept = quiet (record {
        powered = record {
          machine-room = here.machine-room;
          device-room = fastened-room d₁ a ∙ all_longer-room d a (pages (brought x)) ∙ here.device-room;
          enough = here.enough;
          at_most = here.at_most;
          light = C.light;
          small = committed_small x k here.small b;
          other_fits = subst (λ z. length z.records ≤ R) (sym beside) here.other_fits;
          used-fits = omega arith;
        };
        not-busy = h.not-busy;
        cursor = c₁;
        log = subst (λ z. One codec (fastened d₁ a) a (passive x) x.tapes.generation z y.store.dir C.kept) (let q : m + need x ≡ suc i = omega arith in q) log₁;
      }) (omega arith) in
      let o₁ : On-course codec R n C ss (more_rows x.job.plan.rows C.kept.files) (r + need x) 0 = record { rows = o.rows; count = let q = o.count in omega arith } in
      pass-goes codec R n C p o x.phase (committed false commit_put i P x) (λ ph. commit-alone ph i P x h.not-busy)
      (go_next codec.reading commit_put refl (f₁ commit_put) (stops codec R n C k held here.light (p.safe (brought x) [] (append-nil (brought x))) o)
      (fastens codec.reading d₁ a p.below
      (go_next codec.reading commit_fast refl (f₁ commit_fast) (stops_then codec R n C (fastened d₁ a) (rest_off codec rest) o)
      (chosen (λ (z : Does). Leads codec R n C (after_did (fastened d₁ a) ss (r + need x) z)) x.tapes.busy false (start_pass true y) (finish y) h.not-busy
      (finish_leads codec R n C y rest (f₁ commit_fast) o₁ e)))))
