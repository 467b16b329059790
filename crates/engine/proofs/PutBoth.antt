-- A command while entries are carried to the other tape: its records on the tape that counts, fast, and then on the other one. Assumes nothing.
use Rattle.std.proofs.Common.{◌≡◌, ℕ, suc, ◌+◌, ◌*◌, ◌≤◌, Bool, true, false, List, [], ◌++◌, length, take, drop, sym, refl, ap, ◌∙◌, subst, append-nil, arith}
use lib.ListN.{length-map}
use Rattle.plain.specs.House.{Plain}
use Rattle.plain.specs.Device.{Device, tape_of, fastened}
use Rattle.plain.specs.Promise.{all_longer}
use Rattle.journal.specs.Log.{Position, apply, positions}
use Rattle.journal.specs.Room.{Carrying}
use Rattle.journal.specs.Small.{updated, no_state}
use Rattle.journal.proofs.Alike.{alike_length}
use Rattle.journal.proofs.Lifecycle as lifecycle
use Rattle.journal.proofs.Machine.{after_did}
use Rattle.journal.proofs.Waiting.{waiting, Behind}
use Rattle.commands.specs.Kept.{Kept, directory}
use Rattle.commands.specs.Held.{Held}
use Rattle.commands.specs.Turn.{more_rows}
use Rattle.engine.specs.State.{House, Phase, commit_put, commit_fast, passive}
use Rattle.engine.specs.Fits.{Fits, ReplayFits}
use Rattle.engine.specs.Packing.{lines_records, packs, records_on}
use Rattle.engine.specs.Machine.{Does, need, news_of, cursor_after, start_pass, finish, threshold}
use Rattle.engine.proofs.Facts.{Codec, Safe, Busy, Rest, busy}
use Rattle.engine.proofs.Course.{Course, Leads, On-course, stops, go_next, fastens, chosen}
use Rattle.engine.proofs.Devices.{side_first, side_second, sides_apart}
use Rattle.engine.proofs.PassDevices.{all_longer-room, all_longer-count, all_longer_beside, with_tape_beside, fastened-room, layout_new_count}
use Rattle.engine.proofs.Finish.{finish_leads}
use Rattle.engine.proofs.PutRecords.{pages, positions_fit, positions-count}
use Rattle.engine.proofs.PutPass.{midway, brought, fits_midway, Passing, pass-goes}
use Rattle.engine.proofs.PutBrings.{Bringing, Two, first-fast, second-room, second_safe, both-on, pages-count}
use Rattle.engine.proofs.PutCommit.{committed, commit_first, commit-second, dir-fits, fits_committed, passing_first, committed_small}
use Rattle.engine.proofs.Splices.{OnlyNew, apply_new, behind_after, cursor-below, positions_behind}

module _ (codec : Codec) (R n : ℕ) {w : Plain} {t : List ℕ} (C : Course R w t) where
  -- before the first record
  safe_here : {second : Bool} {x : House} {d : Device} {k : Kept} {m : ℕ} → Passing codec R n C second x d k m → Safe codec R d k C.kept
  unfolding all_longer
  safe_here {x = x} p = p.safe [] (brought x) refl

  -- the tapes with all on both of them: what it rests with
  module _ (x : House) {d : Device} {k : Kept} (h : Busy codec R true d x k) (f : Fits x) (b : Bringing k C.kept x.job.lines x.job.plan.splice (news_of x))
      (only : OnlyNew x.job.plan.splice.source x.job.lines) (fits : x.tapes.used + need x ≤ R) (more-fits : x.tapes.other + need x ≤ R) where
    abbrev on-first : Device
    on-first = all_longer d x.tapes.active (pages (brought x))

    abbrev on_both : Device
    on_both = all_longer (fastened on-first x.tapes.active) (passive x) (pages (brought x))

    abbrev first_count : ℕ
    first_count = x.tapes.used + lines_records x.job.lines

    abbrev second-count : ℕ
    second-count = x.tapes.other + lines_records x.job.lines

    abbrev first-positions : List Position
    first-positions = positions x.tapes.active x.tapes.used (packs x.job.lines)

    abbrev second-positions : List Position
    second-positions = positions (passive x) x.tapes.other (packs x.job.lines)

    -- on the first, fast, and on the second
    abbrev between : Phase → House
    between ph = midway false ph (suc first_count) first-positions [] 0 x

    abbrev at_end : House
    at_end = committed true commit_put second-count second-positions (between commit_fast)

    between-fits : (ph : Phase) → Fits (between ph)
    between-fits ph =
        let q = h.powered.at_most in
        let e = positions-count x.tapes.active x.tapes.used x.job.lines in
        fits_midway false ph (suc first_count) first-positions [] 0 f (omega arith) (let z = b.few in omega (arith, e))
        (positions_fit x.tapes.active x.tapes.used x.job.lines (side_first h.log.layout.sides) (omega arith)) (omega arith)

    between-room : (fastened on-first x.tapes.active).room ≡ R
    between-room = fastened-room on-first x.tapes.active ∙ all_longer-room d x.tapes.active (pages (brought x)) ∙ h.powered.device-room

    between-long : length (tape_of (fastened on-first x.tapes.active) (passive x)).records ≡ x.tapes.other
    between-long =
        ap (λ z. length z.records) (with_tape_beside on-first _ h.log.layout.sides ∙ all_longer_beside d (pages (brought x)) h.log.layout.sides)
        ∙ layout_new_count codec.reading h.log.layout ∙ h.log.next-used

    abbrev from : ℕ
    from = x.job.plan.splice.from

    abbrev gone : ℕ
    gone = x.job.plan.splice.gone

    spliced : apply x.job.plan.splice x.store.dir second-positions ≡ take from x.store.dir ++ (second-positions ++ drop (from + gone) x.store.dir)
    spliced = apply_new x.job.plan.splice x.job.lines x.store.dir second-positions only (positions-count (passive x) x.tapes.other x.job.lines)

    cursor-end : cursor_after x.tapes.cursor from gone (length second-positions) ≤ length (apply x.job.plan.splice x.store.dir second-positions)
    cursor-end = subst (λ z. cursor_after x.tapes.cursor from gone (length second-positions) ≤ length z) (sym spliced) (cursor-below x.tapes.cursor from gone x.store.dir second-positions h.cursor)

    behind-end : Behind x.tapes.active (cursor_after x.tapes.cursor from gone (length second-positions)) (apply x.job.plan.splice x.store.dir second-positions)
    behind-end =
        subst (λ z. Behind x.tapes.active (cursor_after x.tapes.cursor from gone (length second-positions)) z) (sym spliced)
        (behind_after x.tapes.active x.tapes.cursor from gone x.store.dir second-positions h.behind h.cursor
        (positions_behind x.tapes.active (passive x) x.tapes.other x.job.lines (sides_apart h.log.layout.sides)))

    end_fits : Fits at_end
    end_fits =
        let q = h.powered.at_most in
        let long : length x.store.dir ≡ length (packs (directory k)) = alike_length h.log.compacting.holds in
        let e = positions-count (passive x) x.tapes.other x.job.lines ∙ sym (length-map x.job.lines _) in
        let g = dir-fits (between commit_fast) k C.kept second-positions long e h.powered.small b in
        let c = cursor-end in
        let v = g.few in
        fits_committed true commit_put second-count second-positions (between-fits commit_fast) (omega arith)
        (positions_fit (passive x) x.tapes.other x.job.lines (side_second h.log.layout.sides) (omega arith)) g (omega (arith, c, v))

    end_rest : (S : ℕ) →
        Carrying R (threshold R) (x.tapes.used + need x) (x.tapes.other + need x)
        (records_on (passive x) (apply x.job.plan.splice x.store.dir second-positions) (directory C.kept)) S
        (waiting x.tapes.active (apply x.job.plan.splice x.store.dir second-positions)) → Rest codec R on_both at_end C.kept
    end_rest S c =
        let here = h.powered in
        let e₁ : x.tapes.used + need x ≡ suc first_count = omega arith in
        let e₂ : x.tapes.other + need x ≡ suc second-count = omega arith in
        let D₁ : List Position = apply x.job.plan.splice x.store.dir second-positions in
        let V : ℕ = records_on (passive x) D₁ (directory C.kept) in
        let J : ℕ = waiting x.tapes.active D₁ in
        let a = all_longer-count (fastened on-first x.tapes.active) (passive x) (pages (brought x)) in
        let l = between-long in
        let p = pages-count codec b in
        busy S (record {
          powered = record {
            machine-room = here.machine-room;
            device-room = all_longer-room (fastened on-first x.tapes.active) (passive x) (pages (brought x)) ∙ between-room;
            enough = here.enough;
            at_most = here.at_most;
            light = C.light;
            small = committed_small codec R n C (between commit_fast) k here.small b;
            other_fits = omega (arith, a, l, p);
            used-fits = omega arith;
          };
          is-busy = h.is-busy;
          log = subst (λ i. Two codec on_both x.tapes.active (passive x) x.tapes.generation (suc first_count) i D₁ C.kept) e₂
              (subst (λ i. Two codec on_both x.tapes.active (passive x) x.tapes.generation i (x.tapes.other + need x) D₁ C.kept) e₁ (both-on codec b h.log));
          behind = behind-end;
          cursor = cursor-end;
        }) (subst (λ i. Carrying R (threshold R) (suc first_count) i V S J) e₂ (subst (λ i. Carrying R (threshold R) i (x.tapes.other + need x) V S J) e₁ c))

  -- ON BOTH TAPES, given what keeps them from getting full then
  pub pass_busy :
      (x : House) {d : Device} {k : Kept} {ss : List (List ℕ)} {r j : ℕ} (S : ℕ) → Busy codec R true d x k → Held w k → Fits x →
      Bringing k C.kept x.job.lines x.job.plan.splice (news_of x) → OnlyNew x.job.plan.splice.source x.job.lines →
      x.tapes.used + need x ≤ R → x.tapes.other + need x ≤ R →
      Carrying R (threshold R) (x.tapes.used + need x) (x.tapes.other + need x)
      (records_on (passive x) (apply x.job.plan.splice x.store.dir (positions (passive x) x.tapes.other (packs x.job.lines))) (directory C.kept)) S
      (waiting x.tapes.active (apply x.job.plan.splice x.store.dir (positions (passive x) x.tapes.other (packs x.job.lines)))) →
      On-course codec R n C ss (more_rows x.job.plan.rows C.kept.files) r j → 2 * need x ≤ j → 0 ≡ C.reply →
      Leads codec R n C (after_did d ss r (start_pass false x))
  pass_busy x {d} {k} {ss} {r} {j} S h held f b only fits more-fits c o g e =
      let a : ℕ = x.tapes.active in
      let here = h.powered in
      let one = lifecycle.copying-active updated no_state ReplayFits codec.reading codec.torn h.log in
      let p : Passing codec R n C false x d k x.tapes.used = passing_first codec R n C x d k here held f b one fits in
      let i₁ : ℕ = x.tapes.used + lines_records x.job.lines in
      let i₂ : ℕ = x.tapes.other + lines_records x.job.lines in
      let P₁ : List Position = positions a x.tapes.used (packs x.job.lines) in
      let P₂ : List Position = positions (passive x) x.tapes.other (packs x.job.lines) in
      let d₁ : Device = all_longer d a (pages (brought x)) in
      let d₂ : Device = fastened d₁ a in
      let y : Phase → House = λ ph. midway false ph (suc i₁) P₁ [] 0 x in
      let z : House = committed true commit_put i₂ P₂ (y commit_fast) in
      let f₁ : (ph : Phase) → Fits (y ph) = between-fits x h f b only fits more-fits in
      let two = first-fast codec b one in
      let room₂ = between-room x h f b only fits more-fits in
      let long₂ = between-long x h f b only fits more-fits in
      let p₂ : Passing codec R n C true (y commit_fast) d₂ k x.tapes.other = record {
        held = held;
        light = here.light;
        fits = f₁ commit_fast;
        below = side_second h.log.layout.sides;
        few = b.few;
        most = let q = here.at_most in omega arith;
        safe = second_safe codec b two room₂ fits long₂ more-fits;
        room = second-room codec b two room₂ fits long₂ more-fits;
      } in
      let o₁ : On-course codec R n C ss (more_rows x.job.plan.rows C.kept.files) (r + need x) (need x) = record { rows = o.rows; count = let q = o.count in omega arith } in
      let o₂ : On-course codec R n C ss (more_rows x.job.plan.rows C.kept.files) (r + need x + need x) 0 = record { rows = o.rows; count = let q = o.count in omega arith } in
      pass-goes codec R n C p o x.phase (y commit_put) (λ ph. commit_first ph i₁ P₁ x h.is-busy)
      (go_next codec.reading commit_put refl (f₁ commit_put) (stops codec R n C k held here.light (p.safe (brought x) [] (append-nil (brought x))) o)
      (fastens codec.reading d₁ a p.below
      (go_next codec.reading commit_fast refl (f₁ commit_fast) (stops codec R n C k held here.light (safe_here p₂) o)
      (chosen (λ (v : Does). Leads codec R n C (after_did d₂ ss (r + need x) v)) x.tapes.busy true (start_pass true (y commit_fast)) (finish (y commit_fast)) h.is-busy
      (pass-goes codec R n C p₂ o₁ commit_fast z (λ ph. commit-second ph i₂ P₂ (y commit_fast))
      (go_next codec.reading commit_put refl (end_fits x h f b only fits more-fits) (stops codec R n C k held here.light (p₂.safe (brought x) [] (append-nil (brought x))) o₁)
      (finish_leads codec R n C z (end_rest x h f b only fits more-fits S c) (end_fits x h f b only fits more-fits) o₂ e)))))))
