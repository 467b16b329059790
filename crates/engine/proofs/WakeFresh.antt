-- Waking up where no tape counts: the first one begins with a head, and nothing is kept. Assumes nothing.
use Rattle.std.proofs.Common.{◌≡◌, ℕ, zero, suc, ◌*◌, ◌<◌, ◌≤◌, Bool, true, false, eqb, List, [], ◌∷◌, ◌++◌, length, get_or, sym, refl, ap, ◌∙◌, subst, append-nil, arith}
use Rattle.plain.specs.Pattern.{pick}
use Rattle.plain.specs.House.{Plain, core}
use Rattle.plain.specs.Device.{Device, Page, stopped, longer, fastened, anew}
use Rattle.plain.specs.Promise.{May}
use Rattle.journal.specs.Log.{head, state, neither, only, choose, generation, next_generation, ahead, tapes}
use Rattle.journal.specs.Small.{updated, no_state}
use Rattle.records.specs.Pages.{page_of}
use Rattle.journal.proofs.Running.{Asleep}
use Rattle.journal.proofs.Machine.{Where, Goes, is_over, after_did, Awoke}
use Rattle.journal.proofs.Contents.{Layout, wake_layout, layout-begin-old, layout-swap, layout-put-old}
use Rattle.journal.proofs.Recovery as recovery
use Rattle.journal.proofs.Lifecycle as lifecycle
use Rattle.commands.specs.Kept.{Kept, kept_weight}
use Rattle.commands.specs.Smalls.{smalls_of}
use Rattle.commands.specs.Held.{Held}
use Rattle.engine.specs.State.{House, Phase, idle, fresh_begun, fresh_head, fresh_fast, tapes_of}
use Rattle.engine.specs.Fits.{Fits, RecordFits, ReplayFits}
use Rattle.engine.specs.Machine.{machine_by, wake_by}
use Rattle.engine.proofs.Facts.{Codec, OffAt, Off, Idle, quiet, Quiet, lines_of_kept}
use Rattle.engine.proofs.Course.{go_next, puts, begins, fastens}
use Rattle.engine.proofs.Devices.{left_short, firm-off, room_for}
use Rattle.engine.proofs.Setup.{no_state-fits}
use Rattle.engine.proofs.CompactFacts.{quiet_at, quiet-firm}
use Rattle.engine.proofs.WakeFacts.{waking, waking-fits, tapes_fit, nothing-fits, asleep}

-- neither tape counts only where neither has a head
one_of : (b : Bool) → pick b (only 0) (only 1) ≡ neither → ⊥
one_of true e = let z : ◌≡◌ {A = ℕ} 0 1 = cc in omega arith
one_of false e = let z : ◌≡◌ {A = ℕ} 0 1 = cc in omega arith

pub no_heads : (g h : ℕ) → choose g h ≡ neither → (g ≡ 0) × (h ≡ 0)
unfolding choose
no_heads zero zero e = (refl, refl)
no_heads zero (suc h) e = absurd (let z : ◌≡◌ {A = ℕ} 0 1 = cc in omega arith)
no_heads (suc g) zero e = absurd (let z : ◌≡◌ {A = ℕ} 0 1 = cc in omega arith)
no_heads (suc g) (suc h) e = absurd (one_of (eqb (suc h) (next_generation (suc g))) e)

module _
    (codec : Codec) (R n : ℕ) (enough : 1024 ≤ R) (at_most : R ≤ 1048576) {w : Plain} (k : Kept) (held : Held w k) (light : kept_weight k ≤ 32 * R) (d : Device) (off : OffAt codec R d k)
    (no_lines : lines_of_kept k ≡ []) (no-small : smalls_of k ≡ no_state) (no_head : generation (tapes codec.reading d 1) ≡ 0)
  where
    abbrev Wakes : Where House → Type 0
    Wakes p = Goes (machine_by codec.reading) (Asleep (May core R) (Off codec R n) w) (Awoke (May core R) (λ x d₁ s. Idle codec R n x d₁ s) w) p

    abbrev can_stop : (d₁ : Device) → ((cs : List ℕ) → OffAt codec R (stopped d₁ cs) k) → Asleep (May core R) (Off codec R n) w d₁ []
    can_stop = asleep held light

    abbrev first-page : Page
    first-page = page_of (head 1 0)

    abbrev begun-device : Device
    begun-device = anew d 0

    abbrev headed : Device
    headed = longer (anew d 0) 0 first-page

    nothing_kept : ReplayFits 0 0 no_state
    nothing_kept = record { entries_few = omega arith; pending_few = omega arith; small = no_state-fits }

    head-fits : RecordFits (head 1 0)
    head-fits = let a : 1 ≤ 1 = omega arith in let b : 1 ≤ 3 = omega arith in let c : 0 < 4294967296 = omega arith in (a, b, c)

    layout : Layout codec.reading begun-device 0 1 [] [] (tapes codec.reading d 1) []
    layout = layout-swap codec.reading (layout-begin-old codec.reading (wake_layout codec.reading d off.fast_first off.fast-second ahead))

    no-head-behind : generation (tapes codec.reading d 1 ++ []) ≡ 0
    no-head-behind = ap generation (append-nil (tapes codec.reading d 1)) ∙ no_head

    -- a stop on the way leaves nothing kept
    empty-off : (d₁ : Device) → d₁.room ≡ R → length d₁.first.records ≤ R → length d₁.second.records ≤ R →
        ((cs : List ℕ) → recovery.Off updated no_state ReplayFits (tapes codec.reading (stopped d₁ cs)) [] no_state) → (cs : List ℕ) → OffAt codec R (stopped d₁ cs) k
    empty-off d₁ e a b f cs = record {
      room = e;
      fast_first = refl;
      fast-second = refl;
      fits_first = let q = left_short d₁.first (get_or cs 0 0) (get_or cs 1 0) in omega arith;
      fits-second = let q = left_short d₁.second (get_or cs 2 0) (get_or cs 3 0) in omega arith;
      log = subst (λ ls. recovery.Off updated no_state ReplayFits (tapes codec.reading (stopped d₁ cs)) ls (smalls_of k)) (sym no_lines)
          (subst (λ s. recovery.Off updated no_state ReplayFits (tapes codec.reading (stopped d₁ cs)) [] s) (sym no-small) (f cs));
    }

    begun-off : (cs : List ℕ) → OffAt codec R (stopped begun-device cs) k
    begun-off = empty-off begun-device off.room (omega arith) off.fits-second (λ cs. recovery.empty-stop updated no_state ReplayFits codec.reading codec.torn cs layout refl no-head-behind)

    one-record : length headed.first.records ≤ R
    one-record = omega arith

    headed-off : (cs : List ℕ) → OffAt codec R (stopped headed cs) k
    headed-off = empty-off headed off.room one-record off.fits-second
        (λ cs. recovery.first-stop updated no_state ReplayFits codec.reading codec.torn cs nothing_kept
        (subst (λ r. Layout codec.reading headed 0 1 [] (r ∷ []) (tapes codec.reading d 1) []) (codec.reads (head 1 0) head-fits) (layout-put-old codec.reading layout first-page)) no-head-behind)

    -- the head is fast
    first-quiet : (ph : Phase) → Quiet codec R true (fastened headed 0) (waking ph (tapes_of d.room 0 1 1 false 0 0) (state [] [] no_state)) k
    first-quiet ph = record {
      powered = record {
        machine-room = off.room;
        device-room = off.room;
        enough = enough;
        at_most = at_most;
        light = light;
        small = sym no-small;
        other_fits = off.fits-second;
        used-fits = omega arith;
      };
      not-busy = refl;
      cursor = refl;
      log = subst (λ ls. lifecycle.Active updated no_state ReplayFits codec.reading codec.torn true (fastened headed 0) 0 1 1 1 [] ls (smalls_of k)) (sym no_lines)
          (subst (λ s. lifecycle.Active updated no_state ReplayFits codec.reading codec.torn true (fastened headed 0) 0 1 1 1 [] [] s) (sym no-small)
          (lifecycle.first_active updated no_state ReplayFits codec.reading codec.torn first-page (wake_layout codec.reading d off.fast_first off.fast-second ahead) no-head-behind (codec.reads (head 1 0) head-fits) nothing_kept));
    }

    pub fresh-leads : (ph : Phase) (g h r : ℕ) → g ≤ 3 → Wakes (after_did d [] r (wake_by neither g h (waking ph (tapes_of d.room 0 g 0 false 0 0) (state [] [] no_state))))
    fresh-leads ph g h r low =
        let room : d.room ≤ 1048576 = let e = off.room in omega arith in
        let has = room_for begun-device 0 R 0 first-page (omega arith) off.room refl (omega arith) (codec.pages (head 1 0) head-fits) in
        let fits : (ph₁ : Phase) → Fits (waking ph₁ (tapes_of d.room 0 1 1 false 0 0) (state [] [] no_state)) = λ ph₁. waking-fits (tapes_fit room (omega arith) (omega arith) (omega arith)) nothing-fits in
        begins codec.reading d 0 (omega arith)
        (go_next codec.reading fresh_begun refl (waking-fits (tapes_fit room (omega arith) low (omega arith)) nothing-fits) (can_stop begun-device begun-off)
        (puts codec.reading begun-device 0 first-page has
        (go_next codec.reading fresh_head refl (fits fresh_head) (can_stop headed headed-off)
        (fastens codec.reading headed 0 (omega arith)
        (go_next codec.reading fresh_fast refl (fits fresh_fast) (can_stop (fastened headed 0) (firm-off codec R k (quiet-firm codec (quiet_at codec (first-quiet fresh_fast)))))
        (is_over (record {
          well = refl;
          silent = refl;
          holds = record {
            kept = k;
            held = held;
            fits = fits idle;
            phase = refl;
            rest = quiet (first-quiet idle) (omega arith);
          };
        })))))))
