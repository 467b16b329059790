-- The end of a command: what was to be kept is, and the last rows are shown. Assumes nothing.
use Rattle.std.proofs.Common.{◌≡◌, ℕ, suc, ◌-◌, ◌<◌, Bool, true, false, ltb, List, [], ◌∷◌, ◌++◌, length, get_or, drop, sym, refl, ap, ◌∙◌, subst, inr, append_assoc, arith, length-drop, drop-cons}
use Rattle.std.proofs.lemmas.Bool.{lt-ltb, le-ltb}
use Rattle.plain.specs.Pattern.{each, eight}
use Rattle.plain.specs.House.{Plain, File, core}
use Rattle.plain.specs.House as plain_house
use Rattle.plain.specs.Device.{Device, stopped}
use Rattle.plain.specs.Promise.{May}
use Rattle.journal.specs.Small.{Entry}
use Rattle.journal.proofs.Machine.{after_did, is_over}
use Rattle.commands.specs.Kept.{Kept}
use Rattle.commands.specs.Plan.{Rows, no_row, a_number, all_files, table}
use Rattle.commands.specs.Turn.{more_rows}
use Rattle.engine.specs.State.{House, house, Phase, idle, count_shown, file_shown, Job, Walking, Putting, Carrying, at_phase, with_carrying}
use Rattle.engine.specs.Fits.{Fits, CarryingFits}
use Rattle.engine.specs.Machine.{Does, ends_done, finish, finish_row, show_files, file_row, no_entry, with_index}
use Rattle.engine.proofs.Facts.{Codec, OffAt, Powered, Quiet, Busy, Rest, quiet, busy}
use Rattle.engine.proofs.Course.{Course, Stop, Leads, On-course, ends, go_next, chosen}
use Rattle.engine.proofs.CompactFacts.{quiet-rests, busy-rests}

-- WHAT RESTS is a matter of the tapes and of what is stored alone
abbrev beside : House → Phase → Job → Walking → Putting → Carrying → House
beside x ph j w p c = house ph x.tapes x.store j w p c

module _ (codec : Codec) {R : ℕ} {d : Device} {x : House} {k : Kept} (ph : Phase) (j : Job) (w : Walking) (p : Putting) (c : Carrying) where
  powered_as : Powered codec R d x k → Powered codec R d (beside x ph j w p c) k
  powered_as h = record {
    machine-room = h.machine-room;
    device-room = h.device-room;
    enough = h.enough;
    at_most = h.at_most;
    light = h.light;
    small = h.small;
    other_fits = h.other_fits;
    used-fits = h.used-fits;
  }

  pub quiet_as : {live : Bool} → Quiet codec R live d x k → Quiet codec R live d (beside x ph j w p c) k
  quiet_as h = record { powered = powered_as h.powered; not-busy = h.not-busy; cursor = h.cursor; log = h.log }

  pub busy_as : {live : Bool} → Busy codec R live d x k → Busy codec R live d (beside x ph j w p c) k
  busy_as h = record { powered = powered_as h.powered; is-busy = h.is-busy; log = h.log; behind = h.behind; cursor = h.cursor }

  pub rest_as : Rest codec R d x k → Rest codec R d (beside x ph j w p c) k
  rest_as (quiet h l) = quiet (quiet_as h) l
  rest_as (busy S h l) = busy S (busy_as h) l

pub fits_as : {x : House} (ph : Phase) (c : Carrying) → CarryingFits c → Fits x → Fits (house ph x.tapes x.store x.job x.walking x.putting c)
fits_as ph c g f = record { tapes = f.tapes; store = f.store; job = f.job; walking = f.walking; putting = f.putting; carrying = g }

-- and a stop leaves it
module _ (codec : Codec) {R : ℕ} {d : Device} {x : House} {k : Kept} where
  pub rest_off : Rest codec R d x k → (cs : List ℕ) → OffAt codec R (stopped d cs) k
  rest_off (quiet h l) cs = quiet-rests codec h cs
  rest_off (busy S h l) cs = busy-rests codec h cs

  pub rest_small : Rest codec R d x k → Powered codec R d x k
  rest_small (quiet h l) = h.powered
  rest_small (busy S h l) = h.powered

-- a row of the table
rows_alike : (fs : List File) → each file_row (table fs) ≡ each plain_house.file_row fs
rows_alike [] = refl
rows_alike (f ∷ fs) = ap (λ z. plain_house.file_row f ∷ z) (rows_alike fs)

module _ (codec : Codec) (R n : ℕ) {w : Plain} {t : List ℕ} (C : Course R w t) where
  -- what is to be kept then is there already
  pub stops_then : (d : Device) {ss more : List (List ℕ)} {r j : ℕ} → ((cs : List ℕ) → OffAt codec R (stopped d cs) C.kept) → On-course codec R n C ss more r j → Stop codec R n C d ss
  stops_then d {ss} {more} h o cs = record {
    now = C.next;
    more = more;
    used = 0;
    reply = C.reply;
    then = C.next;
    allowed = subst (λ z. May core R w t z 0 C.reply C.next) (sym o.rows) (C.allowed 0 (omega arith));
    kept = inr refl;
    holds = record { kept = C.kept; held = C.held; light = C.light; off = h cs };
  }

  ends_lead : {x : House} {d : Device} {ss : List (List ℕ)} {r j : ℕ} → Rest codec R d x C.kept → Fits x → On-course codec R n C ss [] r j → 0 ≡ C.reply →
      Leads codec R n C (after_did d ss r (ends_done x))
  ends_lead {x} h f o e =
      is_over (ends codec R n C o e (record {
        kept = C.kept;
        held = C.held;
        fits = fits_as idle x.carrying f.carrying f;
        phase = refl;
        rest = rest_as codec idle x.job x.walking x.putting x.carrying h;
      }))

  row-then : {ss more : List (List ℕ)} {r j : ℕ} (row : List ℕ) → On-course codec R n C ss (row ∷ more) r j → On-course codec R n C (ss ++ row ∷ []) more r j
  row-then {ss} {more} row o = record { rows = append_assoc ss (row ∷ []) more ∙ o.rows; count = o.count }

  -- the files from the ith on
  files_lead : (left : List Entry) (i : ℕ) (x : House) {d : Device} {ss : List (List ℕ)} {r j : ℕ} → drop i x.store.small.files ≡ left → Rest codec R d x C.kept → Fits x →
      On-course codec R n C ss (each file_row left) r j → 0 ≡ C.reply → Leads codec R n C (after_did d ss r (show_files i x))
  files_lead [] i x {d} {ss} {r} e h f o q =
      let z : length x.store.small.files - i ≡ 0 = sym (length-drop i x.store.small.files) ∙ ap length e in
      chosen (λ (y : Does). Leads codec R n C (after_did d ss r y)) (ltb i (length x.store.small.files)) false _ _ (le-ltb i (length x.store.small.files) (omega arith)) (ends_lead h f o q)
  files_lead (a ∷ left) i x {d} {ss} {r} {j} e h f o q =
      let fs : List Entry = x.store.small.files in
      let z : length fs - i ≡ suc (length left) = sym (length-drop i fs) ∙ ap length e in
      let l : i < length fs = omega arith in
      let c : get_or fs i no_entry ∷ drop (suc i) fs ≡ a ∷ left = sym (drop-cons fs i no_entry l) ∙ e in
      let c₁ : a ≡ get_or fs i no_entry = cc in
      let c₂ : drop (suc i) fs ≡ left = cc in
      let row : List ℕ = file_row (get_or fs i no_entry) in
      let o₁ : On-course codec R n C ss (row ∷ each file_row left) r j = subst (λ b. On-course codec R n C ss (file_row b ∷ each file_row left) r j) c₁ o in
      let x₁ : House = at_phase file_shown (with_carrying (with_index i x.carrying) x) in
      let few = f.store.small.files_few in
      let g : CarryingFits x₁.carrying = record {
        index = omega arith;
        part = f.carrying.part;
        long = f.carrying.long;
        start = f.carrying.start;
        quota = f.carrying.quota;
      } in
      let f₁ : Fits x₁ = fits_as file_shown x₁.carrying g f in
      let h₁ : Rest codec R d x₁ C.kept = rest_as codec file_shown x.job x.walking x.putting x₁.carrying h in
      chosen (λ (y : Does). Leads codec R n C (after_did d ss r y)) (ltb i (length fs)) true _ _ (lt-ltb i (length fs) l)
      (go_next codec.reading file_shown refl f₁ (stops_then d (rest_off codec h₁) (row-then row o₁)) (files_lead left (suc i) x₁ c₂ h₁ f₁ (row-then row o₁) q))

  finish_row_leads : (rows : Rows) (x : House) {d : Device} {ss : List (List ℕ)} {r j : ℕ} → Rest codec R d x C.kept → Fits x →
      On-course codec R n C ss (more_rows rows C.kept.files) r j → 0 ≡ C.reply → Leads codec R n C (after_did d ss r (finish_row rows x))
  unfolding more_rows
  finish_row_leads no_row x h f o q = ends_lead h f o q
  finish_row_leads (a_number m) x {d} h f o q =
      let x₁ : House = at_phase count_shown x in
      let h₁ : Rest codec R _ x₁ C.kept = rest_as codec count_shown x.job x.walking x.putting x.carrying h in
      let f₁ : Fits x₁ = fits_as count_shown x.carrying f.carrying f in
      go_next codec.reading count_shown refl f₁ (stops_then d (rest_off codec h₁) (row-then (eight m) o)) (ends_lead h₁ f₁ (row-then (eight m) o) q)
  finish_row_leads all_files x {d} {ss} {r} {j} h f o q =
      let e : each file_row x.store.small.files ≡ each plain_house.file_row C.kept.files = ap (λ s. each file_row s.files) (rest_small codec h).small ∙ rows_alike C.kept.files in
      files_lead x.store.small.files 0 x refl h f (subst (λ z. On-course codec R n C ss z r j) (sym e) o) q

  -- at the decision to end
  pub finish_leads : (x : House) {d : Device} {ss : List (List ℕ)} {r j : ℕ} → Rest codec R d x C.kept → Fits x →
      On-course codec R n C ss (more_rows x.job.plan.rows C.kept.files) r j → 0 ≡ C.reply → Leads codec R n C (after_did d ss r (finish x))
  finish_leads x h f o q = finish_row_leads x.job.plan.rows x h f o q
