-- Waking up where a tape counts: it is replayed, record by record, and then carried to the other tape as a whole. Assumes nothing.
use Rattle.std.proofs.Common.{◌≡◌, ℕ, suc, ◌+◌, ◌*◌, ◌≤◌, Bool, true, false, List, [], ◌∷◌, ◌++◌, length, get_or, sym, refl, ap, ◌∙◌, subst, append_assoc, append-nil, arith, length-append}
use lib.Seq.{get_or_at}
use Rattle.std.proofs.lemmas.List.{get_or_past}
use Rattle.std.proofs.lemmas.Bool.{true≢false}
use Rattle.plain.specs.House.{Plain, core}
use Rattle.plain.specs.Device.{Device, tape_of, stopped, read_record}
use Rattle.plain.specs.Promise.{May}
use Rattle.plain.specs.Run.{page}
use Rattle.journal.specs.Log.{Position, Rec, head, line, copy, commit, broken, State, state, intact, Intact, after, replay, replay_from, tapes}
use Rattle.journal.specs.Small.{Small, News, updated, no_state}
use Rattle.journal.proofs.Running.{Asleep}
use Rattle.journal.proofs.Machine.{Where, going, Goes, is_over, after_did, Awoke}
use Rattle.journal.proofs.Contents.{reads}
use Rattle.journal.proofs.Replay.{intact-append, replay_from-broken}
use Rattle.journal.proofs.Stored.{replay_next}
use Rattle.journal.proofs.Through.{Through, last, then}
use Rattle.journal.proofs.Lifecycle as lifecycle
use Rattle.commands.specs.Kept.{Kept, kept_weight}
use Rattle.commands.specs.Smalls.{smalls_of}
use Rattle.commands.specs.Held.{Held}
use Rattle.engine.specs.State.{House, idle, replaying, tapes_of, with_store, with_pending}
use Rattle.engine.specs.Fits.{Fits, ReplayFits, none}
use Rattle.engine.specs.Machine.{machine_by, begin_other, replay_record, no_limit}
use Rattle.engine.proofs.Facts.{Codec, OffAt, Off, Idle, quiet, lines_of_kept}
use Rattle.engine.proofs.Course.{go_record, asks, chosen}
use Rattle.engine.proofs.Devices.{side_first, sides_is, Firm, firm-off}
use Rattle.engine.proofs.Shares.{directory_weighs}
use Rattle.engine.proofs.CompactFacts.{QuietAt, fits-phase, quiet_phase}
use Rattle.engine.proofs.Compact.{begin-leads-at}
use Rattle.engine.proofs.WakeFacts.{waking, waking-fits, tapes_fit, replay-store, asleep}

-- a record that isn't intact is broken
not-intact : (r : Rec News) → intact r ≡ false → r ≡ broken
not-intact (head g n) e = absurd (true≢false e)
not-intact (line j b) e = absurd (true≢false e)
not-intact (copy i j b) e = absurd (true≢false e)
not-intact (commit c u) e = absurd (true≢false e)
not-intact broken e = refl

-- what is known of the tape that counts
pub record Found (codec : Codec) (R : ℕ) (d : Device) (k : Kept) (t g : ℕ) : Type 0 where
  pub other : ℕ
  pub dir : List Position
  pub records : List (Rec News)
  pub is : tapes codec.reading d t ≡ records
  pub log : lifecycle.Active updated no_state ReplayFits codec.reading codec.torn false d t other g (length records) dir (lines_of_kept k) (smalls_of k)
  pub tape_is : log.T ≡ records
  pub room : d.room ≡ R
  pub low : g ≤ 3
  pub long-fits : length records ≤ R
  pub other_fits : length (tape_of d other).records ≤ R

module _ (codec : Codec) (R n : ℕ) (enough : 1024 ≤ R) (at_most : R ≤ 1048576) {w : Plain} (k : Kept) (held : Held w k) (light : kept_weight k ≤ 32 * R) (d : Device) (t g : ℕ) (h : Found codec R d k t g) where
  abbrev Wakes : Where House → Type 0
  Wakes p = Goes (machine_by codec.reading) (Asleep (May core R) (Off codec R n) w) (Awoke (May core R) (λ x d₁ s. Idle codec R n x d₁ s) w) p

  abbrev can_stop : (d₁ : Device) → ((cs : List ℕ) → OffAt codec R (stopped d₁ cs) k) → Asleep (May core R) (Off codec R n) w d₁ []
  can_stop = asleep held light

  abbrev replayed : ℕ → State Small → House
  replayed u s = waking replaying (tapes_of d.room t g u false 0 0) s

  found_quiet : (u : ℕ) (s : State Small) → u ≤ R → s ≡ replay updated no_state t h.records → QuietAt codec R (length h.records) false d (with_store (with_pending [] s) (replayed u s)) k
  found_quiet u s l e =
      let y = sides_is h.log.layout.sides in
      let shows = h.log.keeps.shows in
      let same : replay updated no_state t h.log.T ≡ s = ap (replay updated no_state t) h.tape_is ∙ sym e in
      record {
        powered = record {
          machine-room = h.room;
          device-room = h.room;
          enough = enough;
          at_most = at_most;
          light = light;
          small = ap (λ z. z.small) (sym same) ∙ shows.small;
          other_fits = subst (λ z. length (tape_of d z).records ≤ R) (sym y) h.other_fits;
          used-fits = l;
        };
        long-fits = h.long-fits;
        log = subst (λ z. lifecycle.Active updated no_state ReplayFits codec.reading codec.torn false d t z g (length h.records) s.dir (lines_of_kept k) (smalls_of k)) (sym y)
            (subst (λ z. lifecycle.Active updated no_state ReplayFits codec.reading codec.torn false d t h.other g (length h.records) z (lines_of_kept k) (smalls_of k)) (sym shows.dir ∙ ap (λ z. z.dir) same) h.log);
      }

  firm : Firm codec R k d t h.other g
  firm = record { live = false; used = length h.records; dir = h.dir; log = h.log; room = h.room; used-fits = h.long-fits; other_fits = h.other_fits }

  -- all of it was replayed: it is carried to the other tape, and the house is awake
  whole-goes : (u r : ℕ) (s : State Small) → Fits (replayed u s) → u ≤ R → s ≡ replay updated no_state t h.records → Wakes (after_did d [] r (begin_other no_limit true (with_store (with_pending [] s) (replayed u s))))
  whole-goes u r s f l e =
      let x : House = with_store (with_pending [] s) (replayed u s) in
      let few = f.store.dir_few in
      let fits : Fits x = waking-fits f.tapes (record { dir_few = few; pending_few = omega arith; dir = f.store.dir; pending = none; small = f.store.small }) in
      begin-leads-at codec R _ _ [] k can_stop held.sound (length h.records) x d no_limit true r fits (omega arith) (found_quiet u s l e)
      (λ x₁ d₁ r₁ c. absurd (let z = c.waits in omega arith))
      (λ x₁ d₁ r₁ c.
      chosen (λ z. Wakes (after_did d₁ [] r₁ z)) x₁.carrying.waking true _ _ c.same.waking
      (is_over (record {
        well = refl;
        silent = refl;
        holds = record {
          kept = k;
          held = held;
          fits = fits-phase idle c.fits;
          phase = refl;
          rest = quiet (quiet_phase codec idle c.quiet) (let a = directory_weighs k in let b = c.used in omega arith);
        };
      })))

  -- after the records of P it is told the record z
  module _ {u : ℕ} {s : State Small} (P : List (Rec News)) (r : ℕ) (long : length P ≡ u) (below : u ≤ R) (gives : s ≡ replay updated no_state t P) (f : ReplayFits (length s.dir) (length s.pending) s.small) where
    replayed-fits : Fits (replayed u s)
    replayed-fits =
        let side = side_first h.log.layout.sides in
        waking-fits (tapes_fit (let e = h.room in omega arith) side h.low (omega arith)) (replay-store t P s side (omega arith) gives f)

    told : (z : Rec News) → get_or h.records u broken ≡ z → Wakes (after_did d [] r (replay_record z (replayed u s))) → Wakes (going (replayed u s) d (page (read_record d t u)) [] r)
    told z e go =
        go_record codec.reading (read_record d t u) replaying z refl (reads codec.reading d t u codec.empty ∙ ap (λ T. get_or T u broken) h.is ∙ e) replayed-fits (can_stop d (firm-off codec R k firm)) go

  -- Q is left behind P
  replay-goes : {u : ℕ} {s : State Small} {Q : List (Rec News)} (P : List (Rec News)) (r : ℕ) → P ++ Q ≡ h.records → length P ≡ u → Intact P → s ≡ replay updated no_state t P →
      Through updated no_state ReplayFits t u s Q → Wakes (going (replayed u s) d (page (read_record d t u)) [] r)
  replay-goes {u} {s} P r parts long whole gives (last f) =
      let all : P ≡ h.records = sym (append-nil P) ∙ parts in
      let n = ap length all in
      let below : u ≤ R = let q = h.long-fits in omega arith in
      told P r long below gives f broken (get_or_past h.records u broken (omega arith))
      (whole-goes u r s (replayed-fits P r long below gives f) below (gives ∙ ap (replay updated no_state t) all))
  replay-goes {u} {s} P r parts long whole gives (then {r = z} {rs = Q} f rest) =
      let n : length h.records ≡ length P + suc (length Q) = sym (ap length parts) ∙ length-append P (z ∷ Q) in
      let below : u ≤ R = let q = h.long-fits in omega arith in
      told P r long below gives f z (ap (λ T. get_or T u broken) (sym parts) ∙ get_or_at P z Q broken u long)
      (go (intact z) refl below (λ q.
      replay-goes (P ++ z ∷ []) (suc r) (append_assoc P (z ∷ []) Q ∙ parts) (length-append P (z ∷ []) ∙ (let e : length P + 1 ≡ suc u = omega arith in e))
      (intact-append P (z ∷ []) whole (rw q refl)) (ap (λ y. after updated t u y z) gives ∙ ap (λ i. after updated t i (replay updated no_state t P) z) (sym long) ∙ sym (replay_next updated no_state t P z whole q)) rest))
    where
      go : (b : Bool) → intact z ≡ b → u ≤ R → (intact z ≡ true → Wakes (going (replayed (suc u) (after updated t u s z)) d (page (read_record d t (suc u))) [] (suc r))) → Wakes (after_did d [] r (replay_record z (replayed u s)))
      go true e below on = chosen (λ y. Wakes (after_did d [] r y)) (intact z) true _ _ e (asks codec.reading d t (suc u) (side_first h.log.layout.sides) (on e))
      go false e below on =
          let same : P ++ broken ∷ Q ≡ h.records = ap (λ y. P ++ y ∷ Q) (sym (not-intact z e)) ∙ parts in
          chosen (λ y. Wakes (after_did d [] r y)) (intact z) false _ _ e
          (whole-goes u r s (replayed-fits P r long below gives f) below
          (gives ∙ sym (replay_from-broken updated t 0 (state [] [] no_state) P Q) ∙ ap (replay updated no_state t) same))

  -- from the first on
  pub replay_leads : (r : ℕ) → Wakes (going (replayed 0 (state [] [] no_state)) d (page (read_record d t 0)) [] r)
  unfolding replay_from
  replay_leads r = replay-goes [] r refl refl refl refl (subst (λ T. Through updated no_state ReplayFits t 0 (state [] [] no_state) T) h.tape_is h.log.keeps.through)
