-- Beginning the other tape: a head, and the small state; then entries are carried. Assumes nothing.
use Rattle.std.proofs.Common.{◌≡◌, ℕ, suc, ◌+◌, ◌-◌, ◌<◌, ◌≤◌, Bool, true, false, ltb, List, ◌∷◌, map, length, get_or, drop, sym, refl, ap, ◌∙◌, subst, inl, inr, arith, length-drop, drop-cons}
use lib.ListN.{length-map}
use Rattle.std.proofs.lemmas.Bool.{lt-ltb, le-ltb}
use Rattle.plain.specs.Device.{Device, Page, tape_of, stopped, longer, anew}
use Rattle.plain.specs.Promise.{all_longer}
use Rattle.plain.specs.Run.{next}
use Rattle.journal.specs.Log.{Rec, head, commit, set_up, no_splice, head_of, begin_records, next_generation}
use Rattle.journal.specs.Small.{News, updated, no_state, set_up_of}
use Rattle.records.specs.Pages.{page_of}
use Rattle.journal.proofs.Machine.{going, Goes, after_did}
use Rattle.journal.proofs.Contents.{layout_new_is}
use Rattle.journal.proofs.Lifecycle as lifecycle
use Rattle.journal.proofs.Generations.{cycle_next}
use Rattle.journal.proofs.Small.{set_up_right}
use Rattle.commands.specs.Kept.{Kept}
use Rattle.commands.specs.Smalls.{smalls_of}
use Rattle.engine.specs.State.{House, compact_begun, setting_up, at_phase, tapes_of, with_tapes, with_carrying, carrying_of, passive}
use Rattle.engine.specs.Fits.{Fits, Word, RecordFits, ReplayFits}
use Rattle.engine.specs.Machine.{machine_by, carry, begin_other, put_other, no_news}
use Rattle.engine.proofs.Facts.{Codec, OffAt, lines_of_kept}
use Rattle.engine.proofs.Course.{go_next, puts, begins, chosen}
use Rattle.engine.proofs.Devices.{cycle-bounds, Firm, firm-off, firm-sides, firm-begin, firm-put, side_second, longer-long, anew-here, anew-room, all_room, room_for}
use Rattle.engine.proofs.Setup.{AllNews, no_news_left, and_news, set_up-fits, set_up_few, no_state-fits, settled-fits, set_up_pages, length-set_up_pages, set_up_record, set_up-read}
use Rattle.engine.proofs.CompactFacts.{QuietAt, BusyAt, quiet-firm, fits-phase}

-- the other tape was begun, and has o records, the next one being record j of the small state; or it has none yet
abbrev pub setting : House → ℕ → Bool → ℕ → ℕ → House
setting x q w j o = at_phase setting_up (with_carrying (carrying_of j 0 0 0 q w) (with_tapes (tapes_of x.tapes.room x.tapes.active x.tapes.generation x.tapes.used true o 0) x))

abbrev pub begun : House → ℕ → Bool → House
begun x q w = at_phase compact_begun (setting x q w 0 0)

fits_setting : {x : House} {q : ℕ} {w : Bool} {j o : ℕ} → Fits x → Word q → Word j → o ≤ 1048576 → Fits (setting x q w j o)
fits_setting f h a b = record {
  tapes = record { room = f.tapes.room; active = f.tapes.active; generation = f.tapes.generation; used = f.tapes.used; other = b; cursor = omega arith };
  store = f.store;
  job = f.job;
  walking = f.walking;
  putting = f.putting;
  carrying = record { index = a; part = omega arith; long = omega arith; start = omega arith; quota = h };
}

fits-begun : {x : House} {q : ℕ} {w : Bool} → Fits x → Word q → Fits (begun x q w)
fits-begun f h = fits-phase compact_begun (fits_setting f h (omega arith) (omega arith))

-- WHAT HOLDS THEN
module _ {codec : Codec} {R m : ℕ} {live : Bool} {d : Device} {x : House} {k : Kept} (b : QuietAt codec R m live d x k) (f : Fits x) where
  abbrev all_news : List News
  all_news = set_up_of x.store.small

  abbrev begin_pages : List Page
  begin_pages = page_of (head (next_generation x.tapes.generation) (length x.store.dir)) ∷ set_up_pages all_news

  abbrev begun-device : Device
  begun-device = all_longer (anew d (passive x)) (passive x) begin_pages

  head-fits : RecordFits (head (next_generation x.tapes.generation) (length x.store.dir))
  head-fits =
      let h = cycle-bounds (cycle_next b.log.cycle) in
      let few = f.store.dir_few in
      let word : Word (length x.store.dir) = omega arith in
      (h.0, h.1, word)

  begun_log : (o : ℕ) → o ≡ suc (length all_news) →
      lifecycle.Copying updated no_state ReplayFits codec.reading codec.torn live begun-device x.tapes.active (passive x) x.tapes.generation m o x.store.dir (lines_of_kept k) (smalls_of k)
  begun_log o e =
      let g : Rec News = head (next_generation x.tapes.generation) (length x.store.dir) in
      let a = codec.reads g head-fits in
      let c = set_up-read codec (set_up-fits x.store.small f.store.small) in
      let read : map codec.reading begin_pages ≡ begin_records (next_generation x.tapes.generation) (length x.store.dir) all_news = λ i. a i ∷ c i in
      let n : length begin_pages ≡ o = let z = length-set_up_pages all_news in omega arith in
      subst (λ z. lifecycle.Copying updated no_state ReplayFits codec.reading codec.torn live begun-device x.tapes.active (passive x) x.tapes.generation m z x.store.dir (lines_of_kept k) (smalls_of k)) n
      (lifecycle.copying_begins updated no_state ReplayFits codec.reading codec.torn begin_pages all_news b.log read
      (set_up_right x.store.small f.store.small.ring_few ∙ b.powered.small)
      (record { entries_few = omega arith; pending_few = omega arith; small = no_state-fits })
      (λ n. record { entries_few = b.log.keeps.good.entries_few; pending_few = omega arith; small = settled-fits x.store.small f.store.small n }))

  begun-busy : (q : ℕ) (w : Bool) (j o : ℕ) → o ≡ suc (length all_news) → o ≤ R → BusyAt codec R m live begun-device (setting x q w j o) k
  begun-busy q w j o e room =
      let y : ℕ = passive x in
      let sides = b.log.layout.sides in
      let log₁ = begun_log o e in
      record {
        powered = record {
          machine-room = b.powered.machine-room;
          device-room = all_room (anew d y) begin_pages sides ∙ anew-room d sides ∙ b.powered.device-room;
          enough = b.powered.enough;
          at_most = b.powered.at_most;
          light = b.powered.light;
          small = b.powered.small;
          other_fits = let z = sym (length-map (tape_of begun-device y).records codec.reading) ∙ ap length (layout_new_is codec.reading log₁.layout) ∙ log₁.next-used in omega arith;
          used-fits = b.powered.used-fits;
        };
        long-fits = b.long-fits;
        is-busy = refl;
        log = log₁;
        behind = λ i h. absurd (omega arith);
        cursor = omega arith;
      }

module _
    (codec : Codec) (R m : ℕ) (live : Bool) (Stop : Device → List (List ℕ) → Type 0) (End : House → Device → List (List ℕ) → ℕ → ℕ → Type 0) (ss : List (List ℕ)) (k : Kept)
    (can_stop : (d : Device) → ((cs : List ℕ) → OffAt codec R (stopped d cs) k) → Stop d ss) (at_most : R ≤ 1048576)
  where
    -- a record of the small state after the other
    set-up-goes :
        {us : List News} (x : House) (q : ℕ) (w : Bool) (j o r : ℕ) {d : Device} → Fits x → Word q → AllNews us → drop j (set_up_of x.store.small) ≡ us → Word (length (set_up_of x.store.small)) →
        Firm codec R k d x.tapes.active (passive x) x.tapes.generation → length (tape_of d (passive x)).records ≡ o → o + length us ≤ R →
        ((j₁ o₁ r₁ : ℕ) → o₁ ≡ o + length us → r₁ ≡ r + length us → Fits (setting x q w j₁ o₁) → Goes (machine_by codec.reading) Stop End (after_did (all_longer d (passive x) (set_up_pages us)) ss r₁ (carry (setting x q w j₁ o₁)))) →
        j ≤ length (set_up_of x.store.small) → Goes (machine_by codec.reading) Stop End (going (setting x q w j o) d next ss r)
    unfolding all_longer
    set-up-goes x q w j o r {d} f word no_news_left e many firm long room cont below =
        let vs : List News = set_up_of x.store.small in
        let z : length vs - j ≡ 0 = sym (length-drop j vs) ∙ ap length e in
        let fits : Fits (setting x q w j o) = fits_setting f word (omega arith) (omega arith) in
        go_next codec.reading setting_up refl fits (can_stop d (firm-off codec R k firm))
        (chosen (λ a. Goes (machine_by codec.reading) Stop End (after_did d ss r a)) (ltb j (length vs)) false _ _ (le-ltb j (length vs) (omega arith)) (cont j o r (omega arith) (omega arith) fits))
    set-up-goes x q w j o r {d} f word (and_news {u = u} {us = us} fu h) e many firm long room cont below =
        let vs : List News = set_up_of x.store.small in
        let y : ℕ = passive x in
        let g : Page = page_of (set_up u) in
        let sides = firm-sides codec R k firm in
        let z : length vs - j ≡ suc (length us) = sym (length-drop j vs) ∙ ap length e in
        let there : j < length vs = omega arith in
        let c : get_or vs j no_news ∷ drop (suc j) vs ≡ u ∷ us = sym (drop-cons vs j no_news there) ∙ e in
        let first : get_or vs j no_news ≡ u = cc in
        let rest : drop (suc j) vs ≡ us = cc in
        let fits : Fits (setting x q w j o) = fits_setting f word (omega arith) (omega arith) in
        let has = room_for d y R o g (side_second sides) firm.room long (omega arith) (codec.pages (set_up u) (set_up_record fu)) in
        let firm₁ = firm-put codec R k firm g (inl (ap head_of (codec.reads (set_up u) (set_up_record fu)))) (omega arith) in
        let long₁ : length (tape_of (longer d y g) y).records ≡ suc o = longer-long d g sides ∙ ap suc long in
        go_next codec.reading setting_up refl fits (can_stop d (firm-off codec R k firm))
        (chosen (λ a. Goes (machine_by codec.reading) Stop End (after_did d ss r a)) (ltb j (length vs)) true _ _ (lt-ltb j (length vs) there)
        (subst (λ a. Goes (machine_by codec.reading) Stop End (after_did d ss r (put_other (commit no_splice a) (with_carrying (carrying_of (suc j) 0 0 0 q w) (setting x q w j o))))) (sym first)
        (puts codec.reading d y g has
        (set-up-goes x q w (suc j) (suc o) (suc r) f word h rest many firm₁ long₁ (omega arith) (λ j₁ o₁ r₁ p s. cont j₁ o₁ r₁ (omega arith) (omega arith)) there))))

    -- the head, and these
    pub begin-goes :
        (x : House) (d : Device) (q : ℕ) (w : Bool) (r : ℕ) → Fits x → Word q → QuietAt codec R m live d x k →
        ((j o r₁ : ℕ) (d₁ : Device) → o ≤ 130 → r₁ ≤ r + 130 → Fits (setting x q w j o) → BusyAt codec R m live d₁ (setting x q w j o) k → Goes (machine_by codec.reading) Stop End (after_did d₁ ss r₁ (carry (setting x q w j o)))) →
        Goes (machine_by codec.reading) Stop End (after_did d ss r (begin_other q w x))
    unfolding all_longer
    begin-goes x d q w r f word b cont =
        let y : ℕ = passive x in
        let sides = b.log.layout.sides in
        let few = set_up_few x.store.small f.store.small in
        let enough = b.powered.enough in
        let us : List News = set_up_of x.store.small in
        let g : Rec News = head (next_generation x.tapes.generation) (length x.store.dir) in
        let p : Page = page_of g in
        let d₀ : Device = anew d y in
        let firm = firm-begin codec R k (quiet-firm codec b) in
        let long : length (tape_of d₀ y).records ≡ 0 = ap (λ z. length z.records) (anew-here d sides) in
        let has = room_for d₀ y R 0 p (side_second sides) firm.room long (omega arith) (codec.pages g (head-fits b f)) in
        let firm₁ = firm-put codec R k firm p (inr (ap head_of (codec.reads g (head-fits b f)))) (omega arith) in
        let long₁ : length (tape_of (longer d₀ y p) y).records ≡ 1 = longer-long d₀ p sides ∙ ap suc long in
        begins codec.reading d y (side_second sides)
        (go_next codec.reading compact_begun refl (fits-begun f word) (can_stop d₀ (firm-off codec R k firm))
        (puts codec.reading d₀ y p has
        (set-up-goes x q w 0 1 (suc r) f word (set_up-fits x.store.small f.store.small) refl (omega arith) firm₁ long₁ (omega arith)
        (λ j o r₁ e n fits. cont j o r₁ (begun-device b f) (omega arith) (omega arith) fits (begun-busy b f q w j o (omega arith) (omega arith))) (omega arith))))
