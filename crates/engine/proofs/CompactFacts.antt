-- What holds while entries are carried to the other tape: facts for a tape that has more records than the machine counts, as after a stop; the next entry to
-- carry; what comes of carrying. Assumes nothing.
use Rattle.std.proofs.Common.{◌≡◌, ℕ, zero, suc, ◌+◌, ◌-◌, ◌*◌, ◌<◌, ◌≤◌, Bool, true, false, eqb, List, [], ◌∷◌, length, get_or, drop, set, sym, refl, ap, ◌∙◌, subst, inl, inr, arith, length-drop, get_or-drop}
use lib.ListN.{length-map}
use Rattle.std.proofs.lemmas.Bool.{eqb-true, eqb-false, cases_lt}
use Rattle.plain.specs.Pattern.{pick}
use Rattle.plain.specs.Device.{Device, tape_of, stopped}
use Rattle.journal.specs.Log.{Position, hole, next_generation}
use Rattle.journal.specs.Small.{updated, no_state}
use Rattle.journal.proofs.Alike.{alike_length}
use Rattle.journal.proofs.Contents.{layout_new_is}
use Rattle.journal.proofs.Lifecycle as lifecycle
use Rattle.journal.proofs.Waiting.{waiting, Behind}
use Rattle.commands.specs.Kept.{Kept, directory}
use Rattle.commands.specs.Smalls.{smalls_of}
use Rattle.engine.specs.State.{House, Phase, at_phase, passive}
use Rattle.engine.specs.Fits.{Fits, ReplayFits, PositionFits, PositionsFit, none, more}
use Rattle.engine.specs.Packing.{records_on, lines_records}
use Rattle.engine.specs.Machine.{next_on}
use Rattle.engine.proofs.Facts.{Codec, OffAt, Powered, Quiet, Busy, lines_of_kept}
use Rattle.engine.proofs.Devices.{Firm, firm-off}

-- FACTS, where the tape that counts has m records
module _ (codec : Codec) where
  pub record QuietAt (R m : ℕ) (live : Bool) (d : Device) (x : House) (k : Kept) : Type 0 where
    pub powered : Powered codec R d x k
    pub long-fits : m ≤ R
    pub log : lifecycle.Active updated no_state ReplayFits codec.reading codec.torn live d x.tapes.active (passive x) x.tapes.generation m x.store.dir (lines_of_kept k) (smalls_of k)

  pub record BusyAt (R m : ℕ) (live : Bool) (d : Device) (x : House) (k : Kept) : Type 0 where
    pub powered : Powered codec R d x k
    pub long-fits : m ≤ R
    pub is-busy : x.tapes.busy ≡ true
    pub log : lifecycle.Copying updated no_state ReplayFits codec.reading codec.torn live d x.tapes.active (passive x) x.tapes.generation m x.tapes.other x.store.dir (lines_of_kept k) (smalls_of k)
    pub behind : Behind x.tapes.active x.tapes.cursor x.store.dir
    pub cursor : x.tapes.cursor ≤ length x.store.dir

  module _ {R : ℕ} {live : Bool} {d : Device} {x : House} {k : Kept} where
    pub quiet_at : Quiet codec R live d x k → QuietAt R x.tapes.used live d x k
    quiet_at h = record { powered = h.powered; long-fits = h.powered.used-fits; log = h.log }

    pub busy-at : Busy codec R live d x k → BusyAt R x.tapes.used live d x k
    busy-at h = record { powered = h.powered; long-fits = h.powered.used-fits; is-busy = h.is-busy; log = h.log; behind = h.behind; cursor = h.cursor }

    pub at-busy : {m : ℕ} → m ≡ x.tapes.used → BusyAt R m live d x k → Busy codec R live d x k
    at-busy {m} e h = record {
      powered = h.powered;
      is-busy = h.is-busy;
      log = subst (λ n. lifecycle.Copying updated no_state ReplayFits codec.reading codec.torn live d x.tapes.active (passive x) x.tapes.generation n x.tapes.other x.store.dir (lines_of_kept k) (smalls_of k)) e h.log;
      behind = h.behind;
      cursor = h.cursor;
    }

    pub quiet-firm : {m : ℕ} → QuietAt R m live d x k → Firm codec R k d x.tapes.active (passive x) x.tapes.generation
    quiet-firm {m} h = record {
      live = live;
      used = m;
      dir = x.store.dir;
      log = h.log;
      room = h.powered.device-room;
      used-fits = h.long-fits;
      other_fits = h.powered.other_fits;
    }

    pub busy-firm : {m : ℕ} → BusyAt R m live d x k → Firm codec R k d x.tapes.active (passive x) x.tapes.generation
    busy-firm {m} h = record {
      live = live;
      used = m;
      dir = h.log.compacting.old;
      log = lifecycle.copying-active updated no_state ReplayFits codec.reading codec.torn h.log;
      room = h.powered.device-room;
      used-fits = h.long-fits;
      other_fits = h.powered.other_fits;
    }

    -- a stop at rest, and while entries are carried
    pub quiet-rests : Quiet codec R live d x k → (cs : List ℕ) → OffAt codec R (stopped d cs) k
    quiet-rests h = firm-off codec R k (quiet-firm (quiet_at h))

    pub busy-rests : Busy codec R live d x k → (cs : List ℕ) → OffAt codec R (stopped d cs) k
    busy-rests h = firm-off codec R k (busy-firm (busy-at h))

    -- how long the other tape is, and the directory
    pub busy-other : {m : ℕ} → BusyAt R m live d x k → length (tape_of d (passive x)).records ≡ x.tapes.other
    busy-other h = sym (length-map (tape_of d (passive x)).records codec.reading) ∙ ap length (layout_new_is codec.reading h.log.layout) ∙ h.log.next-used

    pub busy-long : {m : ℕ} → BusyAt R m live d x k → length x.store.dir ≡ length (directory k)
    busy-long h = alike_length h.log.compacting.holds ∙ length-map (directory k) _

    pub quiet_long : {m : ℕ} → QuietAt R m live d x k → length x.store.dir ≡ length (directory k)
    quiet_long h = alike_length h.log.keeps.holds ∙ length-map (directory k) _

-- THE NEXT ENTRY on tape t, from i on
record NextOn (t i n : ℕ) (ps : List Position) : Type 0 where
  low : i ≤ n
  high : n ≤ i + length ps
  hits : n < i + length ps → (get_or ps (n - i) hole).tape ≡ t
  misses : (j : ℕ) → i + j < n → (get_or ps j hole).tape ≡ t → ⊥

next_on_is : (t i : ℕ) (ps : List Position) → NextOn t i (next_on t i ps) ps
unfolding next_on
next_on_is t i [] = record { low = omega arith; high = omega arith; hits = λ h. absurd (omega arith); misses = λ j h e. omega arith }
next_on_is t i (p ∷ ps) = go (eqb p.tape t) refl (next_on_is t (suc i) ps)
  where
    go : (b : Bool) → eqb p.tape t ≡ b → NextOn t (suc i) (next_on t (suc i) ps) ps → NextOn t i (pick b i (next_on t (suc i) ps)) (p ∷ ps)
    go true e r = record {
      low = omega arith;
      high = omega arith;
      hits = λ h. subst (λ z. (get_or (p ∷ ps) z hole).tape ≡ t) (let q : 0 ≡ i - i = omega arith in q) (eqb-true p.tape t e);
      misses = λ j h g. omega arith;
    }
    go false e r =
        let n : ℕ = next_on t (suc i) ps in
        let low₁ : suc i ≤ n = r.low in
        record {
          low = omega arith;
          high = let q = r.high in omega arith;
          hits = λ h. subst (λ z. (get_or (p ∷ ps) z hole).tape ≡ t) (let q : suc (n - suc i) ≡ n - i = omega arith in q) (r.hits (omega arith));
          misses = miss r.misses;
        }
      where
        miss : ((j : ℕ) → suc i + j < next_on t (suc i) ps → (get_or ps j hole).tape ≡ t → ⊥) → (j : ℕ) → i + j < next_on t (suc i) ps → (get_or (p ∷ ps) j hole).tape ≡ t → ⊥
        miss f zero h g = eqb-false p.tape t e g
        miss f (suc j) h g = f j (omega arith) g

pub record NextEntry (t c n : ℕ) (D : List Position) : Type 0 where
  pub low : c ≤ n
  pub high : n ≤ length D
  pub hits : n < length D → (get_or D n hole).tape ≡ t
  pub behind : Behind t n D

pub next_entry_is : (t c : ℕ) (D : List Position) → c ≤ length D → Behind t c D → NextEntry t c (next_on t c (drop c D)) D
next_entry_is t c D l h =
    let n : ℕ = next_on t c (drop c D) in
    let r = next_on_is t c (drop c D) in
    let e : length (drop c D) ≡ length D - c = length-drop c D in
    let low₁ : c ≤ n = r.low in
    let high₁ : n ≤ c + length (drop c D) = r.high in
    record {
      low = low₁;
      high = omega arith;
      hits = λ g. subst (λ z. (get_or D z hole).tape ≡ t) (let q : c + (n - c) ≡ n = omega arith in q) (sym (ap (λ p. p.tape) (get_or-drop c D (n - c) hole)) ∙ r.hits (omega arith));
      behind = λ i g q. elim (cases_lt i c) [ inl a ↦ h i a q | inr a ↦ r.misses (i - c) (omega (arith, a, g)) (back i a q) ];
    }
  where
    back : (i : ℕ) → c ≤ i → (get_or D i hole).tape ≡ t → (get_or (drop c D) (i - c) hole).tape ≡ t
    back i a q = ap (λ p. p.tape) (get_or-drop c D (i - c) hole) ∙ subst (λ z. (get_or D z hole).tape ≡ t) (let e : i ≡ c + (i - c) = omega arith in e) q

-- POSITIONS
pub positions-set : {D : List Position} (i : ℕ) {p : Position} → PositionsFit D → PositionFits p → PositionsFit (set D i p)
positions-set i none f = none
positions-set zero (more g h) f = more f h
positions-set (suc i) (more g h) f = more g (positions-set i h f)

pub fits-phase : {x : House} (ph : Phase) → Fits x → Fits (at_phase ph x)
fits-phase ph f = record { tapes = f.tapes; store = f.store; job = f.job; walking = f.walking; putting = f.putting; carrying = f.carrying }

-- and the facts hold whatever the last act was
module _ (codec : Codec) {R : ℕ} {d : Device} {x : House} {k : Kept} (ph : Phase) where
  pub powered_phase : Powered codec R d x k → Powered codec R d (at_phase ph x) k
  powered_phase h = record {
    machine-room = h.machine-room;
    device-room = h.device-room;
    enough = h.enough;
    at_most = h.at_most;
    light = h.light;
    small = h.small;
    other_fits = h.other_fits;
    used-fits = h.used-fits;
  }

  pub quiet_phase : {live : Bool} → Quiet codec R live d x k → Quiet codec R live d (at_phase ph x) k
  quiet_phase h = record { powered = powered_phase h.powered; not-busy = h.not-busy; cursor = h.cursor; log = h.log }

  pub busy-phase : {live : Bool} → Busy codec R live d x k → Busy codec R live d (at_phase ph x) k
  busy-phase h = record { powered = powered_phase h.powered; is-busy = h.is-busy; log = h.log; behind = h.behind; cursor = h.cursor }

-- WHAT COMES OF CARRYING
-- what is the same in both
pub record Untouched (w : Bool) (x x₁ : House) : Type 0 where
  pub room : x₁.tapes.room ≡ x.tapes.room
  pub small : x₁.store.small ≡ x.store.small
  pub pending : x₁.store.pending ≡ x.store.pending
  pub job : x₁.job ≡ x.job
  pub walking : x₁.walking ≡ x.walking
  pub putting : x₁.putting ≡ x.putting
  pub waking : x₁.carrying.waking ≡ w

-- q entries were carried, and that is all that may be
pub record SomeCarriedAt (codec : Codec) (R m : ℕ) (live : Bool) (k : Kept) (q r : ℕ) (x x₁ : House) (d₁ : Device) (r₁ : ℕ) : Type 0 where
  pub busy : BusyAt codec R m live d₁ x₁ k
  pub fits : Fits x₁
  pub same : Untouched x.carrying.waking x x₁
  pub active : x₁.tapes.active ≡ x.tapes.active
  pub generation : x₁.tapes.generation ≡ x.tapes.generation
  pub used : x₁.tapes.used ≡ x.tapes.used
  pub waits : waiting x.tapes.active x₁.store.dir + q ≡ waiting x.tapes.active x.store.dir
  pub shares : x₁.tapes.other + records_on (passive x) x.store.dir (directory k) ≡ x.tapes.other + records_on (passive x) x₁.store.dir (directory k)
  pub count : r₁ ≤ r + 6 * q

-- none was left, and the other tape counts
pub record AllCarried (codec : Codec) (R : ℕ) (k : Kept) (q r : ℕ) (x x₁ : House) (d₁ : Device) (r₁ : ℕ) : Type 0 where
  pub quiet : Quiet codec R true d₁ x₁ k
  pub fits : Fits x₁
  pub same : Untouched x.carrying.waking x x₁
  pub active : x₁.tapes.active ≡ passive x
  pub generation : x₁.tapes.generation ≡ next_generation x.tapes.generation
  pub used : x₁.tapes.used ≡ x.tapes.other + records_on x.tapes.active x.store.dir (directory k)
  pub count : r₁ ≤ r + 6 * q

-- THE SAME from where the other tape is begun, with q entries that may be carried
pub record SomeBegunAt (codec : Codec) (R m : ℕ) (live : Bool) (k : Kept) (q : ℕ) (w : Bool) (r : ℕ) (x x₁ : House) (d₁ : Device) (r₁ : ℕ) : Type 0 where
  pub busy : BusyAt codec R m live d₁ x₁ k
  pub fits : Fits x₁
  pub same : Untouched w x x₁
  pub active : x₁.tapes.active ≡ x.tapes.active
  pub generation : x₁.tapes.generation ≡ x.tapes.generation
  pub used : x₁.tapes.used ≡ x.tapes.used
  pub waits : waiting x.tapes.active x₁.store.dir + q ≡ length x.store.dir
  pub shares : x₁.tapes.other ≤ 130 + records_on (passive x) x₁.store.dir (directory k)
  pub count : r₁ ≤ r + 130 + 6 * q

pub record AllBegun (codec : Codec) (R : ℕ) (k : Kept) (q : ℕ) (w : Bool) (r : ℕ) (x x₁ : House) (d₁ : Device) (r₁ : ℕ) : Type 0 where
  pub quiet : Quiet codec R true d₁ x₁ k
  pub fits : Fits x₁
  pub same : Untouched w x x₁
  pub active : x₁.tapes.active ≡ passive x
  pub generation : x₁.tapes.generation ≡ next_generation x.tapes.generation
  pub used : x₁.tapes.used ≤ 130 + lines_records (directory k)
  pub count : r₁ ≤ r + 130 + 6 * q

-- THE SAME where the machine counts all records of the tape that counts
pub record SomeCarried (codec : Codec) (R : ℕ) (live : Bool) (k : Kept) (q r : ℕ) (x x₁ : House) (d₁ : Device) (r₁ : ℕ) : Type 0 where
  pub busy : Busy codec R live d₁ x₁ k
  pub fits : Fits x₁
  pub same : Untouched x.carrying.waking x x₁
  pub active : x₁.tapes.active ≡ x.tapes.active
  pub generation : x₁.tapes.generation ≡ x.tapes.generation
  pub used : x₁.tapes.used ≡ x.tapes.used
  pub waits : waiting x.tapes.active x₁.store.dir + q ≡ waiting x.tapes.active x.store.dir
  pub shares : x₁.tapes.other + records_on (passive x) x.store.dir (directory k) ≡ x.tapes.other + records_on (passive x) x₁.store.dir (directory k)
  pub count : r₁ ≤ r + 6 * q

pub record SomeBegun (codec : Codec) (R : ℕ) (live : Bool) (k : Kept) (q : ℕ) (w : Bool) (r : ℕ) (x x₁ : House) (d₁ : Device) (r₁ : ℕ) : Type 0 where
  pub busy : Busy codec R live d₁ x₁ k
  pub fits : Fits x₁
  pub same : Untouched w x x₁
  pub active : x₁.tapes.active ≡ x.tapes.active
  pub generation : x₁.tapes.generation ≡ x.tapes.generation
  pub used : x₁.tapes.used ≡ x.tapes.used
  pub waits : waiting x.tapes.active x₁.store.dir + q ≡ length x.store.dir
  pub shares : x₁.tapes.other ≤ 130 + records_on (passive x) x₁.store.dir (directory k)
  pub count : r₁ ≤ r + 130 + 6 * q

pub some_carried : {codec : Codec} {R : ℕ} {live : Bool} {k : Kept} {q r : ℕ} {x x₁ : House} {d₁ : Device} {r₁ : ℕ} →
    SomeCarriedAt codec R x.tapes.used live k q r x x₁ d₁ r₁ → SomeCarried codec R live k q r x x₁ d₁ r₁
some_carried {codec} h = record {
  busy = at-busy codec (sym h.used) h.busy;
  fits = h.fits;
  same = h.same;
  active = h.active;
  generation = h.generation;
  used = h.used;
  waits = h.waits;
  shares = h.shares;
  count = h.count;
}

pub some_begun : {codec : Codec} {R : ℕ} {live : Bool} {k : Kept} {q : ℕ} {w : Bool} {r : ℕ} {x x₁ : House} {d₁ : Device} {r₁ : ℕ} →
    SomeBegunAt codec R x.tapes.used live k q w r x x₁ d₁ r₁ → SomeBegun codec R live k q w r x x₁ d₁ r₁
some_begun {codec} h = record {
  busy = at-busy codec (sym h.used) h.busy;
  fits = h.fits;
  same = h.same;
  active = h.active;
  generation = h.generation;
  used = h.used;
  waits = h.waits;
  shares = h.shares;
  count = h.count;
}
