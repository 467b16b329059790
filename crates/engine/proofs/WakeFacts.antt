-- Waking up: the states of the machine on the way fit, a device that nothing is loose on stays as it is, and what its first records say. Assumes nothing.
use Rattle.std.proofs.Common.{◌≡◌, ℕ, ◌*◌, ◌<◌, ◌≤◌, Bool, false, List, [], ◌∷◌, length, get_or, sym, refl, ap, ◌∙◌, subst, inl, inr, arith}
use Rattle.plain.specs.House.{Plain, core}
use Rattle.plain.specs.Device.{Device, Tape, tape, left, stopped, read_record}
use Rattle.plain.specs.Promise.{May}
use Rattle.journal.specs.Log.{Position, Rec, broken, State, state, head_of, generation, Alike, none, more, Sides, ahead, back, Packed, Tapes, tapes, replay}
use Rattle.journal.specs.Small.{Small, News, updated, no_state}
use Rattle.journal.proofs.Running.{Asleep}
use Rattle.journal.proofs.Stops.{left_fast}
use Rattle.journal.proofs.Contents.{reads}
use Rattle.journal.proofs.Generations.{cycle_next}
use Rattle.journal.proofs.Recovery as recovery
use Rattle.journal.proofs.Bounds as bounds
use Rattle.commands.specs.Kept.{Kept, kept_weight}
use Rattle.commands.specs.Held.{Held}
use Rattle.engine.specs.State as machine_state
use Rattle.engine.specs.State.{House, Phase, house, no_job, walking_of, putting_of, carrying_of, tapes_of}
use Rattle.engine.specs.Fits.{Fits, ReplayFits, StoreFits, TapesFit, PositionsFit}
use Rattle.engine.specs.Fits as fits
use Rattle.engine.proofs.Facts.{Codec, OffAt, Off}
use Rattle.engine.proofs.Devices.{cycle-bounds}
use Rattle.engine.proofs.Setup.{no_state-fits}

-- THE MACHINE before any command
abbrev pub waking : Phase → machine_state.Tapes → State Small → House
waking ph t s = house ph t s no_job (walking_of 0 0 0 []) (putting_of false [] 0) (carrying_of 0 0 0 0 0 false)

pub waking-fits : {ph : Phase} {t : machine_state.Tapes} {s : State Small} → TapesFit t → StoreFits s → Fits (waking ph t s)
waking-fits f g = record {
  tapes = f;
  store = g;
  job = record {
    plan = record {
      after = omega arith;
      upto = omega arith;
      update = tt;
      splice = record { from = omega arith; gone = omega arith; source = tt; beside = refl };
      came = omega arith;
      span = omega arith;
      count = omega arith;
      current = omega arith;
      rows = tt;
    };
    name = omega arith;
    name_bytes = refl;
    size = omega arith;
  };
  walking = record { line = omega arith; part = omega arith; went = omega arith; bytes_few = omega arith; bytes = refl };
  putting = record { part = omega arith };
  carrying = record { index = omega arith; part = omega arith; long = omega arith; start = omega arith; quota = omega arith };
}

pub tapes_fit : {room t g u : ℕ} {b : Bool} → room ≤ 1048576 → t < 2 → g ≤ 3 → u ≤ 1048576 → TapesFit (tapes_of room t g u b 0 0)
tapes_fit a b c d = record { room = a; active = b; generation = c; used = d; other = omega arith; cursor = omega arith }

pub nothing-fits : StoreFits (state [] [] no_state)
nothing-fits = record { dir_few = omega arith; pending_few = omega arith; dir = fits.none; pending = fits.none; small = no_state-fits }

-- POSITIONS that replaying comes upon
entries_fit : (some : 0 < 1048576) {D E : List Position} → Alike (λ p (q : Position). bounds.Entry 1048576 some p) D E → PositionsFit D
entries_fit some none = fits.none
entries_fit some (more h k) = fits.more (record { tape = h.tape; at = h.at }) (entries_fit some k)

pub replay-store : (t : ℕ) (P : List (Rec News)) (s : State Small) → t < 2 → length P ≤ 1048576 → s ≡ replay updated no_state t P → ReplayFits (length s.dir) (length s.pending) s.small → StoreFits s
replay-store t P s side l e f =
    let some : 0 < 1048576 = omega arith in
    let h = subst (λ z. bounds.Fitting 1048576 some z) (sym e) (bounds.replay-fits 1048576 some updated t side no_state P l) in
    record { dir_few = f.entries_few; pending_few = f.pending_few; dir = entries_fit some h.dir; pending = entries_fit some h.pending; small = f.small }

-- THE DEVICE
left_all : (z : Tape) (n h : ℕ) → z.loose ≡ 0 → left z n h ≡ z
left_all z n h e = ap (λ u. left (tape z.records u) n h) e ∙ left_fast z.records n h ∙ ap (tape z.records) (sym e)

stopped_same : (d : Device) (cs : List ℕ) → d.first.loose ≡ 0 → d.second.loose ≡ 0 → stopped d cs ≡ d
stopped_same d cs a b =
    let p = left_all d.first (get_or cs 0 0) (get_or cs 1 0) a in
    let q = left_all d.second (get_or cs 2 0) (get_or cs 3 0) b in
    λ i. record { first = p i; second = q i; room = d.room }

pub off_stays : {codec : Codec} {R : ℕ} {d : Device} {k : Kept} → OffAt codec R d k → (cs : List ℕ) → OffAt codec R (stopped d cs) k
off_stays {codec} {R} {d} {k} h cs = subst (λ z. OffAt codec R z k) (sym (stopped_same d cs h.fast_first h.fast-second)) h

-- the generation of a tape is that of the first record
pub head_is : (codec : Codec) (d : Device) (t : ℕ) → head_of (codec.reading (read_record d t 0)) ≡ generation (tapes codec.reading d t)
head_is codec d t = ap head_of (reads codec.reading d t 0 codec.empty) ∙ first (tapes codec.reading d t)
  where
    first : (T : List (Rec News)) → head_of (get_or T 0 broken) ≡ generation T
    first [] = refl
    first (r ∷ T) = refl

pub off_generations : (d : Tapes News) {ls : List Packed} {s : Small} → recovery.Off updated no_state ReplayFits d ls s → (generation (d 0) ≤ 3) × (generation (d 1) ≤ 3)
off_generations d (recovery.empty a b) = omega arith
off_generations d (recovery.counts {g = g} sides cycle e n k) = pair sides (let h = cycle-bounds cycle in omega arith) (elim n [ inl z ↦ omega (arith, z) | inr z ↦ omega (arith, z, cycle-bounds (cycle_next cycle)) ])
  where
    pair : {a b : ℕ} → Sides a b → generation (d a) ≤ 3 → generation (d b) ≤ 3 → (generation (d 0) ≤ 3) × (generation (d 1) ≤ 3)
    pair ahead p q = (p, q)
    pair back p q = (q, p)

-- a stop on the way
pub asleep : {codec : Codec} {R n : ℕ} {w : Plain} {k : Kept} → Held w k → kept_weight k ≤ 32 * R → (d : Device) → ((cs : List ℕ) → OffAt codec R (stopped d cs) k) → Asleep (May core R) (Off codec R n) w d []
asleep {k = k} held light d f = record { silent = refl; holds = λ cs. record { kept = k; held = held; light = light; off = f cs } }
