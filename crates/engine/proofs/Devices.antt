-- What acts and stops leave of a device: how long each tape is, and that the other one stays; and a device on which one tape counts, whatever becomes of the
-- other. Assumes nothing.
use Rattle.std.proofs.Common.{◌≡◌, ℕ, zero, suc, ◌+◌, ◌-◌, ◌<◌, ◌≤◌, Bool, true, false, eqb, ◌⊎◌, List, [], ◌∷◌, ◌++◌, length, get_or, take, drop, sym, refl, ap, ◌∙◌, append-nil, arith, length-append}
use lib.ListN.{length-map}
use Rattle.std.proofs.lemmas.Bool.{lt-ltb, and_from}
use Rattle.plain.specs.Pattern.{pick}
use Rattle.plain.specs.Device.{Device, Page, Tape, tape, tape_of, half, lesser, left, stopped, longer, fastened, anew, read_record, a_page}
use Rattle.plain.specs.Promise.{all_longer}
use Rattle.plain.specs.Run.{has_room}
use Rattle.journal.specs.Log.{Position, Sides, ahead, back, head_of, next_generation, InCycle, cycle_1, cycle_2, cycle_3}
use Rattle.journal.specs.Small.{updated, no_state}
use Rattle.journal.proofs.Contents.{layout_old_is}
use Rattle.journal.proofs.Lifecycle as lifecycle
use Rattle.commands.specs.Kept.{Kept}
use Rattle.commands.specs.Smalls.{smalls_of}
use Rattle.engine.specs.Fits.{ReplayFits}
use Rattle.engine.proofs.Facts.{Codec, OffAt, lines_of_kept}

-- SIDES
pub side_first : {x y : ℕ} → Sides x y → x < 2
side_first ahead = omega arith
side_first back = omega arith

pub side_second : {x y : ℕ} → Sides x y → y < 2
side_second ahead = omega arith
side_second back = omega arith

pub sides_apart : {x y : ℕ} → Sides x y → y ≡ x → ⊥
sides_apart ahead e = omega arith
sides_apart back e = omega arith

pub sides_is : {x y : ℕ} → Sides x y → 1 - x ≡ y
sides_is ahead = refl
sides_is back = refl

pub sides_low : (x : ℕ) → x < 2 → Sides x (1 - x)
sides_low zero h = ahead
sides_low (suc zero) h = back
sides_low (suc (suc x)) h = absurd (omega arith)

-- generations
pub cycle-bounds : {g : ℕ} → InCycle g → (1 ≤ g) × (g ≤ 3)
cycle-bounds cycle_1 = omega arith
cycle-bounds cycle_2 = omega arith
cycle-bounds cycle_3 = omega arith

-- ACTS on the second tape, or on the first
module _ (d : Device) where
  pub longer-here : {x y : ℕ} (p : Page) → Sides x y → tape_of (longer d y p) y ≡ tape ((tape_of d y).records ++ p ∷ []) (suc (tape_of d y).loose)
  longer-here p ahead = refl
  longer-here p back = refl

  pub longer-there : {x y : ℕ} (p : Page) → Sides x y → tape_of (longer d y p) x ≡ tape_of d x
  longer-there p ahead = refl
  longer-there p back = refl

  pub longer-room : {x y : ℕ} (p : Page) → Sides x y → (longer d y p).room ≡ d.room
  longer-room p ahead = refl
  longer-room p back = refl

  pub fastened-here : {x y : ℕ} → Sides x y → tape_of (fastened d y) y ≡ tape (tape_of d y).records 0
  fastened-here ahead = refl
  fastened-here back = refl

  pub fastened-there : {x y : ℕ} → Sides x y → tape_of (fastened d y) x ≡ tape_of d x
  fastened-there ahead = refl
  fastened-there back = refl

  pub fastened-room : {x y : ℕ} → Sides x y → (fastened d y).room ≡ d.room
  fastened-room ahead = refl
  fastened-room back = refl

  pub anew-here : {x y : ℕ} → Sides x y → tape_of (anew d y) y ≡ tape [] 0
  anew-here ahead = refl
  anew-here back = refl

  pub anew-there : {x y : ℕ} → Sides x y → tape_of (anew d y) x ≡ tape_of d x
  anew-there ahead = refl
  anew-there back = refl

  pub anew-room : {x y : ℕ} → Sides x y → (anew d y).room ≡ d.room
  anew-room ahead = refl
  anew-room back = refl

pub longer-long : (d : Device) {x y : ℕ} (p : Page) → Sides x y → length (tape_of (longer d y p) y).records ≡ suc (length (tape_of d y).records)
longer-long d {x} {y} p s =
    ap (λ z. length z.records) (longer-here d p s) ∙ length-append (tape_of d y).records (p ∷ []) ∙ (let e : length (tape_of d y).records + 1 ≡ suc (length (tape_of d y).records) = omega arith in e)

pub longer-reads : (d : Device) {x y : ℕ} (p : Page) (i : ℕ) → Sides x y → read_record (longer d y p) x i ≡ read_record d x i
longer-reads d p i ahead = refl
longer-reads d p i back = refl

pub all_room : (d : Device) {x y : ℕ} (ps : List Page) → Sides x y → (all_longer d y ps).room ≡ d.room
unfolding all_longer
all_room d [] s = refl
all_room d {y = y} (p ∷ ps) s = all_room (longer d y p) ps s ∙ longer-room d p s

-- there is room for a page where the tape is not full
pub room_for : (d : Device) (t R n : ℕ) (p : Page) → t < 2 → d.room ≡ R → length (tape_of d t).records ≡ n → n < R → a_page p ≡ true → has_room d t p ≡ true
room_for d t R n p side e l h q = and_from _ _ (and_from _ _ (lt-ltb t 2 side) (lt-ltb _ _ (omega (arith, e, l, h)))) q

-- A STOP lengthens no tape
cut_short : (xs : List Page) (k : ℕ) (b : Bool) → length (take k xs ++ pick b (half (drop k xs)) []) ≤ length xs
unfolding half
cut_short [] zero true = omega arith
cut_short [] zero false = omega arith
cut_short [] (suc k) true = omega arith
cut_short [] (suc k) false = omega arith
cut_short (x ∷ xs) zero true = omega arith
cut_short (x ∷ xs) zero false = omega arith
cut_short (x ∷ xs) (suc k) b = let h = cut_short xs k b in omega arith

pub left_short : (z : Tape) (n h : ℕ) → length (left z n h).records ≤ length z.records
left_short z n h = cut_short z.records (length z.records - z.loose + lesser n z.loose) (eqb h 1)

-- ONE TAPE COUNTS and keeps k; the other may be filled, fastened or begun anew
module _ (codec : Codec) (R : ℕ) (k : Kept) where
  pub record Firm (d : Device) (x y g : ℕ) : Type 0 where
    pub live : Bool
    pub used : ℕ
    pub dir : List Position
    pub log : lifecycle.Active updated no_state ReplayFits codec.reading codec.torn live d x y g used dir (lines_of_kept k) (smalls_of k)
    pub room : d.room ≡ R
    pub used-fits : used ≤ R
    pub other_fits : length (tape_of d y).records ≤ R

  module _ {d : Device} {x y g : ℕ} (h : Firm d x y g) where
    pub firm-sides : Sides x y
    firm-sides = h.log.layout.sides

    pub firm-length : length (tape_of d x).records ≡ h.used
    firm-length =
        sym (length-map (tape_of d x).records codec.reading) ∙ ap length (layout_old_is codec.reading h.log.layout ∙ append-nil h.log.T) ∙ h.log.used

    -- whatever is left of it keeps k
    pub firm-off : (cs : List ℕ) → OffAt codec R (stopped d cs) k
    firm-off cs = record {
      room = h.room;
      fast_first = refl;
      fast-second = refl;
      fits_first = let a = left_short d.first (get_or cs 0 0) (get_or cs 1 0) in let b = both.0 in omega arith;
      fits-second = let a = left_short d.second (get_or cs 2 0) (get_or cs 3 0) in let b = both.1 in omega arith;
      log = lifecycle.active-rests updated no_state ReplayFits codec.reading codec.torn cs h.log;
    }
      where
        pair : {a b : ℕ} → Sides a b → length (tape_of d a).records ≤ R → length (tape_of d b).records ≤ R → (length d.first.records ≤ R) × (length d.second.records ≤ R)
        pair ahead p q = (p, q)
        pair back p q = (q, p)

        both : (length d.first.records ≤ R) × (length d.second.records ≤ R)
        both = pair firm-sides (let e = firm-length in let f = h.used-fits in omega arith) h.other_fits

    pub firm-begin : Firm (anew d y) x y g
    firm-begin = record {
      live = h.live;
      used = h.used;
      dir = h.dir;
      log = lifecycle.active-begin updated no_state ReplayFits codec.reading codec.torn h.log;
      room = anew-room d firm-sides ∙ h.room;
      used-fits = h.used-fits;
      other_fits = let e = ap (λ z. length z.records) (anew-here d firm-sides) in omega arith;
    }

    pub firm-put : (p : Page) → (head_of (codec.reading p) ≡ 0) ⊎ (head_of (codec.reading p) ≡ next_generation g) → length (tape_of d y).records < R → Firm (longer d y p) x y g
    firm-put p e l = record {
      live = h.live;
      used = h.used;
      dir = h.dir;
      log = lifecycle.active-put updated no_state ReplayFits codec.reading codec.torn p h.log e;
      room = longer-room d p firm-sides ∙ h.room;
      used-fits = h.used-fits;
      other_fits = let q = longer-long d p firm-sides in omega arith;
    }

    pub firm-fasten : Firm (fastened d y) x y g
    firm-fasten = record {
      live = h.live;
      used = h.used;
      dir = h.dir;
      log = lifecycle.active-fasten updated no_state ReplayFits codec.reading codec.torn h.log;
      room = fastened-room d firm-sides ∙ h.room;
      used-fits = h.used-fits;
      other_fits = let e = ap (λ z. length z.records) (fastened-here d firm-sides) in let f = h.other_fits in omega arith;
    }
