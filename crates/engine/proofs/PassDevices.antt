-- What the acts make of the device's two tapes: how many records lie there, before and after a stop. Assumes nothing.
use Rattle.std.proofs.Common.{◌≡◌, ℕ, suc, ◌+◌, ◌≤◌, Bool, true, false, eqb, List, [], ◌∷◌, ◌++◌, length, get_or, sym, refl, ap, ◌∙◌, arith, length-append}
use lib.ListN.{length-map}
use Rattle.plain.specs.Pattern.{pick}
use Rattle.plain.specs.Device.{Device, Page, Tape, tape_of, with_tape, longer, fastened, stopped}
use Rattle.plain.specs.Promise.{all_longer}
use Rattle.journal.specs.Log.{Rec, Sides, ahead, back, tapes}
use Rattle.journal.specs.Small.{News, updated, no_state}
use Rattle.journal.proofs.Recovery as recovery
use Rattle.journal.proofs.Contents.{Layout, layout_old_is, layout_new_is}
use Rattle.commands.specs.Kept.{Kept}
use Rattle.commands.specs.Smalls.{smalls_of}
use Rattle.engine.specs.Fits.{ReplayFits}
use Rattle.engine.proofs.Facts.{Codec, OffAt, lines_of_kept}
use Rattle.engine.proofs.Devices.{left_short}

-- ONE TAPE OF TWO
abbrev one_of : Bool → Device → Tape → Device
one_of b d z = pick b (record { first = z; second = d.second; room = d.room }) (record { first = d.first; second = z; room = d.room })

one_of_at : (b : Bool) (d : Device) (z : Tape) → pick b (one_of b d z).first (one_of b d z).second ≡ z
one_of_at true d z = refl
one_of_at false d z = refl

one_of_room : (b : Bool) (d : Device) (z : Tape) → (one_of b d z).room ≡ d.room
one_of_room true d z = refl
one_of_room false d z = refl

pub with_tape-at : (d : Device) (t : ℕ) (z : Tape) → tape_of (with_tape d t z) t ≡ z
with_tape-at d t z = one_of_at (eqb t 0) d z

pub with_tape-room : (d : Device) (t : ℕ) (z : Tape) → (with_tape d t z).room ≡ d.room
with_tape-room d t z = one_of_room (eqb t 0) d z

pub with_tape_beside : {x y : ℕ} (d : Device) (z : Tape) → Sides x y → tape_of (with_tape d x z) y ≡ tape_of d y
with_tape_beside d z ahead = refl
with_tape_beside d z back = refl

-- MANY RECORDS
pub all_longer-room : (d : Device) (t : ℕ) (ps : List Page) → (all_longer d t ps).room ≡ d.room
unfolding all_longer
all_longer-room d t [] = refl
all_longer-room d t (p ∷ ps) = all_longer-room (longer d t p) t ps ∙ with_tape-room d t _

pub all_longer-count : (d : Device) (t : ℕ) (ps : List Page) → length (tape_of (all_longer d t ps) t).records ≡ length (tape_of d t).records + length ps
unfolding all_longer
all_longer-count d t [] = omega arith
all_longer-count d t (p ∷ ps) =
    let e = all_longer-count (longer d t p) t ps in
    let f : length (tape_of (longer d t p) t).records ≡ suc (length (tape_of d t).records) = ap (λ z. length z.records) (with_tape-at d t _) ∙ simp length-append (omega arith) in
    e ∙ ap (λ n. n + length ps) f ∙ (let g : suc (length (tape_of d t).records) + length ps ≡ length (tape_of d t).records + suc (length ps) = omega arith in g)

pub all_longer_beside : {x y : ℕ} (d : Device) (ps : List Page) → Sides x y → tape_of (all_longer d x ps) y ≡ tape_of d y
unfolding all_longer
all_longer_beside d [] s = refl
all_longer_beside {x} d (p ∷ ps) s = all_longer_beside (longer d x p) ps s ∙ with_tape_beside d _ s

pub all_longer_next : (d : Device) (t : ℕ) (ps : List Page) (p : Page) → longer (all_longer d t ps) t p ≡ all_longer d t (ps ++ p ∷ [])
unfolding all_longer
all_longer_next d t [] p = refl
all_longer_next d t (q ∷ ps) p = all_longer_next (longer d t q) t ps p

pub fastened-room : (d : Device) (t : ℕ) → (fastened d t).room ≡ d.room
fastened-room d t = with_tape-room d t _

pub fastened-count : (d : Device) (t : ℕ) → length (tape_of (fastened d t) t).records ≡ length (tape_of d t).records
fastened-count d t = ap (λ z. length z.records) (with_tape-at d t _)

-- A STOP
-- neither tape has more records than there is room for
pub record Bounded (R : ℕ) (d : Device) : Type 0 where
  pub room : d.room ≡ R
  pub first : length d.first.records ≤ R
  pub second : length d.second.records ≤ R

pub bounded_sides : {R x y : ℕ} {d : Device} → Sides x y → d.room ≡ R → length (tape_of d x).records ≤ R → length (tape_of d y).records ≤ R → Bounded R d
bounded_sides ahead r a b = record { room = r; first = a; second = b }
bounded_sides back r a b = record { room = r; first = b; second = a }

pub off_at_by : (codec : Codec) {R : ℕ} {d : Device} {k : Kept} (cs : List ℕ) → Bounded R d →
    recovery.Off updated no_state ReplayFits (tapes codec.reading (stopped d cs)) (lines_of_kept k) (smalls_of k) → OffAt codec R (stopped d cs) k
off_at_by codec {R} {d} cs b h = record {
  room = b.room;
  fast_first = refl;
  fast-second = refl;
  fits_first = let q = left_short d.first (get_or cs 0 0) (get_or cs 1 0) in let l = b.first in omega arith;
  fits-second = let q = left_short d.second (get_or cs 2 0) (get_or cs 3 0) in let l = b.second in omega arith;
  log = h;
}

-- as many records as are read there
pub layout_old_count : (reading : Page → Rec News) {v : Device} {x y : ℕ} {T P F L : List (Rec News)} → Layout reading v x y T P F L → length (tape_of v x).records ≡ length (T ++ P)
layout_old_count reading {v} {x} h = sym (length-map (tape_of v x).records reading) ∙ ap length (layout_old_is reading h)

pub layout_new_count : (reading : Page → Rec News) {v : Device} {x y : ℕ} {T P F L : List (Rec News)} → Layout reading v x y T P F L → length (tape_of v y).records ≡ length (F ++ L)
layout_new_count reading {v} {x} {y} h = sym (length-map (tape_of v y).records reading) ∙ ap length (layout_new_is reading h)
