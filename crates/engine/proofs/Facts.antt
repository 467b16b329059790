-- What holds of the machine and its device, without power, at rest and in between. Assumes nothing.
use Rattle.std.proofs.Common.{◌≡◌, ℕ, ◌*◌, ◌≤◌, Bool, true, false, ◌⊎◌, List, [], length}
use Rattle.plain.specs.House.{Plain}
use Rattle.plain.specs.Device.{Device, Page, tape_of, a_page, stopped}
use Rattle.journal.specs.Log.{Rec, broken, Packed, tapes, halved}
use Rattle.journal.specs.Small.{News, updated, no_state}
use Rattle.journal.specs.Room.{Carrying}
use Rattle.records.specs.Pages.{page_of}
use Rattle.journal.proofs.Recovery as recovery
use Rattle.journal.proofs.Lifecycle as lifecycle
use Rattle.journal.proofs.Waiting.{waiting, Behind}
use Rattle.commands.specs.Kept.{Kept, kept_weight, directory}
use Rattle.commands.specs.Smalls.{smalls_of}
use Rattle.commands.specs.Held.{Held}
use Rattle.engine.specs.State.{House, idle, passive}
use Rattle.engine.specs.Fits.{RecordFits, ReplayFits, Fits}
use Rattle.engine.specs.Packing.{packs, records_on}
use Rattle.engine.specs.Machine.{threshold}

-- RECORDS AS PAGES, and what pages are taken for
pub record Codec : Type 0 where
  pub reading : Page → Rec News
  pub reads : (r : Rec News) → RecordFits r → reading (page_of r) ≡ r
  pub pages : (r : Rec News) → RecordFits r → a_page (page_of r) ≡ true
  pub torn : (p : Page) → reading (halved p) ≡ broken
  pub empty : reading [] ≡ broken

-- what is kept, as a tape has it
abbrev pub lines_of_kept : Kept → List Packed
lines_of_kept k = packs (directory k)

-- WITHOUT POWER: the device holds what is kept
pub record OffAt (codec : Codec) (R : ℕ) (d : Device) (k : Kept) : Type 0 where
  pub room : d.room ≡ R
  pub fast_first : d.first.loose ≡ 0
  pub fast-second : d.second.loose ≡ 0
  pub fits_first : length d.first.records ≤ R
  pub fits-second : length d.second.records ≤ R
  pub log : recovery.Off updated no_state ReplayFits (tapes codec.reading d) (lines_of_kept k) (smalls_of k)

pub record Off (codec : Codec) (R n : ℕ) (d : Device) (w : Plain) : Type 0 where
  pub kept : Kept
  pub held : Held w kept
  pub light : kept_weight kept ≤ 32 * R
  pub off : OffAt codec R d kept

-- a stop leaves what was kept before, or what is kept then
pub record Safe (codec : Codec) (R : ℕ) (d : Device) (k k₁ : Kept) : Type 0 where
  pub leaves : (cs : List ℕ) → OffAt codec R (stopped d cs) k ⊎ OffAt codec R (stopped d cs) k₁

module _ (codec : Codec) where
  -- the tapes with power: one counts, alone, or while entries are carried to the other
  abbrev pub Active : Bool → Device → House → Kept → Type 0
  Active live d x k =
      lifecycle.Active updated no_state ReplayFits codec.reading codec.torn live d x.tapes.active (passive x) x.tapes.generation x.tapes.used x.store.dir (lines_of_kept k) (smalls_of k)

  abbrev pub Copying : Bool → Device → House → Kept → Type 0
  Copying live d x k =
      lifecycle.Copying updated no_state ReplayFits codec.reading codec.torn live d x.tapes.active (passive x) x.tapes.generation x.tapes.used x.tapes.other x.store.dir (lines_of_kept k) (smalls_of k)

  -- what is common to both
  pub record Powered (R : ℕ) (d : Device) (x : House) (k : Kept) : Type 0 where
    pub machine-room : x.tapes.room ≡ R
    pub device-room : d.room ≡ R
    pub enough : 1024 ≤ R
    pub at_most : R ≤ 1048576
    pub light : kept_weight k ≤ 32 * R
    pub small : x.store.small ≡ smalls_of k
    pub other_fits : length (tape_of d (passive x)).records ≤ R
    pub used-fits : x.tapes.used ≤ R

  pub record Quiet (R : ℕ) (live : Bool) (d : Device) (x : House) (k : Kept) : Type 0 where
    pub powered : Powered R d x k
    pub not-busy : x.tapes.busy ≡ false
    pub cursor : x.tapes.cursor ≡ 0
    pub log : Active live d x k

  pub record Busy (R : ℕ) (live : Bool) (d : Device) (x : House) (k : Kept) : Type 0 where
    pub powered : Powered R d x k
    pub is-busy : x.tapes.busy ≡ true
    pub log : Copying live d x k
    pub behind : Behind x.tapes.active x.tapes.cursor x.store.dir
    pub cursor : x.tapes.cursor ≤ length x.store.dir

  -- BETWEEN COMMANDS, with what keeps the tapes from getting full; S is the sum of the sizes of the commands since the other tape was begun
  pub data Rest (R : ℕ) (d : Device) (x : House) (k : Kept) : Type 0 where
    quiet : Quiet R true d x k → x.tapes.used ≤ threshold R → Rest R d x k
    busy : (S : ℕ) → Busy R true d x k →
        Carrying R (threshold R) x.tapes.used x.tapes.other (records_on (passive x) x.store.dir (directory k)) S (waiting x.tapes.active x.store.dir) → Rest R d x k

  pub record Idle (R n : ℕ) (x : House) (d : Device) (w : Plain) : Type 0 where
    pub kept : Kept
    pub held : Held w kept
    pub fits : Fits x
    pub phase : x.phase ≡ idle
    pub rest : Rest R d x kept
