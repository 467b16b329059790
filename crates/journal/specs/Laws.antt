-- What is shown of the log: each statement is the contract of a function of this crate. Assumes nothing.
use Rattle.std.specs.Prelude.{◌≡◌, ℕ, ◌+◌, ◌-◌, ◌*◌, ◌<◌, ◌≤◌, ◌⊎◌, List, [], ◌∷◌, ◌++◌, map, length, get_or, ◌≢◌, slice_index_or, slice_set}
use Rattle.plain.specs.Device.{Device, Page, tape_of, stopped}
use Rattle.plain.specs.Promise.{all_longer}
use Rattle.journal.specs.Log.{Position, position, hole, Splice, Rec, broken, State, state, apply, Intact, replay, Packed, copy_records, positions, command_records, begin_records, On, Alike, LinesOnly, Left, generation, InCycle, Newer, only, chosen, Sides, tapes, halved}
use Rattle.journal.specs.Small.{Small, News, updated, set_up_of, no_state}
use Rattle.journal.specs.Room.{Rooms, Carrying}

-- records of a table of 64 files
abbrev pub Log : Type 0
Log = List (Rec News)

abbrev pub replayed : ℕ → Log → State Small
replayed t T = replay updated (no_state) t T

-- what counts of a state: not what is pending
pub record Same (a b : State Small) : Type 0 where
  pub dir : a.dir ≡ b.dir
  pub small : a.small ≡ b.small

-- more can be put on: all is intact, and nothing is pending
pub record Settled (t : ℕ) (T : Log) : Type 0 where
  pub all_intact : Intact T
  pub pending : (replayed t T).pending ≡ []

-- 1. A splice is natural in the entries: what is done to positions is done to the lines that lie there.
unfoldable pub ApplyNatural : Type 0
ApplyNatural = (f : Position → Packed) (c : Splice) (D P : List Position) → apply c (map f D) (map f P) ≡ map f (apply c D P)

-- 2. Lines that no commit follows, and a broken record with whatever may stand behind it, change nothing.
unfoldable pub TornTailUnseen : Type 0
TornTailUnseen =
    (t : ℕ) (T zs : Log) → (replayed t (T ++ broken ∷ zs) ≡ replayed t T) × (Intact T → LinesOnly zs → Same (replayed t (T ++ zs)) (replayed t T))

-- 3. A commit record changes all at once; and a stop in the middle of a command leaves the state before it, or the one after it.
unfoldable pub CommitAllAtOnce : Type 0
CommitAllAtOnce =
    (t : ℕ) (T : Log) (new : List Packed) (c : Splice) (u : News) → Settled t T →
    (replayed t (T ++ command_records new c u) ≡ state (apply c (replayed t T).dir (positions t (length T) new)) [] (updated u (replayed t T).small))
    × ((zs : Log) → Left (command_records new c u) zs →
    Same (replayed t (T ++ zs)) (replayed t T) ⊎ Same (replayed t (T ++ zs)) (replayed t (T ++ command_records new c u)))

-- 4. A stop at any moment while a command's records are put on one tape, and any others on the other: the same tape counts, and gives the state before the
-- command or after it. Of the records some have been put on, and some are to come; what is on the other tape may only be newer.
pub record StoppedAt (read : Page → Rec News) (v : Device) (x y g : ℕ) : Type 0 where
  pub sides : Sides x y
  pub cycle : InCycle g
  pub fast : (tape_of v x).loose ≡ 0
  pub settled : Settled x (tapes read v x)
  pub older : generation (tapes read v x) ≡ g
  pub loose : (tape_of v y).loose ≤ length (tape_of v y).records

unfoldable pub StopKeepsState : Type 0
StopKeepsState =
    (read : Page → Rec News) → ((p : Page) → read (halved p) ≡ broken) → (v : Device) (x y g : ℕ) → StoppedAt read v x y g →
    (ps qs others : List Page) (new : List Packed) (c : Splice) (u : News) → map read ps ++ map read qs ≡ command_records new c u →
    Newer g (tapes read v y ++ map read others) → (cs : List ℕ) →
    (chosen (tapes read (stopped (all_longer (all_longer v x ps) y others) cs)) ≡ only x)
    × (Same (replayed x (tapes read (stopped (all_longer (all_longer v x ps) y others) cs) x)) (replayed x (tapes read v x))
    ⊎ Same (replayed x (tapes read (stopped (all_longer (all_longer v x ps) y others) cs) x)) (replayed x (tapes read v x ++ command_records new c u)))

-- 5. Compaction: tape y, begun with a head and the small state, gets copies of entries in any order, and the records of commands as tape x gets them. When no
-- entry of the directory in memory lies on x any more, y alone gives that directory, the same small state and the same lines.
pub data Compaction (x y g : ℕ) : Log → Log → List Position → List Packed → Small → Type 0 where
  begun :
      {X : Log} {ls : List Packed} {s : Small} → InCycle g → Settled x X → Alike (On X x) (replayed x X).dir ls → (replayed x X).small ≡ s → length s.ring ≤ 64 →
      Compaction x y g X (begin_records g (length ls) (set_up_of s)) (replayed x X).dir ls s
  carried :
      {X Y : Log} {D : List Position} {ls : List Packed} {s : Small} (i : ℕ) (l : Packed) → slice_index_or ls i l ≡ l → Compaction x y g X Y D ls s →
      Compaction x y g X (Y ++ copy_records i l) (slice_set D i (position y (length Y))) ls s
  commanded :
      {X Y : Log} {D : List Position} {ls : List Packed} {s : Small} (new : List Packed) (c : Splice) (u : News) → Compaction x y g X Y D ls s →
      Compaction x y g (X ++ command_records new c u) (Y ++ command_records new c u) (apply c D (positions y (length Y) new)) (apply c ls new) (updated u s)

pub record TakenOver (y g : ℕ) (Y : Log) (D : List Position) (ls : List Packed) (s : Small) : Type 0 where
  pub gives : replayed y Y ≡ state D [] s
  pub lines : Alike (On Y y) D ls
  pub all_intact : Intact Y
  pub generation_is : generation Y ≡ g

unfoldable pub CompactionKeepsLines : Type 0
CompactionKeepsLines =
    (x y g : ℕ) (X Y : Log) (D : List Position) (ls : List Packed) (s : Small) → Compaction x y g X Y D ls s →
    -- meanwhile the old tape is as good as alone
    (Settled x X × Alike (On X x) (replayed x X).dir ls × ((replayed x X).small ≡ s))
    × (((i : ℕ) → i < length D → (get_or D i hole).tape ≢ x) → TakenOver y g Y D ls s)

-- 6. Neither tape gets full: while entries are carried, a command of size s that puts on so many records finds room for them on both tapes, and for all that is
-- still to be carried; the bounds hold again after it; and when all has been carried, the new tape is below the bound at which the next compaction begins.
unfoldable pub NoFullTape : Type 0
NoFullTape =
    (R T m n VY S J V : ℕ) → Rooms R T → VY ≤ V →
    -- it begins
    (m ≤ T → n ≤ 130 → J ≤ V → 64 * V ≤ 32 * R → Carrying R T m n 0 0 J)
    × (Carrying R T m n VY S J →
    ((s put : ℕ) → 64 * (V + put) ≤ 32 * R → 16 * s ≤ J → put + 1 ≤ 3 * s → (m + (put + 1) < R) × (n + (V - VY) + (put + 1) < R))
    × ((s put more went VY₁ J₁ : ℕ) → J₁ + 16 * s ≤ J → put + 1 ≤ 3 * s → went + 1 ≤ 3 * s → VY + more + put ≤ VY₁ + went →
    Carrying R T (m + (put + 1)) (n + more + (put + 1)) VY₁ (S + s) J₁)
    × ((put : ℕ) → VY ≡ V → 64 * (V + put) ≤ 32 * R → n + (put + 1) ≤ T))

-- 7. A command stays within the records granted for its range, the lines given and the rows shown: beginning the other tape, carrying 16 entries for each unit of
-- its size, at 3 records read and 3 put on, reading the lines of the range, and its own records on both tapes.
unfoldable pub WithinGrant : Type 0
WithinGrant =
    (range given shown begun-by carried-by fetched put : ℕ) → begun-by ≤ 130 → carried-by ≤ 6 * (16 * (1 + range + given)) → fetched ≤ 3 * range →
    put ≤ 6 * (1 + range + given) → begun-by + carried-by + fetched + put ≤ 256 + 256 * (range + given + shown)
