-- The registers at the front of the memory: how each part is loaded and stored, and which of them can be. Assumes nothing: these are definitions.
use Rattle.std.specs.Prelude.{ℕ, ◌%◌, ◌<◌, ◌≤◌, List, [], ◌∷◌, ◌++◌, take, drop, ◌==◌, slice_index}
use Rattle.commands.specs.declared.plan.Plan.{Plan}
use Rattle.commands.specs.declared.plan.Update.{Update}
use Rattle.commands.specs.declared.plan.Update.TheVariants as update
use Rattle.commands.specs.declared.plan.Rows.{Rows}
use Rattle.commands.specs.declared.plan.Rows.TheVariants as rows
use Rattle.journal.specs.declared.commit.Source.{Source}
use Rattle.journal.specs.declared.commit.Source.TheVariants as source
use Rattle.memory.specs.declared.tapes.Tapes.{Tapes}
use Rattle.memory.specs.declared.kept.Kept.{Kept}
use Rattle.memory.specs.declared.job.Job.{Job}
use Rattle.memory.specs.declared.walking.Walking.{Walking}
use Rattle.memory.specs.declared.walking.Putting.{Putting}
use Rattle.memory.specs.declared.carrying.Carrying.{Carrying}
use Rattle.memory.specs.declared.registers.Registers.{Registers}
use Rattle.memory.specs.Numbers.{capped, flag, phase_of, phase_number, walk_of, walk_number, update_of, update_kind, update_place, rows_of, rows_kind, rows_value, source_by, source_kind, source_from, source_to, lines_of, lines_number}

-- a part of a list, and the list with another in its place
abbrev pub part : ℕ → ℕ → List ℕ → List ℕ
part a k m = take k (drop a m)

abbrev pub with_part : ℕ → ℕ → List ℕ → List ℕ → List ℕ
with_part a k m ys = take a m ++ (ys ++ drop k (drop a m))

-- LOADING, from the section of each part; lengths of sections are within these
abbrev pub tapes_in : List ℕ → Tapes
tapes_in s =
    record {
      room = capped (slice_index s 0);
      active = slice_index s 1 % 2;
      generation = capped (slice_index s 2);
      used = capped (slice_index s 3);
      busy = (slice_index s 4 == 1);
      other = capped (slice_index s 5);
      cursor = capped (slice_index s 6);
    }

abbrev pub kept_in : List ℕ → Kept
kept_in s =
    record {
      entries = slice_index s 0 % 524290;
      pending = slice_index s 1 % 65537;
      count = capped (slice_index s 2);
      current = capped (slice_index s 3);
      weight = capped (slice_index s 4);
      ring = slice_index s 5 % 65;
      files = slice_index s 6 % 65;
    }

abbrev pub plan_in : List ℕ → Plan
plan_in s =
    record {
      walk = walk_of (slice_index s 0);
      span = record { after = capped (slice_index s 1); upto = capped (slice_index s 2) };
      update = update_of (slice_index s 3) (slice_index s 4);
      splice = record { from = capped (slice_index s 5); gone = capped (slice_index s 6); source = source_by (slice_index s 7) (slice_index s 8) (slice_index s 9) };
      came = capped (slice_index s 10);
      count = capped (slice_index s 11);
      current = capped (slice_index s 12);
      rows = rows_of (slice_index s 13) (slice_index s 14);
    }

abbrev pub job_in : List ℕ → Job
job_in s =
    record { plan = plan_in (part 4 15 s); name = slice_index s 0 % 65; size = capped (slice_index s 1); lines = lines_of (slice_index s 2); text = slice_index s 3 % 65537 }

abbrev pub walking_in : List ℕ → Walking
walking_in s = record { line = capped (slice_index s 0); part = capped (slice_index s 1); went = capped (slice_index s 2); bytes = slice_index s 3 % 65537 }

abbrev pub putting_in : List ℕ → Putting
putting_in s = record { second = (slice_index s 0 == 1); more = (slice_index s 1 == 1); at = slice_index s 2 % 65537; part = capped (slice_index s 3) }

abbrev pub carrying_in : List ℕ → Carrying
carrying_in s =
    record {
      index = capped (slice_index s 0);
      part = capped (slice_index s 1);
      long = capped (slice_index s 2);
      start = capped (slice_index s 3);
      quota = capped (slice_index s 4);
      waking = (slice_index s 5 == 1);
    }

unfoldable pub loaded : List ℕ → Registers
loaded m =
    record {
      phase = phase_of (slice_index m 0);
      tapes = tapes_in (part 1 7 m);
      kept = kept_in (part 8 7 m);
      job = job_in (part 15 19 m);
      walking = walking_in (part 34 4 m);
      putting = putting_in (part 38 4 m);
      carrying = carrying_in (part 42 6 m);
    }

-- STORING
abbrev pub tapes_numbers : Tapes → List ℕ
tapes_numbers t =
    capped t.room ∷ capped t.active ∷ capped t.generation ∷ capped t.used ∷ flag t.busy ∷ capped t.other ∷ capped t.cursor ∷ []

abbrev pub kept_numbers : Kept → List ℕ
kept_numbers k =
    capped k.entries ∷ capped k.pending ∷ capped k.count ∷ capped k.current ∷ capped k.weight ∷ capped k.ring ∷ capped k.files ∷ []

abbrev pub plan_numbers : Plan → List ℕ
plan_numbers p =
    walk_number p.walk ∷ capped p.span.after ∷ capped p.span.upto ∷ update_kind p.update ∷ update_place p.update
    ∷ capped p.splice.from ∷ capped p.splice.gone ∷ source_kind p.splice.source ∷ source_from p.splice.source ∷ source_to p.splice.source
    ∷ capped p.came ∷ capped p.count ∷ capped p.current ∷ rows_kind p.rows ∷ rows_value p.rows ∷ []

abbrev pub job_numbers : Job → List ℕ
job_numbers j = capped j.name ∷ capped j.size ∷ lines_number j.lines ∷ capped j.text ∷ plan_numbers j.plan

abbrev pub walking_numbers : Walking → List ℕ
walking_numbers w = capped w.line ∷ capped w.part ∷ capped w.went ∷ capped w.bytes ∷ []

abbrev pub putting_numbers : Putting → List ℕ
putting_numbers p = flag p.second ∷ flag p.more ∷ capped p.at ∷ capped p.part ∷ []

abbrev pub carrying_numbers : Carrying → List ℕ
carrying_numbers c = capped c.index ∷ capped c.part ∷ capped c.long ∷ capped c.start ∷ capped c.quota ∷ flag c.waking ∷ []

abbrev pub numbers : Registers → List ℕ
numbers r =
    phase_number r.phase ∷ (tapes_numbers r.tapes ++ (kept_numbers r.kept ++ (job_numbers r.job
    ++ (walking_numbers r.walking ++ (putting_numbers r.putting ++ carrying_numbers r.carrying)))))

-- what is behind them stays
unfoldable pub stored : Registers → List ℕ → List ℕ
stored r m = numbers r ++ drop 48 m

-- REGISTERS AS THEY ARE LOADED
abbrev pub Word : ℕ → Type 0
Word n = n < 4294967296

pub record TameTapes (t : Tapes) : Type 0 where
  pub room : Word t.room
  pub active : t.active < 2
  pub generation : Word t.generation
  pub used : Word t.used
  pub other : Word t.other
  pub cursor : Word t.cursor

pub record TameKept (k : Kept) : Type 0 where
  pub entries : k.entries ≤ 524289
  pub pending : k.pending ≤ 65536
  pub count : Word k.count
  pub current : Word k.current
  pub weight : Word k.weight
  pub ring : k.ring ≤ 64
  pub files : k.files ≤ 64

abbrev pub TameUpdate : Update → Type 0
TameUpdate update.Nothing = Unit {0}
TameUpdate update.Current = Unit {0}
TameUpdate update.Text = Unit {0}
TameUpdate (update.File n) = Word n

abbrev pub TameRows : Rows → Type 0
TameRows rows.Nothing = Unit {0}
TameRows (rows.Number n) = Word n
TameRows rows.Files = Unit {0}

abbrev pub TameSource : Source ℕ → Type 0
TameSource source.Nothing = Unit {0}
TameSource source.New = Unit {0}
TameSource (source.Copied a b) = Word a × Word b

pub record TamePlan (p : Plan) : Type 0 where
  pub after : Word p.span.after
  pub upto : Word p.span.upto
  pub update : TameUpdate p.update
  pub from : Word p.splice.from
  pub gone : Word p.splice.gone
  pub source : TameSource p.splice.source
  pub came : Word p.came
  pub count : Word p.count
  pub current : Word p.current
  pub rows : TameRows p.rows

pub record TameJob (j : Job) : Type 0 where
  pub plan : TamePlan j.plan
  pub name : j.name ≤ 64
  pub size : Word j.size
  pub text : j.text ≤ 65536

pub record TameWalking (w : Walking) : Type 0 where
  pub line : Word w.line
  pub part : Word w.part
  pub went : Word w.went
  pub bytes : w.bytes ≤ 65536

pub record TamePutting (p : Putting) : Type 0 where
  pub at : p.at ≤ 65536
  pub part : Word p.part

pub record TameCarrying (c : Carrying) : Type 0 where
  pub index : Word c.index
  pub part : Word c.part
  pub long : Word c.long
  pub start : Word c.start
  pub quota : Word c.quota

pub record Tame (r : Registers) : Type 0 where
  pub tapes : TameTapes r.tapes
  pub kept : TameKept r.kept
  pub job : TameJob r.job
  pub walking : TameWalking r.walking
  pub putting : TamePutting r.putting
  pub carrying : TameCarrying r.carrying
