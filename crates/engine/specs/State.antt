-- The state of the machine, as a record of named fields. Assumes nothing: these are definitions.
use Rattle.std.specs.Prelude.{ℕ, ◌-◌, Bool, false, List, []}
use Rattle.journal.specs.Log.{Position, State, state}
use Rattle.journal.specs.Small.{Small, no_state}
use Rattle.commands.specs.Plan.{Plan, sizes, say_plan, no_row}

-- what the last act was
pub data Phase : Type 0 where
  idle : Phase  -- a command ended
  wake_first : Phase  -- the first record of tape 0 was asked for
  wake_second : Phase  -- and of tape 1
  replaying : Phase  -- a record of the tape that counts was asked for
  fresh_begun : Phase  -- no tape counts: tape 0 was begun anew
  fresh_head : Phase  -- its head was put on
  fresh_fast : Phase  -- it was fastened
  compact_begun : Phase  -- the other tape was begun anew
  setting_up : Phase  -- its head, or a record of the small state, was put on
  carry_read : Phase  -- a record of an entry was asked for
  carry_put : Phase  -- and put on the other tape
  compact_fast : Phase  -- the other tape was fastened
  switched : Phase  -- the old tape was begun anew
  fetching : Phase  -- a record of a line was asked for
  row_shown : Phase  -- a line was shown
  line_put : Phase  -- a record of a new line was put on
  commit_put : Phase  -- the commit was put on
  commit_fast : Phase  -- the tape that counts was fastened
  count_shown : Phase  -- a number was shown
  file_shown : Phase  -- a row of the table of files was shown

-- the two tapes: which one counts, its generation, how many records are on it; whether entries are being carried to the other one, how many records that has,
-- and before which entry none is left to carry
pub record Tapes : Type 0 where
  pub room : ℕ
  pub active : ℕ
  pub generation : ℕ
  pub used : ℕ
  pub busy : Bool
  pub other : ℕ
  pub cursor : ℕ

-- what is done for a command: the plan, the name of a file and what its lines weigh, and the lines that are put on
pub record Job : Type 0 where
  pub plan : Plan
  pub name : List ℕ
  pub size : ℕ
  pub lines : List (List ℕ)

-- the walk over lines of the text: how many are before the next one, which of its records is asked for, what those walked over weigh, and bytes that are
-- shown or joined
pub record Walking : Type 0 where
  pub line : ℕ
  pub part : ℕ
  pub went : ℕ
  pub bytes : List ℕ

-- putting on what a command brings: on the tape that counts, or then on the other one; the lines that are left, and which record of the first is next
pub record Putting : Type 0 where
  pub second : Bool
  pub left : List (List ℕ)
  pub part : ℕ

-- carrying an entry: which one, its record, the length of its line, where its first record comes; how many may be carried; and whether this is a wake-up
pub record Carrying : Type 0 where
  pub index : ℕ
  pub part : ℕ
  pub long : ℕ
  pub start : ℕ
  pub quota : ℕ
  pub waking : Bool

pub record House : Type 0 where
  pub phase : Phase
  pub tapes : Tapes
  pub store : State Small
  pub job : Job
  pub walking : Walking
  pub putting : Putting
  pub carrying : Carrying

-- MAKING AND CHANGING
abbrev pub tapes_of : ℕ → ℕ → ℕ → ℕ → Bool → ℕ → ℕ → Tapes
tapes_of r t g u b o c = record { room = r; active = t; generation = g; used = u; busy = b; other = o; cursor = c }

abbrev pub walking_of : ℕ → ℕ → ℕ → List ℕ → Walking
walking_of l p w bs = record { line = l; part = p; went = w; bytes = bs }

abbrev pub putting_of : Bool → List (List ℕ) → ℕ → Putting
putting_of s ls p = record { second = s; left = ls; part = p }

abbrev pub carrying_of : ℕ → ℕ → ℕ → ℕ → ℕ → Bool → Carrying
carrying_of i p l s q w = record { index = i; part = p; long = l; start = s; quota = q; waking = w }

abbrev pub no_job : Job
no_job = record { plan = say_plan (sizes 0 0 0) no_row; name = []; size = 0; lines = [] }

abbrev pub house : Phase → Tapes → State Small → Job → Walking → Putting → Carrying → House
house ph t s j w p c = record { phase = ph; tapes = t; store = s; job = j; walking = w; putting = p; carrying = c }

abbrev pub starting : ℕ → House
starting room = house idle (tapes_of room 0 0 0 false 0 0) (state [] [] no_state) no_job (walking_of 0 0 0 []) (putting_of false [] 0) (carrying_of 0 0 0 0 0 false)

abbrev pub at_phase : Phase → House → House
at_phase ph x = house ph x.tapes x.store x.job x.walking x.putting x.carrying

abbrev pub with_tapes : Tapes → House → House
with_tapes t x = house x.phase t x.store x.job x.walking x.putting x.carrying

abbrev pub with_store : State Small → House → House
with_store s x = house x.phase x.tapes s x.job x.walking x.putting x.carrying

abbrev pub with_job : Job → House → House
with_job j x = house x.phase x.tapes x.store j x.walking x.putting x.carrying

abbrev pub with_walking : Walking → House → House
with_walking w x = house x.phase x.tapes x.store x.job w x.putting x.carrying

abbrev pub with_putting : Putting → House → House
with_putting p x = house x.phase x.tapes x.store x.job x.walking p x.carrying

abbrev pub with_carrying : Carrying → House → House
with_carrying c x = house x.phase x.tapes x.store x.job x.walking x.putting c

-- fields of the parts
abbrev pub with_used : ℕ → Tapes → Tapes
with_used n t = tapes_of t.room t.active t.generation n t.busy t.other t.cursor

abbrev pub with_other : ℕ → Tapes → Tapes
with_other n t = tapes_of t.room t.active t.generation t.used t.busy n t.cursor

abbrev pub with_cursor : ℕ → Tapes → Tapes
with_cursor n t = tapes_of t.room t.active t.generation t.used t.busy t.other n

abbrev pub with_pending : List Position → State Small → State Small
with_pending ps s = state s.dir ps s.small

abbrev pub with_dir : List Position → State Small → State Small
with_dir D s = state D s.pending s.small

abbrev pub with_lines : List (List ℕ) → Job → Job
with_lines ls j = record { plan = j.plan; name = j.name; size = j.size; lines = ls }

-- the other tape
abbrev pub passive : House → ℕ
passive x = 1 - x.tapes.active
