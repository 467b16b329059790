-- What the machine's memory has to be large enough for. Assumes nothing: these are definitions.
use Rattle.std.specs.Prelude.{◌≡◌, ℕ, ◌+◌, ◌<◌, ◌≤◌, Bool, true, ◌&&◌, ltb, List, [], ◌∷◌, length, nat_le, nat_lt}
use Rattle.plain.specs.Pattern.{every, all_bytes}
use Rattle.journal.specs.Log.{Position, Source, no_entries, new_entries, copied, Splice, Rec, head, line, copy, commit, broken, Piece, State}
use Rattle.journal.specs.Small.{Entry, Small, Also, nothing_else, push, slot, News}
use Rattle.records.specs.Lines.{share}
use Rattle.records.specs.Pages.{beside}
use Rattle.commands.specs.Plan.{Plan, Update, same_as_before, current_only, the_text, the_file, Rows, no_row, a_number, all_files}
use Rattle.engine.specs.State.{Tapes, Job, Walking, Putting, Carrying, House}

-- a number of 32 bits
abbrev pub Word : ℕ → Type 0
Word n = n < 4294967296

abbrev pub words : List ℕ → Bool
words ns = every (λ n. ltb n 4294967296) ns

abbrev pub entry_fits : Entry → Bool
entry_fits e = (nat_le (length e.name) 64 && all_bytes e.name) && (nat_lt e.lines 4294967296 && nat_lt e.size 4294967296)

pub record SmallFits (s : Small) : Type 0 where
  pub count : Word s.count
  pub current : Word s.current
  pub weight : Word s.weight
  pub ring_few : length s.ring ≤ 64
  pub ring : words s.ring ≡ true
  pub files_few : length s.files ≤ 64
  pub files : every entry_fits s.files ≡ true

-- of every state that replaying comes upon: so many entries, so many pending, and the small state
pub record ReplayFits (entries pending : ℕ) (s : Small) : Type 0 where
  pub entries_few : entries ≤ 524288
  pub pending_few : pending ≤ 65536
  pub small : SmallFits s

-- WHAT A RECORD CAN HOLD
abbrev pub SourceFits : Source → Type 0
SourceFits no_entries = Unit {0}
SourceFits new_entries = Unit {0}
SourceFits (copied a b) = Word a × Word b

pub record SpliceFits (c : Splice) : Type 0 where
  pub from : Word c.from
  pub gone : Word c.gone
  pub source : SourceFits c.source
  pub beside : beside c ≡ true

abbrev pub AlsoFits : Also → Type 0
AlsoFits nothing_else = Unit {0}
AlsoFits (push n) = Word n
AlsoFits (slot i e) = Word i × (entry_fits e ≡ true)

pub record NewsFits (u : News) : Type 0 where
  pub count : Word u.count
  pub current : Word u.current
  pub weight : Word u.weight
  pub also : AlsoFits u.also

pub record PieceFits (j : ℕ) (b : Piece) : Type 0 where
  pub long : b.long ≤ 1024
  pub here : length b.bytes ≡ share b.long j
  pub bytes : all_bytes b.bytes ≡ true

abbrev pub RecordFits : Rec News → Type 0
RecordFits (head g n) = (1 ≤ g) × (g ≤ 3) × Word n
RecordFits (line j b) = (j ≤ 2) × PieceFits j b
RecordFits (copy i j b) = Word i × (j ≤ 2) × PieceFits j b
RecordFits (commit c u) = SpliceFits c × NewsFits u
RecordFits broken = ⊥

-- WHAT THE MEMORY CAN HOLD
pub record PositionFits (p : Position) : Type 0 where
  pub tape : p.tape < 2
  pub at : p.at < 1048576

pub data PositionsFit : List Position → Type 0 where
  none : PositionsFit []
  more : {p : Position} {ps : List Position} → PositionFits p → PositionsFit ps → PositionsFit (p ∷ ps)

pub record StoreFits (s : State Small) : Type 0 where
  pub dir_few : length s.dir ≤ 524288
  pub pending_few : length s.pending ≤ 65536
  pub dir : PositionsFit s.dir
  pub pending : PositionsFit s.pending
  pub small : SmallFits s.small

pub record TapesFit (t : Tapes) : Type 0 where
  pub room : t.room ≤ 1048576
  pub active : t.active < 2
  pub generation : t.generation ≤ 3
  pub used : t.used ≤ 1048576
  pub other : t.other ≤ 1048576
  pub cursor : t.cursor ≤ 524288

abbrev pub UpdateFits : Update → Type 0
UpdateFits same_as_before = Unit {0}
UpdateFits current_only = Unit {0}
UpdateFits the_text = Unit {0}
UpdateFits (the_file i) = i ≤ 64

abbrev pub RowsFit : Rows → Type 0
RowsFit no_row = Unit {0}
RowsFit (a_number n) = Word n
RowsFit all_files = Unit {0}

pub record PlanFits (p : Plan) : Type 0 where
  pub after : Word p.after
  pub upto : Word p.upto
  pub update : UpdateFits p.update
  pub splice : SpliceFits p.splice
  pub came : p.came ≤ 1048576
  pub span : p.upto ≤ p.after + 1048576
  pub count : Word p.count
  pub current : Word p.current
  pub rows : RowsFit p.rows

pub record JobFits (j : Job) : Type 0 where
  pub plan : PlanFits j.plan
  pub name : length j.name ≤ 64
  pub name_bytes : all_bytes j.name ≡ true
  pub size : Word j.size

pub record WalkingFits (w : Walking) : Type 0 where
  pub line : Word w.line
  pub part : w.part ≤ 2
  pub went : Word w.went
  pub bytes_few : length w.bytes ≤ 1024
  pub bytes : all_bytes w.bytes ≡ true

pub record PuttingFits (p : Putting) : Type 0 where
  pub part : p.part ≤ 2

pub record CarryingFits (c : Carrying) : Type 0 where
  pub index : Word c.index
  pub part : c.part ≤ 2
  pub long : c.long ≤ 1024
  pub start : c.start < 1048576
  pub quota : Word c.quota

pub record Fits (x : House) : Type 0 where
  pub tapes : TapesFit x.tapes
  pub store : StoreFits x.store
  pub job : JobFits x.job
  pub walking : WalkingFits x.walking
  pub putting : PuttingFits x.putting
  pub carrying : CarryingFits x.carrying
