-- What registers and memory stand for: the state of the machine. Assumes nothing: these are definitions.
use Rattle.std.specs.Prelude.{ℕ, zero, suc, ◌+◌, ◌/◌, ◌%◌, Bool, true, false, List, [], ◌∷◌, map, length, take, drop, slice_index}
use Rattle.plain.specs.Pattern.{pick}
use Rattle.plain.specs.Command as command
use Rattle.journal.specs.Log.{Position, position, State, state}
use Rattle.journal.specs.Small.{Entry, entry, Small, small}
use Rattle.commands.specs.Code.{plan_as}
use Rattle.lines.specs.Slots.{slots}
use Rattle.engine.specs.State as engine
use Rattle.engine.specs.State.{House, house, tapes_of, walking_of, putting_of, carrying_of}
use Rattle.memory.specs.declared.phase.Phase.{Phase}
use Rattle.memory.specs.declared.phase.Phase.TheVariants.{Idle, WakeFirst, WakeSecond, Replaying, FreshBegun, FreshHead, FreshFast, CompactBegun, SettingUp, CarryRead, CarryPut, CompactFast, Switched, Fetching, RowShown, LinePut, CommitPut, CommitFast, CountShown, FileShown}
use Rattle.memory.specs.declared.job.Lines.{Lines}
use Rattle.memory.specs.declared.job.Lines.TheVariants.{Nothing, Given, Joined}
use Rattle.memory.specs.declared.tapes.Tapes.{Tapes}
use Rattle.memory.specs.declared.kept.Kept.{Kept}
use Rattle.memory.specs.declared.job.Job.{Job}
use Rattle.memory.specs.declared.walking.Walking.{Walking}
use Rattle.memory.specs.declared.walking.Putting.{Putting}
use Rattle.memory.specs.declared.carrying.Carrying.{Carrying}
use Rattle.memory.specs.declared.registers.Registers.{Registers}
use Rattle.memory.specs.declared.small.File.{File}
use Rattle.memory.specs.Numbers.{capped}
use Rattle.memory.specs.Sections.{ring_in, files_in, name_in, cells_in, words_in, low, high, newline}

abbrev pub phase_as : Phase → engine.Phase
phase_as Idle = engine.idle
phase_as WakeFirst = engine.wake_first
phase_as WakeSecond = engine.wake_second
phase_as Replaying = engine.replaying
phase_as FreshBegun = engine.fresh_begun
phase_as FreshHead = engine.fresh_head
phase_as FreshFast = engine.fresh_fast
phase_as CompactBegun = engine.compact_begun
phase_as SettingUp = engine.setting_up
phase_as CarryRead = engine.carry_read
phase_as CarryPut = engine.carry_put
phase_as CompactFast = engine.compact_fast
phase_as Switched = engine.switched
phase_as Fetching = engine.fetching
phase_as RowShown = engine.row_shown
phase_as LinePut = engine.line_put
phase_as CommitPut = engine.commit_put
phase_as CommitFast = engine.commit_fast
phase_as CountShown = engine.count_shown
phase_as FileShown = engine.file_shown

abbrev pub tapes_as : Tapes → engine.Tapes
tapes_as t = tapes_of t.room t.active t.generation t.used t.busy t.other t.cursor

abbrev pub carrying_as : Carrying → engine.Carrying
carrying_as c = carrying_of c.index c.part c.long c.start c.quota c.waking

-- POSITIONS: the tape above 20 bits of the record
abbrev pub position_of : ℕ → Position
position_of n = position (n / 1048576) (n % 1048576)

abbrev pub pending_at : ℕ → Position
pending_at c = position_of (high c)

unfoldable pub dir_of : ℕ → List ℕ → List Position
dir_of n m = map position_of (take n (slots (words_in m)))

unfoldable pub pending_of : ℕ → List ℕ → List Position
pending_of n m = map pending_at (take n (cells_in m))

-- THE SMALL STATE
unfoldable pub ring_of : ℕ → List ℕ → List ℕ
ring_of n m = map capped (take n (ring_in m))

-- the 67 numbers of a file
abbrev pub file_at : List ℕ → Entry
file_at s = entry (map low (take (slice_index s 0 % 65) (drop 3 s))) (capped (slice_index s 1)) (capped (slice_index s 2))

abbrev pub file_head : List ℕ → File
file_head s = record { name = slice_index s 0 % 65; lines = capped (slice_index s 1); size = capped (slice_index s 2) }

unfoldable pub files_at : ℕ → List ℕ → List Entry
files_at zero s = []
files_at (suc n) s = file_at (take 67 s) ∷ files_at n (drop 67 s)

abbrev pub files_of : ℕ → List ℕ → List Entry
files_of n m = files_at n (files_in m)

abbrev pub small_of : Kept → List ℕ → Small
small_of k m = small k.count k.current k.weight (ring_of k.ring m) (files_of k.files m)

abbrev pub store_of : Kept → List ℕ → State Small
store_of k m = state (dir_of k.entries m) (pending_of k.pending m) (small_of k m)

-- TEXT
unfoldable pub text_of : ℕ → List ℕ → List ℕ
text_of n m = map low (take n (cells_in m))

unfoldable pub name_of : ℕ → List ℕ → List ℕ
name_of n m = map low (take n (name_in m))

abbrev pub job_lines : Lines → List ℕ → List (List ℕ)
job_lines Nothing t = []
job_lines Given t = command.lines_of [] t
job_lines Joined t = t ∷ []

abbrev pub some_lines : Lines → Bool
some_lines Nothing = false
some_lines Given = true
some_lines Joined = true

-- the lines that are left of a text
abbrev pub lines_left : Lines → List ℕ → List (List ℕ)
lines_left Nothing t = t ∷ []
lines_left Given t = command.lines_of [] t
lines_left Joined t = t ∷ []

abbrev pub left_of : Bool → Lines → List ℕ → List (List ℕ)
left_of more ls t = pick more (lines_left ls t) []

-- where the first of them ends
abbrev pub line_end : Lines → ℕ → List ℕ → ℕ
line_end Nothing at t = at + length (drop at t)
line_end Given at t = newline at (drop at t)
line_end Joined at t = at + length (drop at t)

abbrev pub job_of : Job → List ℕ → engine.Job
job_of j m = record { plan = plan_as j.plan; name = name_of j.name m; size = j.size; lines = job_lines j.lines (text_of j.text m) }

abbrev pub walking_as : Walking → List ℕ → engine.Walking
walking_as w m = walking_of w.line w.part w.went (text_of w.bytes m)

abbrev pub putting_as : Putting → Job → List ℕ → engine.Putting
putting_as p j m = putting_of p.second (left_of p.more j.lines (drop p.at (text_of j.text m))) p.part

-- THE HOUSE
unfoldable pub house_of : Registers → List ℕ → House
house_of r m =
    house (phase_as r.phase) (tapes_as r.tapes) (store_of r.kept m) (job_of r.job m) (walking_as r.walking m) (putting_as r.putting r.job m)
    (carrying_as r.carrying)
