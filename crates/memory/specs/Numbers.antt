-- Enums as numbers. Assumes nothing: these are definitions.
use Rattle.std.specs.Prelude.{ℕ, ◌%◌, Bool, List, [], ◌∷◌, ◌==◌, slice_index_or}
use Rattle.plain.specs.Pattern.{pick}
use Rattle.commands.specs.declared.plan.Walk.{Walk}
use Rattle.commands.specs.declared.plan.Walk.TheVariants as walk
use Rattle.commands.specs.declared.plan.Update.{Update}
use Rattle.commands.specs.declared.plan.Update.TheVariants as update
use Rattle.commands.specs.declared.plan.Rows.{Rows}
use Rattle.commands.specs.declared.plan.Rows.TheVariants as rows
use Rattle.journal.specs.declared.commit.Source.{Source}
use Rattle.journal.specs.declared.commit.Source.TheVariants as source
use Rattle.memory.specs.declared.phase.Phase.{Phase}
use Rattle.memory.specs.declared.phase.Phase.TheVariants.{Idle, WakeFirst, WakeSecond, Replaying, FreshBegun, FreshHead, FreshFast, CompactBegun, SettingUp, CarryRead, CarryPut, CompactFast, Switched, Fetching, RowShown, LinePut, CommitPut, CommitFast, CountShown, FileShown}
use Rattle.memory.specs.declared.job.Lines.{Lines}
use Rattle.memory.specs.declared.job.Lines.TheVariants as lines

-- a register holds 32 bits
abbrev pub capped : ℕ → ℕ
capped n = n % 4294967296

abbrev pub flag : Bool → ℕ
flag b = pick b 1 0

-- PHASES
abbrev pub phases : List Phase
phases = Idle ∷ WakeFirst ∷ WakeSecond ∷ Replaying ∷ FreshBegun ∷ FreshHead ∷ FreshFast ∷ CompactBegun ∷ SettingUp ∷ CarryRead ∷ CarryPut ∷ CompactFast ∷ Switched ∷ Fetching ∷ RowShown ∷ LinePut ∷ CommitPut ∷ CommitFast ∷ CountShown ∷ FileShown ∷ []

-- of other numbers, idle
unfoldable pub phase_of : ℕ → Phase
phase_of n = slice_index_or phases n Idle

abbrev pub phase_number : Phase → ℕ
phase_number Idle = 0
phase_number WakeFirst = 1
phase_number WakeSecond = 2
phase_number Replaying = 3
phase_number FreshBegun = 4
phase_number FreshHead = 5
phase_number FreshFast = 6
phase_number CompactBegun = 7
phase_number SettingUp = 8
phase_number CarryRead = 9
phase_number CarryPut = 10
phase_number CompactFast = 11
phase_number Switched = 12
phase_number Fetching = 13
phase_number RowShown = 14
phase_number LinePut = 15
phase_number CommitPut = 16
phase_number CommitFast = 17
phase_number CountShown = 18
phase_number FileShown = 19

-- PARTS OF A PLAN, with the numbers of a variant behind its kind
abbrev pub walk_of : ℕ → Walk
walk_of n = pick (n == 1) walk.Show (pick (n == 2) walk.ShowNumbered (pick (n == 3) walk.Measure (pick (n == 4) walk.Join walk.Skip)))

abbrev pub walk_number : Walk → ℕ
walk_number walk.Skip = 0
walk_number walk.Show = 1
walk_number walk.ShowNumbered = 2
walk_number walk.Measure = 3
walk_number walk.Join = 4

abbrev pub update_of : ℕ → ℕ → Update
update_of kind n = pick (kind == 1) update.Current (pick (kind == 2) update.Text (pick (kind == 3) (update.File (capped n)) update.Nothing))

abbrev pub update_kind : Update → ℕ
update_kind update.Nothing = 0
update_kind update.Current = 1
update_kind update.Text = 2
update_kind (update.File n) = 3

abbrev pub update_place : Update → ℕ
update_place update.Nothing = 0
update_place update.Current = 0
update_place update.Text = 0
update_place (update.File n) = capped n

abbrev pub rows_of : ℕ → ℕ → Rows
rows_of kind n = pick (kind == 1) (rows.Number (capped n)) (pick (kind == 2) rows.Files rows.Nothing)

abbrev pub rows_kind : Rows → ℕ
rows_kind rows.Nothing = 0
rows_kind (rows.Number n) = 1
rows_kind rows.Files = 2

abbrev pub rows_value : Rows → ℕ
rows_value rows.Nothing = 0
rows_value (rows.Number n) = capped n
rows_value rows.Files = 0

abbrev pub source_by : ℕ → ℕ → ℕ → Source ℕ
source_by kind a b = pick (kind == 1) source.New (pick (kind == 2) (source.Copied (capped a) (capped b)) source.Nothing)

abbrev pub source_kind : Source ℕ → ℕ
source_kind source.Nothing = 0
source_kind source.New = 1
source_kind (source.Copied a b) = 2

abbrev pub source_from : Source ℕ → ℕ
source_from source.Nothing = 0
source_from source.New = 0
source_from (source.Copied a b) = capped a

abbrev pub source_to : Source ℕ → ℕ
source_to source.Nothing = 0
source_to source.New = 0
source_to (source.Copied a b) = capped b

-- WHAT OF THE TEXT IS PUT ON
abbrev pub lines_of : ℕ → Lines
lines_of n = pick (n == 1) lines.Given (pick (n == 2) lines.Joined lines.Nothing)

abbrev pub lines_number : Lines → ℕ
lines_number lines.Nothing = 0
lines_number lines.Given = 1
lines_number lines.Joined = 2
