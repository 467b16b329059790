-- The walk over lines of the text, and what is looked at before anything is put on. Assumes nothing: these are definitions.
use Rattle.std.specs.Prelude.{ℕ, suc, ◌+◌, ◌-◌, Bool, true, false, ◌&&◌, List, ◌++◌, length, ◌==◌, nat_le, nat_lt}
use Rattle.plain.specs.Pattern.{pick, eight}
use Rattle.plain.specs.Device.{Page}
use Rattle.plain.specs.Run.{read, shows}
use Rattle.journal.specs.Log.{Piece}
use Rattle.commands.specs.Code.{walk_as}
use Rattle.journal.specs.Values.{source_of}
use Rattle.commands.specs.declared.plan.Walk.{Walk}
use Rattle.commands.specs.declared.plan.Walk.TheVariants.{Skip, Show, ShowNumbered, Measure, Join}
use Rattle.engine.specs.Packing.{records_of, lines_records}
use Rattle.engine.specs.Machine as machine
use Rattle.engine.specs.Machine.{threshold, quota_by, walks}
use Rattle.memory.specs.declared.phase.Phase.TheVariants.{Fetching, RowShown}
use Rattle.memory.specs.declared.job.Lines.TheVariants.{Joined}
use Rattle.memory.specs.declared.directory.Position.{Position}
use Rattle.memory.specs.declared.registers.Registers.{Registers}
use Rattle.memory.specs.Abstract.{small_of, text_of, job_lines, house_of}
use Rattle.memory.specs.Sections.{entry_at, extended}
use Rattle.commits.specs.Acts.{Made, made}
use Rattle.commits.specs.Setters.{job, walking, carrying, in_phase, with_job, with_walking, with_carrying}
use Rattle.commits.specs.Rows.{refuses}
use Rattle.commits.specs.Putting.{start_pass}
use Rattle.compaction.specs.Carry.{carry, begin_other, piece_of_page}

-- BEFORE ANYTHING IS PUT ON
abbrev pub need : Registers → List ℕ → ℕ
need r m = suc (lines_records (job_lines r.job.lines (text_of r.job.text m)))

abbrev pub job_size : Registers → ℕ
job_size r = suc ((r.job.plan.span.upto - r.job.plan.span.after) + r.job.plan.came)

abbrev pub quota_of : Registers → ℕ
quota_of r = quota_by (source_of r.job.plan.splice.source) (job_size r)

abbrev pub with_quota : ℕ → Bool → Registers → Registers
with_quota q w r = with_carrying (carrying 0 0 0 0 q w) r

unfoldable pub prepare : Registers → List ℕ → Made
prepare r m =
    pick r.tapes.busy (carry (with_quota (quota_of r) false r) m)
    (pick (nat_lt (threshold r.tapes.room) (r.tapes.used + need r m)) (begin_other (quota_of r) false r m) (start_pass false r m))

unfoldable pub weigh : Registers → List ℕ → Made
weigh r m = pick (machine.no_room (house_of r m)) (refuses 8 r m) (prepare r m)

-- THE WALK
abbrev pub line_entry : Registers → List ℕ → Position
line_entry r m = entry_at r.kept.entries (machine.text_at (small_of r.kept m) + r.walking.line) m

unfoldable pub fetch : Registers → List ℕ → Made
fetch r m = made (in_phase Fetching r) m (read (line_entry r m).tape ((line_entry r m).at + r.walking.part))

-- the lines that are put on after it
abbrev pub lines_then : Walk → Registers → Registers
lines_then Skip r = r
lines_then Show r = r
lines_then ShowNumbered r = r
lines_then Measure r = r
lines_then Join r = with_job (job r.job.plan r.job.name r.job.size Joined r.walking.bytes) r

unfoldable pub walk_on : Registers → List ℕ → Made
walk_on r m =
    pick (walks (walk_as r.job.plan.walk) && nat_lt r.walking.line r.job.plan.span.upto) (fetch r m) (weigh (lines_then r.job.plan.walk r) m)

-- past a line that has so many bytes
abbrev pub line_past : ℕ → ℕ → Registers → Registers
line_past n bytes r = with_walking (walking (suc r.walking.line) 0 (r.walking.went + (64 + n)) bytes) r

-- bytes of a record behind those of the records before it
abbrev pub bytes_then : Piece → Registers → ℕ
bytes_then b r = pick (nat_le (r.walking.bytes + length b.bytes) 65536) (r.walking.bytes + length b.bytes) r.walking.bytes

abbrev pub joined_memory : Piece → Registers → List ℕ → List ℕ
joined_memory b r m = extended r.walking.bytes b.bytes m

abbrev pub next_part : Piece → Registers → Registers
next_part b r = with_walking (walking r.walking.line (suc r.walking.part) r.walking.went (bytes_then b r)) r

abbrev pub more_parts : Piece → Registers → Bool
more_parts b r = nat_lt (suc r.walking.part) (records_of b.long)

abbrev pub row_of : Bool → Piece → Registers → List ℕ → List ℕ
row_of numbered b r m = pick numbered (eight (suc r.walking.line) ++ (text_of r.walking.bytes m ++ b.bytes)) (text_of r.walking.bytes m ++ b.bytes)

unfoldable pub show_piece : Bool → Piece → Registers → List ℕ → Made
show_piece numbered b r m =
    pick (more_parts b r) (fetch (next_part b r) (joined_memory b r m)) (made (in_phase RowShown (line_past b.long 0 r)) m (shows (row_of numbered b r m)))

abbrev pub too_long : Piece → Registers → Bool
too_long b r = r.walking.part == 0 && nat_lt 1024 (r.walking.bytes + b.long)

unfoldable pub glue_piece : Piece → Registers → List ℕ → Made
glue_piece b r m =
    pick (too_long b r) (refuses 7 r m)
    (pick (more_parts b r) (fetch (next_part b r) (joined_memory b r m)) (walk_on (line_past b.long (bytes_then b r) r) (joined_memory b r m)))

abbrev pub fetched_by : Walk → Piece → Registers → List ℕ → Made
fetched_by Skip b r m = refuses 999 r m
fetched_by Show b r m = show_piece false b r m
fetched_by ShowNumbered b r m = show_piece true b r m
fetched_by Measure b r m = walk_on (line_past b.long 0 r) m
fetched_by Join b r m = glue_piece b r m

-- a record of a line was read
unfoldable pub fetched : Page → Registers → List ℕ → Made
fetched p r m = fetched_by r.job.plan.walk (piece_of_page p) r m
