-- Power comes: the tape that counts is replayed; or there is none, and one begins. Assumes nothing: these are definitions.
use Rattle.std.specs.Prelude.{ℕ, zero, suc, true, false, List, ◌==◌}
use Rattle.plain.specs.Pattern.{pick}
use Rattle.plain.specs.Device.{Page, lesser}
use Rattle.plain.specs.Run.{read, put_on, fasten, begin}
use Rattle.journal.specs.Log.{Rec, head, line, copy, commit, broken, Which, neither, only, choose, head_of}
use Rattle.journal.specs.Small.{News}
use Rattle.records.specs.Pages.{page_of}
use Rattle.records.specs.Checked.{checked_record_of}
use Rattle.commands.specs.declared.plan.Walk.TheVariants as walk
use Rattle.commands.specs.declared.plan.Update.TheVariants as update
use Rattle.commands.specs.declared.plan.Rows.TheVariants as rows
use Rattle.journal.specs.declared.commit.Source.TheVariants as source
use Rattle.commands.specs.declared.plan.Plan.{Plan}
use Rattle.engine.specs.Machine.{no_limit}
use Rattle.memory.specs.declared.phase.Phase.TheVariants.{WakeFirst, WakeSecond, Replaying, FreshBegun, FreshHead, FreshFast}
use Rattle.memory.specs.declared.job.Lines.TheVariants as lines
use Rattle.memory.specs.declared.directory.Position.{Position}
use Rattle.memory.specs.declared.kept.Kept.{Kept}
use Rattle.memory.specs.declared.tapes.Tapes.{Tapes}
use Rattle.memory.specs.declared.registers.Registers.{Registers}
use Rattle.memory.specs.Sections as sections
use Rattle.commits.specs.Acts.{Made, made}
use Rattle.commits.specs.Setters.{tapes, job, walking, putting, carrying, with_used, with_pending, with_entries, registers, in_phase, with_tapes, with_kept}
use Rattle.commits.specs.News.{kept_by, applied_by}
use Rattle.compaction.specs.Carry.{begin_other}

-- POWER
abbrev pub no_plan : Plan
no_plan =
    record {
      walk = walk.Skip;
      span = record { after = 0; upto = 0 };
      update = update.Nothing;
      splice = record { from = 0; gone = 0; source = source.Nothing };
      came = 0;
      count = 0;
      current = 0;
      rows = rows.Nothing;
    }

abbrev pub nothing_kept : Kept
nothing_kept = record { entries = 0; pending = 0; count = 0; current = 0; weight = 0; ring = 0; files = 0 }

abbrev pub starting : ℕ → Registers
starting room =
    registers WakeFirst (tapes room 0 0 0 false 0 0) nothing_kept (job no_plan 0 0 lines.Nothing 0) (walking 0 0 0 0) (putting false false 0 0) (carrying 0 0 0 0 0 false)

unfoldable pub wake : ℕ → List ℕ → Made
wake room m = made (starting room) m (read 0 0)

-- WHICH TAPE COUNTS
abbrev pub with_generation : ℕ → Tapes → Tapes
with_generation g t = tapes t.room t.active g t.used t.busy t.other t.cursor

unfoldable pub woke_first : Page → Registers → List ℕ → Made
woke_first p r m = made (in_phase WakeSecond (with_tapes (with_generation (head_of (checked_record_of p)) r.tapes) r)) m (read 1 0)

abbrev pub wake_by : Which → ℕ → Registers → List ℕ → Made
wake_by neither h r m = made (in_phase FreshBegun r) m (begin 0)
wake_by (only t) h r m =
    made (in_phase Replaying (with_tapes (tapes r.tapes.room t (pick (t == 0) r.tapes.generation h) 0 false 0 0) r)) m (read t 0)

unfoldable pub woke_second : Page → Registers → List ℕ → Made
woke_second p r m = wake_by (choose r.tapes.generation (head_of (checked_record_of p))) (head_of (checked_record_of p)) r m

-- REPLAY
-- a line's first record makes it pending; a copy's is then where the entry lies
abbrev pub here : Registers → Position
here r = record { tape = r.tapes.active; at = r.tapes.used }

abbrev pub kept_with : Rec News → Kept → Kept
kept_with (head g n) k = with_pending 0 (with_entries (lesser n 524289) k)
kept_with (line zero b) k = with_pending (lesser (suc k.pending) 65536) k
kept_with (line (suc j) b) k = k
kept_with (copy i j b) k = k
kept_with (commit c u) k = kept_by k c u
kept_with broken k = k

abbrev pub memory_with : Rec News → Registers → List ℕ → List ℕ
memory_with (head g n) r m = sections.cleared m
memory_with (line zero b) r m = sections.with_pending r.kept.pending (here r) m
memory_with (line (suc j) b) r m = m
memory_with (copy i zero b) r m = sections.with_entry i (here r) m
memory_with (copy i (suc j) b) r m = m
memory_with (commit c u) r m = applied_by r.kept c u m
memory_with broken r m = m

abbrev pub next_record : Rec News → Registers → List ℕ → Made
next_record c r m =
    made (with_kept (kept_with c r.kept) (with_tapes (with_used (suc r.tapes.used) r.tapes) r)) (memory_with c r m) (read r.tapes.active (suc r.tapes.used))

abbrev pub replay_by : Rec News → Registers → List ℕ → Made
replay_by (head g n) r m = next_record (head g n) r m
replay_by (line j b) r m = next_record (line j b) r m
replay_by (copy i j b) r m = next_record (copy i j b) r m
replay_by (commit c u) r m = next_record (commit c u) r m
replay_by broken r m = begin_other no_limit true (with_kept (with_pending 0 r.kept) r) m

unfoldable pub replay_record : Page → Registers → List ℕ → Made
replay_record p r m = replay_by (checked_record_of p) r m

-- NO TAPE COUNTS
unfoldable pub fresh_first : Registers → List ℕ → Made
fresh_first r m = made (in_phase FreshHead (with_kept nothing_kept (with_tapes (tapes r.tapes.room 0 1 1 false 0 0) r))) m (put_on 0 (page_of (head 1 0)))

unfoldable pub fresh_next : Registers → List ℕ → Made
fresh_next r m = made (in_phase FreshFast r) m (fasten 0)
