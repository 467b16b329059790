-- Putting on what a command brings: its lines, then its commit, on the tape that counts, and then on the other one too if entries are being carried there.
-- Assumes nothing: these are definitions.
use Rattle.std.specs.Prelude.{ℕ, suc, ◌-◌, ◌%◌, Bool, true, not, List, take, drop, ◌==◌, nat_lt}
use Rattle.plain.specs.Pattern.{pick, or}
use Rattle.plain.specs.Device.{lesser}
use Rattle.plain.specs.Run.{put_on, fasten}
use Rattle.journal.specs.Log.{line}
use Rattle.records.specs.Pages.{page_of}
use Rattle.journal.specs.Values.{splice_of}
use Rattle.engine.specs.Packing.{records_of, piece_of}
use Rattle.engine.specs.Machine as machine
use Rattle.memory.specs.declared.phase.Phase.TheVariants.{LinePut, CommitPut, CommitFast}
use Rattle.memory.specs.declared.directory.Position.{Position}
use Rattle.memory.specs.declared.tapes.Tapes.{Tapes}
use Rattle.memory.specs.declared.kept.Kept.{Kept}
use Rattle.memory.specs.declared.walking.Putting.{Putting}
use Rattle.memory.specs.declared.registers.Registers.{Registers}
use Rattle.memory.specs.Abstract.{house_of, text_of, line_end, some_lines}
use Rattle.memory.specs.Sections as sections
use Rattle.commits.specs.Acts.{Made, made}
use Rattle.commits.specs.Setters.{putting, with_used, with_other, with_cursor, with_pending, in_phase, with_tapes, with_kept, with_putting, passive}
use Rattle.commits.specs.News.{kept_by, applied_by, news_in}
use Rattle.commits.specs.Rows.{finish}

abbrev pub target : Registers → ℕ
target r = pick r.putting.second (passive r) r.tapes.active

abbrev pub target_used : Registers → ℕ
target_used r = pick r.putting.second r.tapes.other r.tapes.used

-- one record more on it
abbrev pub target_longer : Registers → Tapes
target_longer r = pick r.putting.second (with_other (suc r.tapes.other) r.tapes) (with_used (suc r.tapes.used) r.tapes)

-- the last of the tapes that get it
abbrev pub last_target : Registers → Bool
last_target r = or r.putting.second (not r.tapes.busy)

-- THE COMMIT
abbrev pub cursor_then : Registers → ℕ
cursor_then r = machine.cursor_after r.tapes.cursor r.job.plan.splice.from r.job.plan.splice.gone r.kept.pending

abbrev pub committed : Registers → List ℕ → Registers
committed r m =
    with_kept (kept_by r.kept (splice_of r.job.plan.splice) (news_in r m)) (with_tapes (with_cursor (cursor_then r) (target_longer r)) r)

unfoldable pub put_commit : Registers → List ℕ → Made
put_commit r m =
    made (in_phase CommitPut (pick (last_target r) (committed r m) (with_tapes (target_longer r) r)))
    (pick (last_target r) (applied_by r.kept (splice_of r.job.plan.splice) (news_in r m) m) m)
    (put_on (target r) (page_of (machine.commit_of (house_of r m))))

-- A LINE: where the first one that is left begins and ends, and its bytes
abbrev pub line_from : Registers → ℕ
line_from r = lesser r.putting.at r.job.text

abbrev pub line_to : Registers → List ℕ → ℕ
line_to r m = line_end r.job.lines (line_from r) (text_of r.job.text m)

abbrev pub first_line : Registers → List ℕ → List ℕ
first_line r m = take (line_to r m - line_from r) (drop (line_from r) (text_of r.job.text m))

-- its first record makes it pending
abbrev pub pending_then : Registers → Kept
pending_then r = with_pending (pick (r.putting.part == 0) (lesser (suc r.kept.pending) 65536) r.kept.pending) r.kept

abbrev pub target_position : Registers → Position
target_position r = record { tape = target r; at = target_used r }

abbrev pub noted_pending : Registers → List ℕ → List ℕ
noted_pending r m = pick (r.putting.part == 0) (sections.with_pending r.kept.pending (target_position r) m) m

unfoldable pub put_piece : Registers → List ℕ → Made
put_piece r m =
    made (in_phase LinePut (with_kept (pending_then r) (with_tapes (target_longer r) r))) (noted_pending r m)
    (put_on (target r) (page_of (line (r.putting.part % 256) (piece_of (first_line r m) r.putting.part))))

unfoldable pub put_next : Registers → List ℕ → Made
put_next r m = pick r.putting.more (put_piece r m) (put_commit r m)

-- from the first line on
abbrev pub passing : Bool → Registers → Registers
passing second r = with_putting (putting second (some_lines r.job.lines) 0 0) (with_kept (with_pending 0 r.kept) r)

unfoldable pub start_pass : Bool → Registers → List ℕ → Made
start_pass second r m = put_next (passing second r) m

-- a record of the first line that is left is on
abbrev pub put_further : Registers → List ℕ → Putting
put_further r m =
    pick (nat_lt (suc r.putting.part) (records_of (line_to r m - line_from r)))
    (putting r.putting.second r.putting.more r.putting.at (suc r.putting.part))
    (putting r.putting.second (nat_lt (line_to r m) r.job.text) (pick (nat_lt (line_to r m) r.job.text) (suc (line_to r m)) 0) 0)

unfoldable pub after_line : Registers → List ℕ → Made
after_line r m = pick r.putting.more (put_next (with_putting (put_further r m) r) m) (put_commit r m)

unfoldable pub after_commit : Registers → List ℕ → Made
after_commit r m = pick r.putting.second (finish r m) (made (in_phase CommitFast r) m (fasten r.tapes.active))

unfoldable pub after_fast : Registers → List ℕ → Made
after_fast r m = pick r.tapes.busy (start_pass true r m) (finish r m)
