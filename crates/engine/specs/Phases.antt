-- The phases of the machine: rows, what a command brings, carrying entries, and what is looked at before anything is put on. Assumes nothing: these are
-- definitions.
use Rattle.std.specs.Prelude.{ℕ, suc, ◌+◌, ◌-◌, ◌*◌, ◌/◌, Bool, true, false, not, ◌&&◌, List, [], ◌∷◌, ◌++◌, length, drop, ◌==◌, nat_le, nat_lt, slice_index_or, slice_set}
use Rattle.plain.specs.Pattern.{pick, or, added_up, eight, with_length}
use Rattle.plain.specs.Run.{read, put_on, fasten, begin, shows, done, refused}
use Rattle.journal.specs.Log.{Position, position, hole, Source, no_entries, new_entries, copied, no_splice, Rec, head, line, copy, commit, State, after, Piece, next_generation}
use Rattle.journal.specs.Small.{Entry, entry, Small, News, news, nothing_else, updated, set_up_of}
use Rattle.journal.specs.Machine.{Did, did}
use Rattle.engine.specs.Packing.{records_of, lines_records, piece_of}
use Rattle.records.specs.Pages.{page_of}
use Rattle.commands.specs.Kept.{lines_size}
use Rattle.commands.specs.Plan.{Update, same_as_before, current_only, the_text, the_file, Rows, no_row, a_number, all_files}
use Rattle.commands.specs.Smalls.{news_by, smalls_weight}
use Rattle.engine.specs.State.{idle, compact_begun, setting_up, carry_read, carry_put, compact_fast, line_put, commit_put, commit_fast, count_shown, file_shown, Tapes, tapes_of, putting_of, Carrying, carrying_of, House, at_phase, with_tapes, with_store, with_putting, with_carrying, with_used, with_other, with_cursor, with_pending, with_dir, passive}

abbrev pub Does : Type 0
Does = Did House

abbrev pub ends_done : House → Does
ends_done x = did (at_phase idle x) done

abbrev pub refuses : ℕ → House → Does
refuses k x = did (at_phase idle x) (refused k)

-- the text's first entry of the directory
abbrev pub text_at : Small → ℕ
text_at s = added_up (λ e. e.lines) s.files

abbrev pub entry_of : House → ℕ → Position
entry_of x i = slice_index_or x.store.dir i hole

-- ROWS
abbrev pub no_entry : Entry
no_entry = entry [] 0 0

abbrev pub file_row : Entry → List ℕ
file_row e = with_length e.name ++ eight e.lines

abbrev pub with_index : ℕ → Carrying → Carrying
with_index i c = carrying_of i c.part c.long c.start c.quota c.waking

abbrev pub show_files : ℕ → House → Does
show_files i x =
    pick (nat_lt i (length x.store.small.files))
    (did (at_phase file_shown (with_carrying (with_index i x.carrying) x)) (shows (file_row (slice_index_or x.store.small.files i no_entry))))
    (ends_done x)

-- the last row of a command that is done
abbrev pub finish_row : Rows → House → Does
finish_row no_row x = ends_done x
finish_row (a_number n) x = did (at_phase count_shown x) (shows (eight n))
finish_row all_files x = show_files 0 x

abbrev pub finish : House → Does
finish x = finish_row x.job.plan.rows x

-- WHAT A COMMAND BRINGS
-- what the lines weigh that come: those put on, or copies of a file's, or of those walked over
abbrev pub copied_weight : Update → ℕ → ℕ → ℕ
copied_weight same_as_before went size = 0
copied_weight current_only went size = 0
copied_weight the_text went size = size
copied_weight (the_file i) went size = went

abbrev pub came_weight : Source → Update → List (List ℕ) → ℕ → ℕ → ℕ
came_weight no_entries u ls went size = 0
came_weight new_entries u ls went size = lines_size ls
came_weight (copied a b) u ls went size = copied_weight u went size

abbrev pub news_of : House → News
news_of x =
    news_by x.job.plan.update x.store.small x.job.plan x.walking.went
    (came_weight x.job.plan.splice.source x.job.plan.update x.job.lines x.walking.went x.job.size) x.job.name

abbrev pub commit_of : House → Rec News
commit_of x = commit x.job.plan.splice (news_of x)

-- PUTTING IT ON, on the tape that counts, and then on the other one too if entries are being carried there
abbrev pub target : House → ℕ
target x = pick x.putting.second (passive x) x.tapes.active

abbrev pub target_used : House → ℕ
target_used x = pick x.putting.second x.tapes.other x.tapes.used

-- one record more on it
abbrev pub target_longer : House → Tapes
target_longer x = pick x.putting.second (with_other (suc x.tapes.other) x.tapes) (with_used (suc x.tapes.used) x.tapes)

-- the last of the tapes that get it
abbrev pub last_target : House → Bool
last_target x = or x.putting.second (not x.tapes.busy)

-- past which entry none is left to carry after a splice that brings only entries of the other tape
abbrev pub cursor_after : ℕ → ℕ → ℕ → ℕ → ℕ
cursor_after c from gone came = pick (nat_le c from) c (pick (nat_le c (from + gone)) (from + came) (c - gone + came))

abbrev pub applied : House → State Small
applied x = after updated (target x) (target_used x) x.store (commit_of x)

abbrev pub cursor_then : House → ℕ
cursor_then x = cursor_after x.tapes.cursor x.job.plan.splice.from x.job.plan.splice.gone (length x.store.pending)

abbrev pub put_commit : House → Does
put_commit x =
    did (at_phase commit_put (pick (last_target x) (with_store (applied x) (with_tapes (with_cursor (cursor_then x) (target_longer x)) x)) (with_tapes (target_longer x) x)))
    (put_on (target x) (page_of (commit_of x)))

abbrev pub put_piece : List ℕ → House → Does
put_piece l x =
    did (at_phase line_put (with_store (after updated (target x) (target_used x) x.store (line x.putting.part (piece_of l x.putting.part))) (with_tapes (target_longer x) x)))
    (put_on (target x) (page_of (line x.putting.part (piece_of l x.putting.part))))

abbrev pub put_first : List (List ℕ) → House → Does
put_first [] x = put_commit x
put_first (l ∷ ls) x = put_piece l x

abbrev pub put_next : House → Does
put_next x = put_first x.putting.left x

abbrev pub start_pass : Bool → House → Does
start_pass second x = put_next (with_putting (putting_of second x.job.lines 0) (with_store (with_pending [] x.store) x))

-- a record of the first line that is left is on
abbrev pub after_line : List (List ℕ) → House → Does
after_line [] x = put_next x
after_line (l ∷ ls) x =
    put_next (with_putting (pick (nat_lt (suc x.putting.part) (records_of (length l)))
    (putting_of x.putting.second (l ∷ ls) (suc x.putting.part))
    (putting_of x.putting.second ls 0)) x)

abbrev pub after_commit : House → Does
after_commit x = pick x.putting.second (finish x) (did (at_phase commit_fast x) (fasten x.tapes.active))

abbrev pub after_fast : House → Does
after_fast x = pick x.tapes.busy (start_pass true x) (finish x)

-- CARRYING ENTRIES to the other tape
abbrev pub go_on : House → Does
go_on x = pick x.carrying.waking (ends_done x) (start_pass false x)

-- the first entry from i on that lies on the tape t
unfoldable pub next_on : ℕ → ℕ → List Position → ℕ
next_on t i [] = i
next_on t i (p ∷ ps) = pick (p.tape == t) i (next_on t (suc i) ps)

abbrev pub next_entry : House → ℕ
next_entry x = next_on x.tapes.active x.tapes.cursor (drop x.tapes.cursor x.store.dir)

abbrev pub carry_entry : ℕ → House → Does
carry_entry i x =
    pick (nat_lt i (length x.store.dir))
    (did (at_phase carry_read (with_carrying (carrying_of i 0 0 x.tapes.other x.carrying.quota x.carrying.waking) x)) (read (entry_of x i).tape (entry_of x i).at))
    (did (at_phase compact_fast x) (fasten (passive x)))

abbrev pub carry : House → Does
carry x = pick (x.carrying.quota == 0) (go_on x) (carry_entry (next_entry x) x)

abbrev pub carry_piece : Piece → House → Does
carry_piece b x =
    did (at_phase carry_put (with_carrying (carrying_of x.carrying.index x.carrying.part b.long x.carrying.start x.carrying.quota x.carrying.waking)
    (with_tapes (with_other (suc x.tapes.other) x.tapes) x)))
    (put_on (passive x) (page_of (copy x.carrying.index x.carrying.part b)))

abbrev pub carried : House → House
carried x =
    with_carrying (carrying_of x.carrying.index 0 0 x.carrying.start (x.carrying.quota - 1) x.carrying.waking)
    (with_tapes (with_cursor (suc x.carrying.index) x.tapes)
    (with_store (with_dir (slice_set x.store.dir x.carrying.index (position (passive x) x.carrying.start)) x.store) x))

abbrev pub after_carry : House → Does
after_carry x =
    pick (nat_lt (suc x.carrying.part) (records_of x.carrying.long))
    (did (at_phase carry_read (with_carrying (carrying_of x.carrying.index (suc x.carrying.part) x.carrying.long x.carrying.start x.carrying.quota x.carrying.waking) x))
    (read (entry_of x x.carrying.index).tape ((entry_of x x.carrying.index).at + suc x.carrying.part)))
    (carry (carried x))

-- the other tape begins: a head, the small state, and then what is carried
abbrev pub begin_other : ℕ → Bool → House → Does
begin_other quota waking x =
    did (at_phase compact_begun (with_carrying (carrying_of 0 0 0 0 quota waking)
    (with_tapes (tapes_of x.tapes.room x.tapes.active x.tapes.generation x.tapes.used true 0 0) x)))
    (begin (passive x))

abbrev pub put_other : Rec News → House → Does
put_other r x = did (at_phase setting_up (with_tapes (with_other (suc x.tapes.other) x.tapes) x)) (put_on (passive x) (page_of r))

abbrev pub put_head : House → Does
put_head x = put_other (head (next_generation x.tapes.generation) (length x.store.dir)) x

abbrev pub no_news : News
no_news = news 0 0 0 nothing_else

abbrev pub set_up_next : House → Does
set_up_next x =
    pick (nat_lt x.carrying.index (length (set_up_of x.store.small)))
    (put_other (commit no_splice (slice_index_or (set_up_of x.store.small) x.carrying.index no_news)) (with_carrying (with_index (suc x.carrying.index) x.carrying) x))
    (carry x)

abbrev pub switch : House → House
switch x = with_tapes (tapes_of x.tapes.room (passive x) (next_generation x.tapes.generation) x.tapes.other false 0 0) x

-- BEFORE ANYTHING IS PUT ON
abbrev pub need : House → ℕ
need x = suc (lines_records x.job.lines)

abbrev pub job_size : House → ℕ
job_size x = suc ((x.job.plan.upto - x.job.plan.after) + x.job.plan.came)

-- more than there can be
abbrev pub no_limit : ℕ
no_limit = 1048576

-- copies of entries only once all are carried
abbrev pub quota_by : Source → ℕ → ℕ
quota_by no_entries s = 16 * s
quota_by new_entries s = 16 * s
quota_by (copied a b) s = no_limit

abbrev pub quota_of : House → ℕ
quota_of x = quota_by x.job.plan.splice.source (job_size x)

abbrev pub threshold : ℕ → ℕ
threshold room = 7 * room / 8

abbrev pub with_quota : ℕ → Bool → House → House
with_quota q w x = with_carrying (carrying_of 0 0 0 0 q w) x

abbrev pub prepare : House → Does
prepare x =
    pick x.tapes.busy (carry (with_quota (quota_of x) false x))
    (pick (nat_lt (threshold x.tapes.room) (x.tapes.used + need x)) (begin_other (quota_of x) false x) (start_pass false x))

abbrev pub no_room : House → Bool
no_room x =
    nat_lt (smalls_weight x.store.small) (smalls_weight (updated (news_of x) x.store.small))
    && nat_lt (32 * x.tapes.room) (smalls_weight (updated (news_of x) x.store.small))

abbrev pub weigh : House → Does
weigh x = pick (no_room x) (refuses 8 x) (prepare x)
