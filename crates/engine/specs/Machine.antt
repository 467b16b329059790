-- The machine: what it does when it is told something, one act at a time. Assumes nothing: these are definitions.
use Rattle.std.specs.Prelude.{ℕ, suc, ◌+◌, Bool, true, false, ◌&&◌, List, [], ◌∷◌, ◌++◌, length, ◌==◌, nat_lt}
use Rattle.plain.specs.Pattern.{pick, eight}
use Rattle.plain.specs.Command.{Simple, Command, plain, all_lines, reads}
use Rattle.plain.specs.Device.{Page}
use Rattle.plain.specs.Run.{Event, on, said, page, next, read, put_on, fasten, begin, shows}
use Rattle.journal.specs.Log.{Position, Rec, head, state, intact, after, Piece, piece_in, head_of, Which, neither, only, choose}
use Rattle.journal.specs.Small.{Small, News, updated, no_state}
use Rattle.journal.specs.Machine.{did, Machine}
use Rattle.engine.specs.Fits.{Fits}
use Rattle.engine.specs.Packing.{records_of}
use Rattle.records.specs.Pages.{page_of, record_of}
use Rattle.commands.specs.Resolve as resolve
use Rattle.commands.specs.Plan.{Plan, Walk, skip, show, show_numbered, measure, glue, Update, same_as_before, current_only, the_text, the_file, sizes, Slot, look_up, decide}
use Rattle.commands.specs.Turn.{lines_given, name_given, given_of}
use Rattle.engine.specs.State.{Phase, idle, wake_first, wake_second, replaying, fresh_begun, fresh_head, fresh_fast, compact_begun, setting_up, carry_read, carry_put, compact_fast, switched, fetching, row_shown, line_put, commit_put, commit_fast, count_shown, file_shown, Tapes, tapes_of, walking_of, putting_of, House, starting, at_phase, with_tapes, with_store, with_job, with_walking, with_putting, with_used, with_pending, with_lines}
unfoldable pub use Rattle.engine.specs.Phases.{next_on}
pub use Rattle.engine.specs.Phases.{Does, ends_done, refuses, text_at, entry_of, no_entry, file_row, with_index, show_files, finish_row, finish, copied_weight, came_weight, news_of, commit_of, target, target_used, target_longer, last_target, cursor_after, applied, cursor_then, put_commit, put_piece, put_first, put_next, start_pass, after_line, after_commit, after_fast, go_on, next_entry, carry_entry, carry, carry_piece, carried, after_carry, begin_other, put_other, put_head, no_news, set_up_next, switch, need, job_size, no_limit, quota_by, quota_of, threshold, with_quota, prepare, no_room, weigh}

-- THE WALK
abbrev pub fetch : House → Does
fetch x =
    let p : Position = entry_of x (text_at x.store.small + x.walking.line) in
    did (at_phase fetching x) (read p.tape (p.at + x.walking.part))

-- the lines that are put on after it
abbrev pub lines_then : Walk → House → House
lines_then skip x = x
lines_then show x = x
lines_then show_numbered x = x
lines_then measure x = x
lines_then glue x = with_job (with_lines (x.walking.bytes ∷ []) x.job) x

abbrev pub walks : Walk → Bool
walks skip = false
walks show = true
walks show_numbered = true
walks measure = true
walks glue = true

abbrev pub walk_on : House → Does
walk_on x =
    pick (walks x.job.plan.walk && nat_lt x.walking.line x.job.plan.upto) (fetch x) (weigh (lines_then x.job.plan.walk x))

-- past a line that has so many bytes
abbrev pub line_past : ℕ → List ℕ → House → House
line_past n bs x = with_walking (walking_of (suc x.walking.line) 0 (x.walking.went + (64 + n)) bs) x

abbrev pub joined : Piece → House → List ℕ
joined b x = x.walking.bytes ++ b.bytes

abbrev pub next_part : Piece → House → House
next_part b x = with_walking (walking_of x.walking.line (suc x.walking.part) x.walking.went (joined b x)) x

abbrev pub more_parts : Piece → House → Bool
more_parts b x = nat_lt (suc x.walking.part) (records_of b.long)

abbrev pub row_of : Bool → House → List ℕ → List ℕ
row_of numbered x bs = pick numbered (eight (suc x.walking.line) ++ bs) bs

abbrev pub show_piece : Bool → Piece → House → Does
show_piece numbered b x =
    pick (more_parts b x) (fetch (next_part b x)) (did (at_phase row_shown (line_past b.long [] x)) (shows (row_of numbered x (joined b x))))

abbrev pub too_long : Piece → House → Bool
too_long b x = x.walking.part == 0 && nat_lt 1024 (length x.walking.bytes + b.long)

abbrev pub glue_piece : Piece → House → Does
glue_piece b x = pick (too_long b x) (refuses 7 x) (pick (more_parts b x) (fetch (next_part b x)) (walk_on (line_past b.long (joined b x) x)))

abbrev pub fetched : Walk → Piece → House → Does
fetched skip b x = refuses 999 x
fetched show b x = show_piece false b x
fetched show_numbered b x = show_piece true b x
fetched measure b x = walk_on (line_past b.long [] x)
fetched glue b x = glue_piece b x

-- A COMMAND
-- what goes without a walk: nothing, or the whole text
abbrev pub went_at_once : Plan → Small → ℕ
went_at_once p s = pick (walks p.walk) 0 (pick (nat_lt p.after p.upto) s.weight 0)

abbrev pub start_job : Simple → ℕ → Plan → House → House
start_job c size p x =
    with_job (record { plan = p; name = name_given c.deed; size = size; lines = lines_given c.deed })
    (with_walking (walking_of p.after 0 (went_at_once p x.store.small) []) (with_putting (putting_of false [] 0) x))

abbrev pub do_plan : Update → House → Does
do_plan same_as_before x = finish x
do_plan current_only x = walk_on x
do_plan the_text x = walk_on x
do_plan (the_file i) x = walk_on x

abbrev pub slot_for : House → Simple → Slot
slot_for x c = look_up (name_given c.deed) 0 0 x.store.small.files

abbrev pub decision : House → Simple → resolve.Checked Plan
decision x c = decide (sizes x.store.small.count x.store.small.current (text_at x.store.small)) (slot_for x c) (given_of c.deed) c

abbrev pub by_decision : Simple → resolve.Checked Plan → House → Does
by_decision c (resolve.good p) x = do_plan p.update (start_job c (slot_for x c).size p x)
by_decision c (resolve.refused k) x = refuses k x

abbrev pub obey : List Command → House → Does
obey [] x = refuses 1 x
obey (plain c ∷ cs) x = by_decision c (decision x c) x
obey (all_lines r like p c ∷ cs) x = refuses 2 x

-- WAKING UP
abbrev pub with_generation : ℕ → Tapes → Tapes
with_generation g t = tapes_of t.room t.active g t.used t.busy t.other t.cursor

abbrev pub wake_by : Which → ℕ → ℕ → House → Does
wake_by neither g h x = did (at_phase fresh_begun x) (begin 0)
wake_by (only t) g h x = did (at_phase replaying (with_tapes (tapes_of x.tapes.room t (pick (t == 0) g h) 0 false 0 0) x)) (read t 0)

abbrev pub replay_record : Rec News → House → Does
replay_record r x =
    pick (intact r)
    (did (with_store (after updated x.tapes.active x.tapes.used x.store r) (with_tapes (with_used (suc x.tapes.used) x.tapes) x)) (read x.tapes.active (suc x.tapes.used)))
    (begin_other no_limit true (with_store (with_pending [] x.store) x))

abbrev pub fresh_first : House → Does
fresh_first x =
    did (at_phase fresh_head (with_store (state [] [] no_state) (with_tapes (tapes_of x.tapes.room 0 1 1 false 0 0) x))) (put_on 0 (page_of (head 1 0)))

-- WHAT IT IS TOLD
-- never told so
abbrev pub lost : House → Does
lost x = refuses 999 x

abbrev pub on_record : Phase → Rec News → House → Does
on_record idle r x = lost x
on_record wake_first r x = did (at_phase wake_second (with_tapes (with_generation (head_of r) x.tapes) x)) (read 1 0)
on_record wake_second r x = wake_by (choose x.tapes.generation (head_of r)) x.tapes.generation (head_of r) x
on_record replaying r x = replay_record r x
on_record fresh_begun r x = lost x
on_record fresh_head r x = lost x
on_record fresh_fast r x = lost x
on_record compact_begun r x = lost x
on_record setting_up r x = lost x
on_record carry_read r x = carry_piece (piece_in r) x
on_record carry_put r x = lost x
on_record compact_fast r x = lost x
on_record switched r x = lost x
on_record fetching r x = fetched x.job.plan.walk (piece_in r) x
on_record row_shown r x = lost x
on_record line_put r x = lost x
on_record commit_put r x = lost x
on_record commit_fast r x = lost x
on_record count_shown r x = lost x
on_record file_shown r x = lost x

abbrev pub on_next : Phase → House → Does
on_next idle x = lost x
on_next wake_first x = lost x
on_next wake_second x = lost x
on_next replaying x = lost x
on_next fresh_begun x = fresh_first x
on_next fresh_head x = did (at_phase fresh_fast x) (fasten 0)
on_next fresh_fast x = ends_done x
on_next compact_begun x = put_head x
on_next setting_up x = set_up_next x
on_next carry_read x = lost x
on_next carry_put x = after_carry x
on_next compact_fast x = did (at_phase switched x) (begin x.tapes.active)
on_next switched x = go_on (switch x)
on_next fetching x = lost x
on_next row_shown x = walk_on x
on_next line_put x = after_line x.putting.left x
on_next commit_put x = after_commit x
on_next commit_fast x = after_fast x
on_next count_shown x = ends_done x
on_next file_shown x = show_files (suc x.carrying.index) x

-- a page is taken for the record that `reading` finds in it
unfoldable pub answers_by : (Page → Rec News) → House → Event → Does
answers_by reading x (on room) = did (at_phase wake_first (starting room)) (read 0 0)
answers_by reading x (said t) = obey (reads t) x
answers_by reading x (page p) = on_record x.phase (reading p) x
answers_by reading x next = on_next x.phase x

unfoldable pub answers : House → Event → Does
answers = answers_by record_of

-- THE MACHINE: it may be told anything where its state fits
unfoldable pub machine_by : (Page → Rec News) → Machine House
machine_by reading = record { start = starting 0; step = answers_by reading; Ok = λ x ev. Fits x }

unfoldable pub machine : Machine House
machine = machine_by record_of
