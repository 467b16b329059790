-- While lines are shown or joined no lines wait to be put on: so the cells of the memory hold one text at a time. Assumes nothing.
use Rattle.std.proofs.Common.{◌≡◌, ℕ, suc, ◌+◌, Bool, true, false, ◌&&◌, eqb, ltb, List, [], ◌∷◌, length, drop, sym, refl, ap, ◌∙◌, subst}
use Rattle.std.proofs.lemmas.Bool.{true≢false, false≢true}
use Rattle.plain.specs.Pattern.{pick, none_of}
use Rattle.plain.specs.Command.{Simple, Command, plain, all_lines, lines_of, reads}
use Rattle.plain.specs.Run.{Event, on, said, page, next}
use Rattle.journal.specs.Log.{Rec, intact, Piece, piece_in, Which, neither, only, choose, head_of}
use Rattle.journal.specs.Small.{News}
use Rattle.records.specs.Checked.{checked_record_of}
use Rattle.commands.specs.Resolve.{Checked, good, refused}
use Rattle.commands.specs.Plan.{Plan, Walk, skip, show, show_numbered, measure, glue, Update, same_as_before, current_only, the_text, the_file, Rows, no_row, a_number, all_files, sizes}
use Rattle.commands.specs.Turn.{given_of}
use Rattle.commands.specs.Code.{walk_as}
use Rattle.commands.specs.declared.plan.Walk as code_walk
use Rattle.commands.specs.declared.plan.Walk.TheVariants as walk
use Rattle.commands.proofs.Walks.{gives_none, shows-nothing-given}
use Rattle.engine.specs.State as engine
use Rattle.engine.specs.State.{House, Phase, idle, wake_first, wake_second, replaying, fresh_begun, fresh_head, fresh_fast, compact_begun, setting_up, carry_read, carry_put, compact_fast, switched, fetching, row_shown, line_put, commit_put, commit_fast, count_shown, file_shown}
use Rattle.engine.specs.Machine as machine
use Rattle.engine.specs.Machine.{Does}
use Rattle.memory.specs.declared.job.Lines as memory_lines
use Rattle.memory.specs.declared.job.Lines.TheVariants.{Nothing, Given, Joined}
use Rattle.memory.specs.declared.registers.Registers.{Registers}
use Rattle.memory.specs.Abstract.{house_of, job_lines, left_of, text_of}
use Rattle.refinement.proofs.Walking as walking
use Rattle.execution.proofs.Given.{lines_some}

-- no lines wait
pub record Cleared (x : House) : Type 0 where
  pub lines : x.job.lines ≡ []
  pub left : x.putting.left ≡ []

-- where a walk uses the cells
abbrev pub Free : House → Type 0
Free x = gives_none x.job.plan.walk ≡ true → Cleared x

abbrev pub Held : Phase → House → Type 0
Held idle x = Unit {0}
Held wake_first x = Unit {0}
Held wake_second x = Unit {0}
Held replaying x = Unit {0}
Held fresh_begun x = Unit {0}
Held fresh_head x = Unit {0}
Held fresh_fast x = Unit {0}
Held compact_begun x = Unit {0}
Held setting_up x = Unit {0}
Held carry_read x = Unit {0}
Held carry_put x = Unit {0}
Held compact_fast x = Unit {0}
Held switched x = Unit {0}
Held fetching x = Free x
Held row_shown x = Free x
Held line_put x = Unit {0}
Held commit_put x = Unit {0}
Held commit_fast x = Unit {0}
Held count_shown x = Unit {0}
Held file_shown x = Unit {0}

abbrev pub Cells : House → Type 0
Cells x = Held x.phase x

-- IT STAYS SO, step by step
by_pick : (b : Bool) (d e : Does) → Cells d.state → Cells e.state → Cells (pick b d e).state
by_pick true d e p q = p
by_pick false d e p q = q

files_cells : (i : ℕ) (x : House) → Cells (machine.show_files i x).state
files_cells i x = by_pick (ltb i (length x.store.small.files)) _ (machine.ends_done x) tt tt

row_cells : (q : Rows) (x : House) → Cells (machine.finish_row q x).state
row_cells no_row x = tt
row_cells (a_number n) x = tt
row_cells all_files x = files_cells 0 x

first_cells : (ls : List (List ℕ)) (x : House) → Cells (machine.put_first ls x).state
first_cells [] x = tt
first_cells (l ∷ ls) x = tt

pass_cells : (s : Bool) (x : House) → Cells (machine.start_pass s x).state
pass_cells s x = first_cells x.job.lines _

line_cells : (ls : List (List ℕ)) (x : House) → Cells (machine.after_line ls x).state
line_cells [] x = first_cells x.putting.left x
line_cells (l ∷ ls) x = first_cells _ _

go_on_cells : (x : House) → Cells (machine.go_on x).state
go_on_cells x = by_pick x.carrying.waking (machine.ends_done x) (machine.start_pass false x) tt (pass_cells false x)

entry_cells : (i : ℕ) (x : House) → Cells (machine.carry_entry i x).state
entry_cells i x = by_pick (ltb i (length x.store.dir)) _ _ tt tt

carry_cells : (x : House) → Cells (machine.carry x).state
carry_cells x = by_pick (eqb x.carrying.quota 0) (machine.go_on x) (machine.carry_entry (machine.next_entry x) x) (go_on_cells x) (entry_cells (machine.next_entry x) x)

prepare_cells : (x : House) → Cells (machine.prepare x).state
prepare_cells x =
    by_pick x.tapes.busy (machine.carry (machine.with_quota (machine.quota_of x) false x)) _ (carry_cells (machine.with_quota (machine.quota_of x) false x))
    (by_pick (ltb (machine.threshold x.tapes.room) (x.tapes.used + machine.need x)) (machine.begin_other (machine.quota_of x) false x) (machine.start_pass false x) tt (pass_cells false x))

weigh_cells : (x : House) → Cells (machine.weigh x).state
weigh_cells x = by_pick (machine.no_room x) (machine.refuses 8 x) (machine.prepare x) tt (prepare_cells x)

fetch_cells : (x : House) → Free x → Cells (machine.fetch x).state
fetch_cells x f = λ e. record { lines = (f e).lines; left = (f e).left }

walk_cells : (x : House) → Free x → Cells (machine.walk_on x).state
walk_cells x f = by_pick (machine.walks x.job.plan.walk && ltb x.walking.line x.job.plan.upto) (machine.fetch x) _ (fetch_cells x f) (weigh_cells (machine.lines_then x.job.plan.walk x))

show_cells : (numbered : Bool) (b : Piece) (x : House) → Free x → Cells (machine.show_piece numbered b x).state
show_cells numbered b x f =
    by_pick (machine.more_parts b x) (machine.fetch (machine.next_part b x)) _ (fetch_cells (machine.next_part b x) (λ e. record { lines = (f e).lines; left = (f e).left })) (λ e. record { lines = (f e).lines; left = (f e).left })

glue_cells : (b : Piece) (x : House) → Free x → Cells (machine.glue_piece b x).state
glue_cells b x f =
    by_pick (machine.too_long b x) (machine.refuses 7 x) _ tt
    (by_pick (machine.more_parts b x) (machine.fetch (machine.next_part b x)) _ (fetch_cells (machine.next_part b x) (λ e. record { lines = (f e).lines; left = (f e).left }))
    (walk_cells (machine.line_past b.long (machine.joined b x) x) (λ e. record { lines = (f e).lines; left = (f e).left })))

fetched_cells : (w : Walk) (b : Piece) (x : House) → Free x → Cells (machine.fetched w b x).state
fetched_cells skip b x f = tt
fetched_cells show b x f = show_cells false b x f
fetched_cells show_numbered b x f = show_cells true b x f
fetched_cells measure b x f = walk_cells (machine.line_past b.long [] x) (λ e. record { lines = (f e).lines; left = (f e).left })
fetched_cells glue b x f = glue_cells b x f

plan_cells : (u : Update) (x : House) → Free x → Cells (machine.do_plan u x).state
plan_cells same_as_before x f = row_cells x.job.plan.rows x
plan_cells current_only x f = walk_cells x f
plan_cells the_text x f = walk_cells x f
plan_cells (the_file i) x f = walk_cells x f

decided_cells : (c : Simple) (d : Checked Plan) (x : House) → machine.decision x c ≡ d → Cells (machine.by_decision c d x).state
decided_cells c (good p) x e =
    plan_cells p.update (machine.start_job c (machine.slot_for x c).size p x)
    (λ g. record { lines = shows-nothing-given (sizes x.store.small.count x.store.small.current (machine.text_at x.store.small)) (machine.slot_for x c) (given_of c.deed) c p e g; left = refl })
decided_cells c (refused k) x e = tt

obey_cells : (cs : List Command) (x : House) → Cells (machine.obey cs x).state
obey_cells [] x = tt
obey_cells (plain c ∷ cs) x = decided_cells c (machine.decision x c) x refl
obey_cells (all_lines r like p c ∷ cs) x = tt

wake_cells : (w : Which) (g h : ℕ) (x : House) → Cells (machine.wake_by w g h x).state
wake_cells neither g h x = tt
wake_cells (only t) g h x = tt

replay_cells : (r : Rec News) (x : House) → x.phase ≡ replaying → Cells (machine.replay_record r x).state
replay_cells r x e = by_pick (intact r) _ _ (awake (engine.with_store _ (engine.with_tapes _ x)) e) tt
  where
    awake : (y : House) → y.phase ≡ replaying → Cells y
    awake y q = subst (λ ph. Held ph y) (sym q) tt

record_cells : (ph : Phase) (r : Rec News) (x : House) → x.phase ≡ ph → Held ph x → Cells (machine.on_record ph r x).state
record_cells idle r x e h = tt
record_cells wake_first r x e h = tt
record_cells wake_second r x e h = wake_cells (choose x.tapes.generation (head_of r)) x.tapes.generation (head_of r) x
record_cells replaying r x e h = replay_cells r x e
record_cells fresh_begun r x e h = tt
record_cells fresh_head r x e h = tt
record_cells fresh_fast r x e h = tt
record_cells compact_begun r x e h = tt
record_cells setting_up r x e h = tt
record_cells carry_read r x e h = tt
record_cells carry_put r x e h = tt
record_cells compact_fast r x e h = tt
record_cells switched r x e h = tt
record_cells fetching r x e h = fetched_cells x.job.plan.walk (piece_in r) x h
record_cells row_shown r x e h = tt
record_cells line_put r x e h = tt
record_cells commit_put r x e h = tt
record_cells commit_fast r x e h = tt
record_cells count_shown r x e h = tt
record_cells file_shown r x e h = tt

next_cells : (ph : Phase) (x : House) → Held ph x → Cells (machine.on_next ph x).state
next_cells idle x h = tt
next_cells wake_first x h = tt
next_cells wake_second x h = tt
next_cells replaying x h = tt
next_cells fresh_begun x h = tt
next_cells fresh_head x h = tt
next_cells fresh_fast x h = tt
next_cells compact_begun x h = tt
next_cells setting_up x h = by_pick (ltb x.carrying.index _) _ (machine.carry x) tt (carry_cells x)
next_cells carry_read x h = tt
next_cells carry_put x h = by_pick (ltb (suc x.carrying.part) _) _ (machine.carry (machine.carried x)) tt (carry_cells (machine.carried x))
next_cells compact_fast x h = tt
next_cells switched x h = go_on_cells (machine.switch x)
next_cells fetching x h = tt
next_cells row_shown x h = walk_cells x h
next_cells line_put x h = line_cells x.putting.left x
next_cells commit_put x h = by_pick x.putting.second (machine.finish x) _ (row_cells x.job.plan.rows x) tt
next_cells commit_fast x h = by_pick x.tapes.busy (machine.start_pass true x) (machine.finish x) (pass_cells true x) (row_cells x.job.plan.rows x)
next_cells count_shown x h = tt
next_cells file_shown x h = files_cells (suc x.carrying.index) x

pub cells_stay : (x : House) (ev : Event) → Cells x → Cells (machine.answers_by checked_record_of x ev).state
unfolding machine.answers_by
cells_stay x (on room) h = tt
cells_stay x (said t) h = obey_cells (reads t) x
cells_stay x (page p) h = record_cells x.phase (checked_record_of p) x refl h
cells_stay x next h = next_cells x.phase x h

-- IN THE REGISTERS
some_line : (l cs : List ℕ) → lines_of l cs ≡ [] → ⊥
some_line l cs e = true≢false (sym (ap none_of e) ∙ lines_some l cs)

no_lines : (ls : memory_lines.Lines) (t : List ℕ) → job_lines ls t ≡ [] → ls ≡ Nothing
no_lines Nothing t e = refl
no_lines Given t e = absurd (some_line [] t e)
no_lines Joined t e = absurd (false≢true (ap none_of e))

none_left : (more : Bool) (ls : memory_lines.Lines) (t : List ℕ) → left_of more ls t ≡ [] → more ≡ false
none_left false ls t e = refl
none_left true Nothing t e = absurd (false≢true (ap none_of e))
none_left true Given t e = absurd (some_line [] t e)
none_left true Joined t e = absurd (false≢true (ap none_of e))

pub clear : (r : Registers) (m : List ℕ) → Cleared (house_of r m) → walking.Clear r
unfolding house_of
clear r m c = record {
  lines = no_lines r.job.lines (text_of r.job.text m) c.lines;
  left = none_left r.putting.more r.job.lines (drop r.putting.at (text_of r.job.text m)) c.left;
}

pub uses : (r : Registers) (m : List ℕ) (w : code_walk.Walk) → (gives_none (walk_as w) ≡ true → Cleared (house_of r m)) → walking.Uses r w
uses r m walk.Skip f = tt
uses r m walk.Show f = clear r m (f refl)
uses r m walk.ShowNumbered f = clear r m (f refl)
uses r m walk.Measure f = tt
uses r m walk.Join f = clear r m (f refl)

pub ready : (r : Registers) (m : List ℕ) (w : code_walk.Walk) → (gives_none (walk_as w) ≡ true → Cleared (house_of r m)) → walking.Ready w r.putting.more
ready r m walk.Skip f = tt
ready r m walk.Show f = tt
ready r m walk.ShowNumbered f = tt
ready r m walk.Measure f = tt
ready r m walk.Join f = (clear r m (f refl)).left
