-- Registers as they are stored part by part, and as they are loaded again. Assumes nothing.
use Rattle.std.proofs.Common.{◌≡◌, ℕ, zero, suc, ◌+◌, ◌-◌, ◌%◌, ◌<◌, ◌≤◌, Bool, true, false, eqb, List, [], ◌∷◌, ◌++◌, length, get_or, drop, set, sym, refl, ap, ◌∙◌, mod-eq_of_lt, arith, lit<}
use Rattle.std.proofs.lemmas.List.{drop-drop, drop_all, get_or_past, append-nil}
use Rattle.plain.specs.Pattern.{pick}
use Rattle.commands.specs.declared.plan.Plan.{Plan}
use Rattle.commands.specs.declared.plan.Walk.{Walk}
use Rattle.commands.specs.declared.plan.Walk.TheVariants as walk
use Rattle.commands.specs.declared.plan.Update.{Update}
use Rattle.commands.specs.declared.plan.Update.TheVariants as update
use Rattle.commands.specs.declared.plan.Rows.{Rows}
use Rattle.commands.specs.declared.plan.Rows.TheVariants as rows
use Rattle.journal.specs.declared.commit.Source.{Source}
use Rattle.journal.specs.declared.commit.Source.TheVariants as source
use Rattle.memory.specs.declared.phase.Phase.{Phase}
use Rattle.memory.specs.declared.phase.Phase.TheVariants.{Idle, WakeFirst, WakeSecond, Replaying, FreshBegun, FreshHead, FreshFast, CompactBegun, SettingUp, CarryRead, CarryPut, CompactFast, Switched, Fetching, RowShown, LinePut, CommitPut, CommitFast, CountShown, FileShown}
use Rattle.memory.specs.declared.job.Lines.{Lines}
use Rattle.memory.specs.declared.job.Lines.TheVariants as lines
use Rattle.memory.specs.declared.tapes.Tapes.{Tapes}
use Rattle.memory.specs.declared.kept.Kept.{Kept}
use Rattle.memory.specs.declared.job.Job.{Job}
use Rattle.memory.specs.declared.walking.Walking.{Walking}
use Rattle.memory.specs.declared.walking.Putting.{Putting}
use Rattle.memory.specs.declared.carrying.Carrying.{Carrying}
use Rattle.memory.specs.declared.registers.Registers.{Registers}
use Rattle.memory.specs.Numbers.{capped, flag, phases, phase_of, phase_number, walk_of, walk_number, update_of, update_kind, update_place, rows_of, rows_kind, rows_value, source_by, source_kind, source_from, source_to, lines_of, lines_number}
use Rattle.memory.specs.Registers.{part, with_part, tapes_in, kept_in, plan_in, job_in, walking_in, putting_in, carrying_in, loaded, tapes_numbers, kept_numbers, plan_numbers, job_numbers, walking_numbers, putting_numbers, carrying_numbers, numbers, stored, TameTapes, TameKept, TameUpdate, TameRows, TameSource, TamePlan, TameJob, TameWalking, TamePutting, TameCarrying, Tame}

-- numbers past the last phase
pub phase_else : (n : ℕ) → (1 ≤ n → 20 ≤ n) → Idle ≡ phase_of n
unfolding phase_of
phase_else zero h = refl
phase_else (suc n) h = sym (get_or_past phases (suc n) Idle (h (omega arith)))

-- STORED PART BY PART
pub job-stored : (j : Job) (s : List ℕ) (v : ℕ) (q p : List ℕ) → length s ≡ 19 → v ≡ lines_number j.lines
    → q ≡ capped j.name ∷ capped j.size ∷ v ∷ capped j.text ∷ [] → p ≡ plan_numbers j.plan → with_part 4 15 (with_part 0 4 s q) p ≡ job_numbers j
job-stored j s v q p h e g f =
    (λ i. with_part 4 15 (with_part 0 4 s (g i)) (f i))
    ∙ (λ i. with_part 4 15 (with_part 0 4 s (capped j.name ∷ capped j.size ∷ e i ∷ capped j.text ∷ [])) (plan_numbers j.plan))
    ∙ ap (λ t. capped j.name ∷ capped j.size ∷ lines_number j.lines ∷ capped j.text ∷ (plan_numbers j.plan ++ t)) (drop-drop 15 4 s ∙ drop_all 19 s (omega arith))
    ∙ append-nil (job_numbers j)

pub all_stored : (r : Registers) (m : List ℕ) (v : ℕ) (a b c d e f : List ℕ) → 48 ≤ length m → v ≡ phase_number r.phase
    → a ≡ tapes_numbers r.tapes → b ≡ kept_numbers r.kept → c ≡ job_numbers r.job → d ≡ walking_numbers r.walking
    → e ≡ putting_numbers r.putting → f ≡ carrying_numbers r.carrying
    → with_part 42 6 (with_part 38 4 (with_part 34 4 (with_part 15 19 (with_part 8 7 (with_part 1 7 (set m 0 v) a) b) c) d) e) f ≡ stored r m
unfolding stored
all_stored r [] v a b c d e f h p q₁ q₂ q₃ q₄ q₅ q₆ = absurd (omega arith)
all_stored r (x ∷ m) v a b c d e f h p q₁ q₂ q₃ q₄ q₅ q₆ =
    (λ i. with_part 42 6 (with_part 38 4 (with_part 34 4 (with_part 15 19 (with_part 8 7 (with_part 1 7 (p i ∷ m) (q₁ i)) (q₂ i)) (q₃ i)) (q₄ i)) (q₅ i)) (q₆ i))
    ∙ ap (λ t. numbers r ++ t) (simp drop-drop)

-- LOADED AGAIN
pub twice : (x : ℕ) → x < 4294967296 → x % 4294967296 % 4294967296 ≡ x
twice x h = rw (mod-eq_of_lt h, mod-eq_of_lt h)

below : (k x : ℕ) → k < 4294967296 → x < k → x % 4294967296 % k ≡ x
below k x g h = let w : x < 4294967296 = omega arith in rw (mod-eq_of_lt w, mod-eq_of_lt h)

flag-back : (b : Bool) → eqb (flag b) 1 ≡ b
flag-back true = refl
flag-back false = refl

phase-back : (p : Phase) → phase_of (phase_number p) ≡ p
unfolding phase_of
phase-back Idle = refl
phase-back WakeFirst = refl
phase-back WakeSecond = refl
phase-back Replaying = refl
phase-back FreshBegun = refl
phase-back FreshHead = refl
phase-back FreshFast = refl
phase-back CompactBegun = refl
phase-back SettingUp = refl
phase-back CarryRead = refl
phase-back CarryPut = refl
phase-back CompactFast = refl
phase-back Switched = refl
phase-back Fetching = refl
phase-back RowShown = refl
phase-back LinePut = refl
phase-back CommitPut = refl
phase-back CommitFast = refl
phase-back CountShown = refl
phase-back FileShown = refl

walk-back : (w : Walk) → walk_of (walk_number w) ≡ w
walk-back walk.Skip = refl
walk-back walk.Show = refl
walk-back walk.ShowNumbered = refl
walk-back walk.Measure = refl
walk-back walk.Join = refl

update-back : (u : Update) → TameUpdate u → update_of (update_kind u) (update_place u) ≡ u
update-back update.Nothing t = refl
update-back update.Current t = refl
update-back update.Text t = refl
update-back (update.File n) t = ap update.File (twice n t)

rows_back : (r : Rows) → TameRows r → rows_of (rows_kind r) (rows_value r) ≡ r
rows_back rows.Nothing t = refl
rows_back (rows.Number n) t = ap rows.Number (twice n t)
rows_back rows.Files t = refl

source-back : (s : Source ℕ) → TameSource s → source_by (source_kind s) (source_from s) (source_to s) ≡ s
source-back source.Nothing t = refl
source-back source.New t = refl
source-back (source.Copied a b) t = λ i. source.Copied (twice a t.0 i) (twice b t.1 i)

lines-back : (l : Lines) → lines_of (lines_number l) ≡ l
lines-back lines.Nothing = refl
lines-back lines.Given = refl
lines-back lines.Joined = refl

pub tapes-back : (t : Tapes) → TameTapes t → tapes_in (tapes_numbers t) ≡ t
tapes-back t h = λ i. record {
  room = twice t.room h.room i;
  active = below 2 t.active (lit< tt) h.active i;
  generation = twice t.generation h.generation i;
  used = twice t.used h.used i;
  busy = flag-back t.busy i;
  other = twice t.other h.other i;
  cursor = twice t.cursor h.cursor i;
}

pub kept_back : (k : Kept) → TameKept k → kept_in (kept_numbers k) ≡ k
kept_back k h = λ i. record {
  entries = below 524290 k.entries (lit< tt) (omega (arith, h.entries)) i;
  pending = below 65537 k.pending (lit< tt) (omega (arith, h.pending)) i;
  count = twice k.count h.count i;
  current = twice k.current h.current i;
  weight = twice k.weight h.weight i;
  ring = below 65 k.ring (lit< tt) (omega (arith, h.ring)) i;
  files = below 65 k.files (lit< tt) (omega (arith, h.files)) i;
}

pub plan-back : (p : Plan) → TamePlan p → plan_in (plan_numbers p) ≡ p
plan-back p h = λ i. record {
  walk = walk-back p.walk i;
  span = record { after = twice p.span.after h.after i; upto = twice p.span.upto h.upto i };
  update = update-back p.update h.update i;
  splice = record {
    from = twice p.splice.from h.from i;
    gone = twice p.splice.gone h.gone i;
    source = source-back p.splice.source h.source i;
  };
  came = twice p.came h.came i;
  count = twice p.count h.count i;
  current = twice p.current h.current i;
  rows = rows_back p.rows h.rows i;
}

pub job-back : (j : Job) → TameJob j → job_in (job_numbers j) ≡ j
job-back j h = λ i. record {
  plan = plan-back j.plan h.plan i;
  name = below 65 j.name (lit< tt) (omega (arith, h.name)) i;
  size = twice j.size h.size i;
  lines = lines-back j.lines i;
  text = below 65537 j.text (lit< tt) (omega (arith, h.text)) i;
}

pub walking-back : (w : Walking) → TameWalking w → walking_in (walking_numbers w) ≡ w
walking-back w h = λ i. record {
  line = twice w.line h.line i;
  part = twice w.part h.part i;
  went = twice w.went h.went i;
  bytes = below 65537 w.bytes (lit< tt) (omega (arith, h.bytes)) i;
}

pub putting-back : (p : Putting) → TamePutting p → putting_in (putting_numbers p) ≡ p
putting-back p h = λ i. record {
  second = flag-back p.second i;
  more = flag-back p.more i;
  at = below 65537 p.at (lit< tt) (omega (arith, h.at)) i;
  part = twice p.part h.part i;
}

pub carrying-back : (c : Carrying) → TameCarrying c → carrying_in (carrying_numbers c) ≡ c
carrying-back c h = λ i. record {
  index = twice c.index h.index i;
  part = twice c.part h.part i;
  long = twice c.long h.long i;
  start = twice c.start h.start i;
  quota = twice c.quota h.quota i;
  waking = flag-back c.waking i;
}

-- what is stored is loaded
pub load_store : (r : Registers) (m : List ℕ) → Tame r → loaded (stored r m) ≡ r
unfolding loaded stored
load_store r m t = λ i. record {
  phase = phase-back r.phase i;
  tapes = tapes-back r.tapes t.tapes i;
  kept = kept_back r.kept t.kept i;
  job = job-back r.job t.job i;
  walking = walking-back r.walking t.walking i;
  putting = putting-back r.putting t.putting i;
  carrying = carrying-back r.carrying t.carrying i;
}

-- what is behind the registers is as it was
pub behind_stored : (r : Registers) (m : List ℕ) (n : ℕ) → 48 ≤ n → drop n (stored r m) ≡ drop n m
unfolding stored
behind_stored r m n h =
    let k : 48 + (n - 48) ≡ n = omega arith in
    ap (λ j. drop j (numbers r ++ drop 48 m)) (sym k) ∙ sym (drop-drop (n - 48) 48 (numbers r ++ drop 48 m)) ∙ drop-drop (n - 48) 48 m ∙ ap (λ j. drop j m) k

-- WHAT IS LOADED
by_test : {A : Type 0} (P : A → Type 0) (b : Bool) (x y : A) → P x → P y → P (pick b x y)
by_test P true x y h k = h
by_test P false x y h k = k

tame_update : (k n : ℕ) → TameUpdate (update_of k n)
tame_update k n =
    by_test TameUpdate (eqb k 1) update.Current _ tt (by_test TameUpdate (eqb k 2) update.Text _ tt (by_test TameUpdate (eqb k 3) (update.File (capped n)) update.Nothing (omega arith) tt))

tame_rows : (k n : ℕ) → TameRows (rows_of k n)
tame_rows k n = by_test TameRows (eqb k 1) (rows.Number (capped n)) _ (omega arith) (by_test TameRows (eqb k 2) rows.Files rows.Nothing tt tt)

tame_source : (k a b : ℕ) → TameSource (source_by k a b)
tame_source k a b = by_test TameSource (eqb k 1) source.New _ tt (by_test TameSource (eqb k 2) (source.Copied (capped a) (capped b)) source.Nothing (omega arith, omega arith) tt)

tame_plan : (s : List ℕ) → TamePlan (plan_in s)
tame_plan s = record {
  after = omega arith;
  upto = omega arith;
  update = tame_update (get_or s 3 0) (get_or s 4 0);
  from = omega arith;
  gone = omega arith;
  source = tame_source (get_or s 7 0) (get_or s 8 0) (get_or s 9 0);
  came = omega arith;
  count = omega arith;
  current = omega arith;
  rows = tame_rows (get_or s 13 0) (get_or s 14 0);
}

pub tame_loaded : (m : List ℕ) → Tame (loaded m)
unfolding loaded
tame_loaded m = record {
  tapes = omega arith;
  kept = omega arith;
  job = record { plan = tame_plan (part 4 15 (part 15 19 m)); name = omega arith; size = omega arith; text = omega arith };
  walking = omega arith;
  putting = omega arith;
  carrying = omega arith;
}
