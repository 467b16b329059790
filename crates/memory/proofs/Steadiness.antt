-- What keeps a memory's length, and its numbers below 2^64, for every memory. Assumes nothing.
use Rattle.std.proofs.Common.{◌≡◌, ℕ, zero, suc, ◌+◌, ◌^◌, ◌<◌, ◌≤◌, Bool, true, false, ltb, List, [], ◌∷◌, ◌++◌, map, length, take, drop, set, refl, ◌∙◌, arith}
use Rattle.std.proofs.lemmas.Bool.{and_from, and_parts, lt-ltb}
use Rattle.std.proofs.lemmas.List.{length-set, length-take, length-drop, length-append}
use Rattle.plain.specs.Pattern.{pick}
use Rattle.plain.specs.Run.{all_small}
use Rattle.commands.specs.declared.plan.Plan.{Plan}
use Rattle.commands.specs.declared.plan.Walk.{Walk}
use Rattle.commands.specs.declared.plan.Walk.TheVariants as walk
use Rattle.commands.specs.declared.plan.Update.{Update}
use Rattle.commands.specs.declared.plan.Update.TheVariants as update
use Rattle.commands.specs.declared.plan.Rows.{Rows}
use Rattle.commands.specs.declared.plan.Rows.TheVariants as rows
use Rattle.journal.specs.declared.commit.Source.{Source}
use Rattle.journal.specs.declared.commit.Source.TheVariants as source
use Rattle.memory.specs.declared.phase.Phase.{Phase}
use Rattle.memory.specs.declared.phase.Phase.TheVariants.{Idle, WakeFirst, WakeSecond, Replaying, FreshBegun, FreshHead, FreshFast, CompactBegun, SettingUp, CarryRead, CarryPut, CompactFast, Switched, Fetching, RowShown, LinePut, CommitPut, CommitFast, CountShown, FileShown}
use Rattle.memory.specs.declared.job.Lines.{Lines}
use Rattle.memory.specs.declared.job.Lines.TheVariants as lines
use Rattle.memory.specs.declared.tapes.Tapes.{Tapes}
use Rattle.memory.specs.declared.kept.Kept as numbers_kept
use Rattle.memory.specs.declared.job.Job.{Job}
use Rattle.memory.specs.declared.walking.Walking.{Walking}
use Rattle.memory.specs.declared.walking.Putting.{Putting}
use Rattle.memory.specs.declared.carrying.Carrying.{Carrying}
use Rattle.memory.specs.declared.registers.Registers.{Registers}
use Rattle.memory.specs.Numbers.{capped, flag, phase_number, walk_number, update_kind, update_place, rows_kind, rows_value, source_kind, source_from, source_to, lines_number}
use Rattle.memory.specs.Registers.{part, with_part, tapes_numbers, kept_numbers, plan_numbers, job_numbers, walking_numbers, putting_numbers, carrying_numbers, numbers, stored}

abbrev pub small-number : ℕ → Bool
small-number x = ltb x 18446744073709551616

pub small-append : (xs ys : List ℕ) → all_small xs ≡ true → all_small ys ≡ true → all_small (xs ++ ys) ≡ true
unfolding all_small
small-append [] ys h k = k
small-append (x ∷ xs) ys h k = let a = and_parts (small-number x) (all_small xs) h in and_from _ _ a.0 (small-append xs ys a.1 k)

pub small-take : (n : ℕ) (xs : List ℕ) → all_small xs ≡ true → all_small (take n xs) ≡ true
unfolding all_small
small-take zero xs h = refl
small-take (suc n) [] h = refl
small-take (suc n) (x ∷ xs) h = let a = and_parts (small-number x) (all_small xs) h in and_from _ _ a.0 (small-take n xs a.1)

pub small-drop : (n : ℕ) (xs : List ℕ) → all_small xs ≡ true → all_small (drop n xs) ≡ true
unfolding all_small
small-drop zero xs h = h
small-drop (suc n) [] h = refl
small-drop (suc n) (x ∷ xs) h = small-drop n xs (and_parts (small-number x) (all_small xs) h).1

pub small-set : (xs : List ℕ) (i v : ℕ) → v < 2 ^ 64 → all_small xs ≡ true → all_small (set xs i v) ≡ true
unfolding all_small
small-set [] i v k h = refl
small-set (x ∷ xs) zero v k h = and_from _ _ (lt-ltb v 18446744073709551616 k) (and_parts (small-number x) (all_small xs) h).1
small-set (x ∷ xs) (suc i) v k h = let a = and_parts (small-number x) (all_small xs) h in and_from _ _ a.0 (small-set xs i v k a.1)

pub small-map : (f : ℕ → ℕ) → ((x : ℕ) → f x < 2 ^ 64) → (xs : List ℕ) → all_small (map f xs) ≡ true
unfolding all_small
small-map f k [] = refl
small-map f k (x ∷ xs) = and_from _ _ (lt-ltb (f x) 18446744073709551616 (k x)) (small-map f k xs)

-- one number before others
pub small-more : (x : ℕ) (xs : List ℕ) → x < 2 ^ 64 → all_small xs ≡ true → all_small (x ∷ xs) ≡ true
unfolding all_small
small-more x xs h k = and_from _ _ (lt-ltb x 18446744073709551616 h) k

-- from one list to another: the length is kept, and smallness is
pub record Kept (m m₁ : List ℕ) : Type 0 where
  pub long : length m₁ ≡ length m
  pub small : all_small m ≡ true → all_small m₁ ≡ true

pub kept_same : (m : List ℕ) → Kept m m
kept_same m = record { long = refl; small = λ h. h }

pub kept_then : {a b c : List ℕ} → Kept a b → Kept b c → Kept a c
kept_then h k = record { long = k.long ∙ h.long; small = λ s. k.small (h.small s) }

pub kept_pick : (b : Bool) (m x y : List ℕ) → Kept m x → Kept m y → Kept m (pick b x y)
kept_pick true m x y h k = h
kept_pick false m x y h k = k

pub kept_set : (m : List ℕ) (i v : ℕ) → v < 2 ^ 64 → Kept m (set m i v)
kept_set m i v h = record { long = length-set m i v; small = small-set m i v h }

pub kept-part : (a k : ℕ) (m ys : List ℕ) → a + k ≤ length m → Kept (part a k m) ys → Kept m (with_part a k m ys)
kept-part a k m ys h q =
    record {
      long = let l : length ys ≡ k = q.long ∙ simp (length-take, length-drop) (omega arith) in simp (length-append, length-take, length-drop) (omega arith);
      small = λ s. let d = small-drop a m s in
          small-append _ _ (small-take a m s) (small-append _ _ (q.small (small-take k (drop a m) d)) (small-drop k (drop a m) d));
    }

-- the registers keep it whatever they hold, since each is stored in 32 bits
phase-small : (p : Phase) → phase_number p < 4294967296
phase-small Idle = omega arith
phase-small WakeFirst = omega arith
phase-small WakeSecond = omega arith
phase-small Replaying = omega arith
phase-small FreshBegun = omega arith
phase-small FreshHead = omega arith
phase-small FreshFast = omega arith
phase-small CompactBegun = omega arith
phase-small SettingUp = omega arith
phase-small CarryRead = omega arith
phase-small CarryPut = omega arith
phase-small CompactFast = omega arith
phase-small Switched = omega arith
phase-small Fetching = omega arith
phase-small RowShown = omega arith
phase-small LinePut = omega arith
phase-small CommitPut = omega arith
phase-small CommitFast = omega arith
phase-small CountShown = omega arith
phase-small FileShown = omega arith

walk-small : (w : Walk) → walk_number w < 4294967296
walk-small walk.Skip = omega arith
walk-small walk.Show = omega arith
walk-small walk.ShowNumbered = omega arith
walk-small walk.Measure = omega arith
walk-small walk.Join = omega arith

pub record Both (a b : ℕ) : Type 0 where
  pub first : a < 4294967296
  pub second : b < 4294967296

update-small : (u : Update) → Both (update_kind u) (update_place u)
update-small update.Nothing = omega arith
update-small update.Current = omega arith
update-small update.Text = omega arith
update-small (update.File n) = omega arith

rows-small : (r : Rows) → Both (rows_kind r) (rows_value r)
rows-small rows.Nothing = omega arith
rows-small (rows.Number n) = omega arith
rows-small rows.Files = omega arith

source-small : (s : Source ℕ) → (source_kind s < 4294967296) × (source_from s < 4294967296) × (source_to s < 4294967296)
source-small source.Nothing = omega arith
source-small source.New = omega arith
source-small (source.Copied a b) = omega arith

lines-small : (l : Lines) → lines_number l < 4294967296
lines-small lines.Nothing = omega arith
lines-small lines.Given = omega arith
lines-small lines.Joined = omega arith

flag_small : (b : Bool) → flag b < 4294967296
flag_small true = omega arith
flag_small false = omega arith

-- every number stored
data Words : List ℕ → Type 0 where
  end : Words []
  next : {n : ℕ} {ns : List ℕ} → n < 4294967296 → Words ns → Words (n ∷ ns)

words_small : {ns : List ℕ} → Words ns → all_small ns ≡ true
unfolding all_small
words_small end = refl
words_small (next {n} h w) = and_from _ _ (lt-ltb n 18446744073709551616 (omega arith)) (words_small w)

capped_small : (n : ℕ) → capped n < 4294967296
capped_small n = omega arith

tapes-small : (t : Tapes) {ns : List ℕ} → Words ns → Words (tapes_numbers t ++ ns)
tapes-small t w =
    next (capped_small t.room) (next (capped_small t.active) (next (capped_small t.generation) (next (capped_small t.used)
    (next (flag_small t.busy) (next (capped_small t.other) (next (capped_small t.cursor) w))))))

kept_small : (k : numbers_kept.Kept) {ns : List ℕ} → Words ns → Words (kept_numbers k ++ ns)
kept_small k w =
    next (capped_small k.entries) (next (capped_small k.pending) (next (capped_small k.count) (next (capped_small k.current)
    (next (capped_small k.weight) (next (capped_small k.ring) (next (capped_small k.files) w))))))

plan-small : (p : Plan) {ns : List ℕ} → Words ns → Words (plan_numbers p ++ ns)
plan-small p w =
    next (walk-small p.walk) (next (capped_small p.span.after) (next (capped_small p.span.upto)
    (next (update-small p.update).first (next (update-small p.update).second (next (capped_small p.splice.from) (next (capped_small p.splice.gone)
    (next (source-small p.splice.source).0 (next (source-small p.splice.source).1 (next (source-small p.splice.source).2
    (next (capped_small p.came) (next (capped_small p.count) (next (capped_small p.current)
    (next (rows-small p.rows).first (next (rows-small p.rows).second w))))))))))))))

job-small : (j : Job) {ns : List ℕ} → Words ns → Words (job_numbers j ++ ns)
job-small j w =
    next (capped_small j.name) (next (capped_small j.size) (next (lines-small j.lines) (next (capped_small j.text) (plan-small j.plan w))))

walking-small : (k : Walking) {ns : List ℕ} → Words ns → Words (walking_numbers k ++ ns)
walking-small k w = next (capped_small k.line) (next (capped_small k.part) (next (capped_small k.went) (next (capped_small k.bytes) w)))

putting-small : (p : Putting) {ns : List ℕ} → Words ns → Words (putting_numbers p ++ ns)
putting-small p w = next (flag_small p.second) (next (flag_small p.more) (next (capped_small p.at) (next (capped_small p.part) w)))

carrying-small : (c : Carrying) → Words (carrying_numbers c)
carrying-small c =
    next (capped_small c.index) (next (capped_small c.part) (next (capped_small c.long) (next (capped_small c.start)
    (next (capped_small c.quota) (next (flag_small c.waking) end)))))

pub small-numbers : (r : Registers) → all_small (numbers r) ≡ true
small-numbers r =
    words_small (next (phase-small r.phase) (tapes-small r.tapes (kept_small r.kept (job-small r.job (walking-small r.walking
    (putting-small r.putting (carrying-small r.carrying)))))))

pub kept-stored : (r : Registers) (m : List ℕ) → 48 ≤ length m → Kept m (stored r m)
unfolding stored
kept-stored r m h =
    record { long = simp length-drop (omega arith); small = λ s. small-append (numbers r) (drop 48 m) (small-numbers r) (small-drop 48 m s) }
