-- Sums about plans: slots, lists of lines, and the weight of a ring with one more. Assumes nothing.
use Rattle.std.proofs.Common.{◌≡◌, ℕ, suc, ◌+◌, ◌-◌, ◌*◌, ◌≤◌, Bool, true, false, not, ◌&&◌, ltb, leb, ◌⊎◌, List, [], ◌∷◌, ◌++◌, length, take, drop, sym, refl, ap, ◌∙◌, arith}
use Rattle.std.proofs.lemmas.List.{take-append-drop}
use Rattle.plain.proofs.Basics.{added_append}
use Rattle.std.proofs.lemmas.Bool.{and_parts, and_from, le-leb, leb-true}
use Rattle.plain.specs.Pattern.{pick, or}
use Rattle.plain.specs.Command.{Deed}
use Rattle.plain.specs.House.{File, short_all}
use Rattle.plain.specs.Promise.{goes_through}
use Rattle.journal.specs.Log.{copied}
use Rattle.journal.specs.Small.{pushed}
use Rattle.commands.specs.Kept.{Kept, kept, kept_weight, line_size, lines_size, sum, file_lines, directory, stand_size}
use Rattle.commands.specs.Resolve.{Checked, good, refused, then, check, Bounds, there}
use Rattle.commands.specs.Plan.{Plan, Walk, skip, show, show_numbered, measure, glue, same_as_before}
use Rattle.commands.specs.Turn as turn
use Rattle.commands.specs.Turn.{lines_given, name_given, slot_in, walked, new_lines_of, lines_that_come, kept_after}
use Rattle.commands.specs.Smalls.{smalls_of}
use Rattle.commands.specs.Held.{span_of}
use Rattle.commands.proofs.Resolved.{Ordered}
use Rattle.commands.proofs.Planned.{lines-weigh}
use Rattle.records.specs.Pages.{source_beside}
use Rattle.engine.specs.Fits.{PlanFits}
use Rattle.engine.specs.Packing.{lines_records}
use Rattle.engine.specs.Machine.{came_weight, quota_by, no_limit, walks, went_at_once}
use Rattle.engine.proofs.Courses.{unlimited}
use Rattle.engine.proofs.Shares.{files-weigh}
use Rattle.engine.proofs.Shares as shares
use Rattle.engine.proofs.Splices.{OnlyNew}

abbrev pub size_of : Plan → ℕ
size_of p = suc ((p.upto - p.after) + p.came)

-- at most so many records: three for each line walked over, what carrying may take, and what is put on, twice
abbrev pub cost : Plan → List (List ℕ) → ℕ
cost p new = 3 * (p.upto - p.after) + (130 + 6 * quota_by p.splice.source (size_of p) + 2 * suc (lines_records new))

-- how many lines are shown
abbrev pub shown_by : Walk → ℕ → ℕ
shown_by skip n = 0
shown_by show n = n
shown_by show_numbered n = n
shown_by measure n = 0
shown_by glue n = 0

abbrev pub shows-lines : Walk → Bool
shows-lines skip = false
shows-lines show = true
shows-lines show_numbered = true
shows-lines measure = false
shows-lines glue = false

abbrev pub limit : Checked Bounds → Deed → Plan → ℕ
limit r d p = pick (not (goes_through d)) (256 + 256 * (span_of r + length (lines_given d) + shown_by p.walk (p.upto - p.after))) unlimited

-- where the entries that come are from
pub data Sourced (p : Plan) (new : List (List ℕ)) : Type 0 where
  of_new : OnlyNew p.splice.source new → quota_by p.splice.source (size_of p) ≡ 16 * size_of p → suc (3 * p.splice.gone) ≤ 3 * size_of p → Sourced p new
  of_copies : quota_by p.splice.source (size_of p) ≡ no_limit → Sourced p new

pub record JobPlan (k : Kept) (r : Checked Bounds) (d : Deed) (p : Plan) : Type 0 where
  pub fits : PlanFits p
  pub source : Sourced p (new_lines_of k p (lines_given d))
  pub few : length (new_lines_of k p (lines_given d)) ≤ p.came
  pub came : came_weight p.splice.source p.update (new_lines_of k p (lines_given d)) (lines_size (walked k p)) (slot_in k (name_given d)).size ≡ lines_size (lines_that_come k p (lines_given d))
  pub room : (64 * (lines_records (directory k) + lines_records (new_lines_of k p (lines_given d))) ≤ kept_weight (kept_after k p d)) ⊎ (new_lines_of k p (lines_given d) ≡ [])
  pub grant : cost p (new_lines_of k p (lines_given d)) ≤ limit r d p
  pub went : walks p.walk ≡ false → went_at_once p (smalls_of k) ≡ lines_size (walked k p)
  pub light : shows-lines p.walk ≡ true → kept_weight (kept_after k p d) ≡ kept_weight k
  pub rows : (p.update ≡ same_as_before) ⊎ ((fs gs : List File) → turn.more_rows p.rows fs ≡ turn.more_rows p.rows gs)
  pub still : p.update ≡ same_as_before → (p.walk ≡ skip) × (kept_after k p d ≡ k)
  pub short : short_all (lines_given d) ≡ true

abbrev pub AllJobs : Kept → Checked Bounds → Deed → Checked Plan → Type 0
AllJobs k r d (good p) = JobPlan k r d p
AllJobs k r d (refused n) = Unit {0}

-- copies of entries behind those that go, and before them
pub or_right : (a b : Bool) → b ≡ true → or a b ≡ true
or_right true b h = refl
or_right false b h = h

pub beside_behind : (x y p q : ℕ) → x ≤ y → p + q ≤ x → source_beside p q (copied x y) ≡ true
beside_behind x y p q h l = and_from _ _ (le-leb x y h) (or_right (leb y p) (leb (p + q) x) (le-leb (p + q) x l))

pub beside_before : (x y p q : ℕ) → x ≤ y → y ≤ p → source_beside p q (copied x y) ≡ true
beside_before x y p q h l = and_from _ _ (le-leb x y h) (ap (λ b. or b (leb (p + q) x)) (le-leb y p l))

-- A LIST of at most so many lines
pub check_jobs : (k : Kept) (r : Checked Bounds) (d : Deed) (t : Bool) (n : ℕ) (x : Checked Plan) → (t ≡ true → AllJobs k r d x) → AllJobs k r d (check t n x)
check_jobs k r d true n x h = h refl
check_jobs k r d false n x h = tt

pub then_jobs : (k : Kept) (d : Deed) (r : Checked Bounds) (f : Bounds → Checked Plan) → Ordered r → ((b : Bounds) → Ordered (good b) → AllJobs k (good b) d (f b)) → AllJobs k r d (then r f)
then_jobs k d (good b) f o h = h b o
then_jobs k d (refused n) f o h = tt

pub record Spans (count : ℕ) (b : Bounds) : Type 0 where
  pub one : 1 ≤ b.first
  pub order : b.first ≤ b.last
  pub there : b.last ≤ count

pub spans : (count : ℕ) (b : Bounds) → there count b ≡ true → Spans count b
spans count b e =
    let p = and_parts (leb 1 b.first && leb b.first b.last) (leb b.last count) e in
    let q = and_parts (leb 1 b.first) (leb b.first b.last) p.0 in
    record { one = leb-true _ _ q.0; order = leb-true _ _ q.1; there = leb-true _ _ p.1 }

-- THE WEIGHT of a ring with one more
pub sum_more : (xs : List ℕ) (n : ℕ) → n ≤ sum (xs ++ n ∷ [])
sum_more [] n = omega arith
sum_more (x ∷ xs) n = let a = sum_more xs n in omega arith

pub pushed_weighs : (r : List ℕ) (n : ℕ) → n ≤ sum (pushed r n)
pushed_weighs r n = go (ltb (length r) 64)
  where
    go : (b : Bool) → n ≤ sum (pick b (r ++ n ∷ []) (drop 1 r ++ n ∷ []))
    go true = sum_more r n
    go false = sum_more (drop 1 r) n

pub part_weighs : (a n : ℕ) (T : List (List ℕ)) → lines_size (take n (drop a T)) ≤ lines_size T
part_weighs a n T =
    let e : lines_size T ≡ lines_size (take a T) + lines_size (drop a T) = ap lines_size (sym (take-append-drop a T)) ∙ added_append line_size (take a T) (drop a T) in
    let f : lines_size (drop a T) ≡ lines_size (take n (drop a T)) + lines_size (drop n (drop a T)) = ap lines_size (sym (take-append-drop n (drop a T))) ∙ added_append line_size (take n (drop a T)) (drop n (drop a T)) in
    omega (arith, e, f)

-- lines of a text replaced: all that was there is still counted, and what came
pub text_weighs : (k : Kept) (a b came at : ℕ) (C : List (List ℕ)) → a ≤ b →
    64 * (lines_records (directory k) + lines_records C)
    ≤ kept_weight (kept (turn.with_lines a b C k.text) at k.files (pushed k.ring (stand_size (length k.text) a b (lines_size (take (b - a) (drop a k.text))) came)))
text_weighs k a b came at C h =
    let T = k.text in
    let st = stand_size (length T) a b (lines_size (take (b - a) (drop a T))) came in
    let w = lines-weigh T C a b h in
    let m = part_weighs a (b - a) T in
    let p = pushed_weighs k.ring st in
    let c = shares.lines-weigh C in
    let f = files-weigh k.files in
    let l = shares.lines-weigh T in
    let e = shares.lines_records-append (file_lines k.files) T in
    omega (arith, w, m, p, c, f, l, e)
