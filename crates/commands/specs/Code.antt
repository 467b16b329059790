-- Which value of the definitions each type of the code stands for. Assumes nothing.
use Rattle.std.specs.Prelude.{ℕ, suc, ◌<◌, ◌≤◌, Bool, true, false, length, Some, None, Ok, Err, Option, Result}
use Rattle.plain.specs.House.{short_all}
use Rattle.typed.specs.declared.given.Lines.{Lines}
use Rattle.typed.specs.Meaning.{lines_in}
use Rattle.commands.specs.declared.refusal.Refusal.{Refusal}
use Rattle.commands.specs.declared.refusal.Refusal.TheVariants.{Unreadable, Unknown, NoFile, NoLine, TooLarge, NoRoom}
use Rattle.commands.specs.declared.bounds.Bounds as code_bounds
use Rattle.commands.specs.declared.plan.Walk as code_walk
use Rattle.commands.specs.declared.plan.Walk.TheVariants as walks
use Rattle.commands.specs.declared.plan.Update as code_update
use Rattle.commands.specs.declared.plan.Update.TheVariants as updates
use Rattle.commands.specs.declared.plan.Rows as code_rows
use Rattle.commands.specs.declared.plan.Rows.TheVariants as rows
use Rattle.commands.specs.declared.plan.Span as code_span
use Rattle.commands.specs.declared.plan.Sizes as code_sizes
use Rattle.commands.specs.declared.plan.Slot as code_slot
use Rattle.commands.specs.declared.plan.Plan as code_plan
use Rattle.journal.specs.Values.{splice_of}
use Rattle.commands.specs.Resolve as resolve
use Rattle.commands.specs.Resolve.{Checked, good, refused}
use Rattle.commands.specs.Plan as plan

-- the number that is said
abbrev pub refusal_number : Refusal → ℕ
refusal_number Unreadable = 1
refusal_number Unknown = 2
refusal_number NoFile = 3
refusal_number NoLine = 4
refusal_number TooLarge = 7
refusal_number NoRoom = 8

abbrev pub checked_by : {A B : Type 0} → (A → B) → Result A Refusal → Checked B
checked_by f (Ok a) = good (f a)
checked_by f (Err e) = refused (refusal_number e)

-- a value if a test holds
abbrev pub when : {A : Type 0} → Bool → A → Option A
when true a = Some a
when false a = None

abbrev pub bounds_as : code_bounds.Bounds → resolve.Bounds
bounds_as b = resolve.bounds b.first b.last

abbrev pub walk_as : code_walk.Walk → plan.Walk
walk_as walks.Skip = plan.skip
walk_as walks.Show = plan.show
walk_as walks.ShowNumbered = plan.show_numbered
walk_as walks.Measure = plan.measure
walk_as walks.Join = plan.glue

abbrev pub update_as : code_update.Update → plan.Update
update_as updates.Nothing = plan.same_as_before
update_as updates.Current = plan.current_only
update_as updates.Text = plan.the_text
update_as (updates.File i) = plan.the_file i

abbrev pub rows_as : code_rows.Rows → plan.Rows
rows_as rows.Nothing = plan.no_row
rows_as (rows.Number n) = plan.a_number n
rows_as rows.Files = plan.all_files

abbrev pub sizes_as : code_sizes.Sizes → plan.Sizes
sizes_as s = plan.sizes s.count s.current s.offset

abbrev pub slot_as : code_slot.Slot → plan.Slot
slot_as f = plan.slot_of f.found f.place f.before f.lines f.size

abbrev pub given_in : Lines → plan.Given
given_in ls = plan.given_size (length (lines_in ls)) (short_all (lines_in ls))

abbrev pub plan_as : code_plan.Plan → plan.Plan
plan_as p =
    record {
      walk = walk_as p.walk;
      after = p.span.after;
      upto = p.span.upto;
      update = update_as p.update;
      splice = splice_of p.splice;
      came = p.came;
      count = p.count;
      current = p.current;
      rows = rows_as p.rows;
    }

-- numbers of 32 bits, and sums of the lines of 64 files, so that no sum of them is too large
pub record SizesFit (s : code_sizes.Sizes) : Type 0 where
  pub count : s.count < 4294967296
  pub current : s.current < 4294967296
  pub offset : s.offset ≤ 274877906944

pub record SlotFits (f : code_slot.Slot) : Type 0 where
  pub before : f.before ≤ 274877906944
  pub lines : f.lines < 4294967296

pub record SpanFits (count : ℕ) (s : code_span.Span) : Type 0 where
  pub below : s.after ≤ s.upto
  pub there : s.upto ≤ count

pub record BoundsThere (count : ℕ) (b : code_bounds.Bounds) : Type 0 where
  pub one : 1 ≤ b.first
  pub order : b.first ≤ b.last
  pub within : b.last ≤ count

-- of a range that was found: the first is at most one more than the last
abbrev pub RangeOrdered : Result code_bounds.Bounds Refusal → Type 0
RangeOrdered (Ok b) = b.first ≤ suc b.last
RangeOrdered (Err e) = Unit {0}
