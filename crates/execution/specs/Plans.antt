-- Plans and lines given, as the registers and the memory have them. Assumes nothing: these are definitions.
use Rattle.std.specs.Prelude.{ℕ, List, [], ◌∷◌, ◌++◌}
use Rattle.plain.specs.Pattern.{pick, none_of}
use Rattle.journal.specs.Log as log
use Rattle.commands.specs.Plan as plan
use Rattle.commands.specs.declared.plan.Walk.{Walk}
use Rattle.commands.specs.declared.plan.Walk.TheVariants as walk
use Rattle.commands.specs.declared.plan.Update.{Update}
use Rattle.commands.specs.declared.plan.Update.TheVariants as update
use Rattle.commands.specs.declared.plan.Rows.{Rows}
use Rattle.commands.specs.declared.plan.Rows.TheVariants as rows
use Rattle.journal.specs.declared.commit.Source.{Source}
use Rattle.journal.specs.declared.commit.Source.TheVariants as source
use Rattle.commands.specs.declared.plan.Plan.{Plan}
use Rattle.memory.specs.declared.job.Lines.{Lines}
use Rattle.memory.specs.declared.job.Lines.TheVariants as lines

abbrev pub walk_code : plan.Walk → Walk
walk_code plan.skip = walk.Skip
walk_code plan.show = walk.Show
walk_code plan.show_numbered = walk.ShowNumbered
walk_code plan.measure = walk.Measure
walk_code plan.glue = walk.Join

abbrev pub update_code : plan.Update → Update
update_code plan.same_as_before = update.Nothing
update_code plan.current_only = update.Current
update_code plan.the_text = update.Text
update_code (plan.the_file i) = update.File i

abbrev pub rows_code : plan.Rows → Rows
rows_code plan.no_row = rows.Nothing
rows_code (plan.a_number n) = rows.Number n
rows_code plan.all_files = rows.Files

abbrev pub source_code : log.Source → Source ℕ
source_code log.no_entries = source.Nothing
source_code log.new_entries = source.New
source_code (log.copied a b) = source.Copied a b

-- the plan of the code for one of the definitions
abbrev pub plan_code : plan.Plan → Plan
plan_code p =
    record {
      walk = walk_code p.walk;
      span = record { after = p.after; upto = p.upto };
      update = update_code p.update;
      splice = record { from = p.splice.from; gone = p.splice.gone; source = source_code p.splice.source };
      came = p.came;
      count = p.count;
      current = p.current;
      rows = rows_code p.rows;
    }

-- LINES GIVEN, as they were typed: a byte 10 between two
abbrev pub with_newlines : List (List ℕ) → List ℕ
with_newlines [] = []
with_newlines (l ∷ []) = l
with_newlines (l ∷ k ∷ ls) = l ++ 10 ∷ with_newlines (k ∷ ls)

abbrev pub lines_kind : List (List ℕ) → Lines
lines_kind ls = pick (none_of ls) lines.Nothing lines.Given
