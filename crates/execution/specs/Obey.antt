-- A command that was typed: what is decided about it, and how it begins. Assumes nothing: these are definitions.
use Rattle.std.specs.Prelude.{ℕ, false, List, [], ◌∷◌, length, nat_le}
use Rattle.plain.specs.Pattern.{pick}
use Rattle.plain.specs.Command.{Simple, Command, plain, all_lines, reads}
use Rattle.commands.specs.Resolve.{Checked, good, refused}
use Rattle.commands.specs.Plan.{Plan}
use Rattle.commands.specs.Turn.{lines_given, name_given}
use Rattle.commands.specs.declared.plan.Update.{Update}
use Rattle.commands.specs.declared.plan.Update.TheVariants.{Nothing, Current, Text, File}
use Rattle.engine.specs.Machine as machine
use Rattle.memory.specs.declared.registers.Registers.{Registers}
use Rattle.memory.specs.Abstract.{small_of, house_of}
use Rattle.memory.specs.Sections.{extended, name_kept}
use Rattle.commits.specs.Acts.{Made}
use Rattle.commits.specs.Setters.{job, walking, putting, with_job, with_walking, with_putting}
use Rattle.commits.specs.Rows.{refuses, finish}
use Rattle.execution.specs.Plans.{plan_code, update_code, with_newlines, lines_kind}
use Rattle.execution.specs.Walk.{walk_on}

-- so many of them, or none where there are too many
abbrev pub few_of : ℕ → ℕ → ℕ
few_of most n = pick (nat_le n most) n 0

abbrev pub typed_text : Simple → List ℕ
typed_text c = with_newlines (lines_given c.deed)

abbrev pub begun : Simple → ℕ → Plan → Registers → List ℕ → Registers
begun c size p r m =
    with_job (job (plan_code p) (few_of 64 (length (name_given c.deed))) size (lines_kind (lines_given c.deed)) (few_of 65536 (length (typed_text c))))
    (with_walking (walking p.after 0 (machine.went_at_once p (small_of r.kept m)) 0) (with_putting (putting false false 0 0) r))

abbrev pub begun_memory : Simple → List ℕ → List ℕ
begun_memory c m = name_kept (name_given c.deed) (extended 0 (typed_text c) m)

unfoldable pub do_plan : Update → Registers → List ℕ → Made
do_plan Nothing r m = finish r m
do_plan Current r m = walk_on r m
do_plan Text r m = walk_on r m
do_plan (File i) r m = walk_on r m

abbrev pub by_decision : Simple → Checked Plan → Registers → List ℕ → Made
by_decision c (good p) r m = do_plan (update_code p.update) (begun c (machine.slot_for (house_of r m) c).size p r m) (begun_memory c m)
by_decision c (refused k) r m = refuses k r m

unfoldable pub command : Simple → Registers → List ℕ → Made
command c r m = by_decision c (machine.decision (house_of r m) c) r m

abbrev pub obey_one : List Command → Registers → List ℕ → Made
obey_one [] r m = refuses 1 r m
obey_one (plain c ∷ cs) r m = command c r m
obey_one (all_lines s like p c ∷ cs) r m = refuses 2 r m

unfoldable pub obey : List ℕ → Registers → List ℕ → Made
obey text r m = obey_one (reads text) r m
