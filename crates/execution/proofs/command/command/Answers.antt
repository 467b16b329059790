use Rattle.std.proofs.Common.{◌≡◌, sym, ap, ◌∙◌, subst}
use Rattle.typed.specs.Meaning.{simple_of}
use Rattle.commands.specs.Code.{slot_as, plan_as, refusal_number}
use Rattle.commands.specs.Plan.{look_up}
use Rattle.commands.specs.Resolve.{good, refused}
use Rattle.commands.specs.Turn.{given_of}
use Rattle.memory.specs.Abstract.{files_of}
use Rattle.commits.specs.Bounds.{Loose}
use Rattle.commits.specs.Rows.{refuses}
use Rattle.execution.specs.Obey.{begun, begun_memory, do_plan}
use Rattle.execution.specs.Plans.{update_code}
use Rattle.execution.proofs.Told.{says_by}
use Rattle.execution.proofs.Fitting.{found_within, GoodWide, decided_wide}
use Rattle.execution.proofs.Obeyed.{begun-loose, command_by, slot-size}
use Rattle.execution.proofs.command.command.Goals as goal

pub plan_command-requires : goal.plan_command-requires
plan_command-requires c =
    let r = c.args.registers.now in
    let m = c.args.memory.now in
    let f = found_within c.name_given.result.now r.kept.files m (slot_as c.find_file-slot.result) c.file_lines.result c.find_file-slot.ensures
    c.file_lines.ensures.total c.file_lines.ensures.few c.requires.1.1.0.kept.files in (
    record {
      sizes_fit = record { count = c.requires.1.1.0.kept.count; current = c.requires.1.1.0.kept.current; offset = c.file_lines.ensures.few };
      slot_fits = record { before = f.before; lines = f.lines };
      deed_len_bound = c.requires.1.1.1;
    }
    )

pub do_plan-requires : goal.do_plan-requires
do_plan-requires c =
    let r = c.args.registers.now in
    let m = c.args.memory.now in
    let t = c.requires.1.1.0 in
    let s = simple_of c.args.simple in
    let f = found_within c.name_given.result.now r.kept.files m (slot_as c.find_file-slot.result) c.file_lines.result c.find_file-slot.ensures
    c.file_lines.ensures.total c.file_lines.ensures.few t.kept.files in
    let w : GoodWide (good (plan_as c.in-Ok.plan)) =
    subst GoodWide (sym c.in-Ok.ensures) (decided_wide _ (slot_as c.find_file-slot.result) (given_of s.deed) t.kept.count t.kept.current c.file_lines.ensures.few f c.requires.1.1.1 s) in
    (c.begin_job.ensures.long, (c.requires.1.0, subst Loose (sym c.begin_job.ensures.registers) (begun-loose s c.find_file-slot.result.size (plan_as c.in-Ok.plan) r m t w f.size)))

pub returns-in-Ok : goal.returns-in-Ok
returns-in-Ok c =
    let r = c.args.registers.now in
    let m = c.args.memory.now in
    let s = simple_of c.args.simple in
    let p = plan_as c.in-Ok.plan in
    let f = slot_as c.find_file-slot.result in
    let e : f ≡ look_up _ 0 0 (files_of r.kept.files m) = c.find_file-slot.ensures ∙ ap (λ n. look_up n 0 0 (files_of r.kept.files m)) c.name_given.ensures in
    says_by ((λ i. do_plan (c.begin_job.ensures.registers i).job.plan.update (c.begin_job.ensures.registers i) (c.begin_job.ensures.memory i))
    ∙ ap (λ n. do_plan (update_code p.update) (begun s n p r m) (begun_memory s m)) (slot-size s r m f e)
    ∙ command_by s r m (good p) f c.file_lines.result e c.file_lines.ensures.total c.in-Ok.ensures)
    c.do_plan.ensures

pub returns-in-Err : goal.returns-in-Err
returns-in-Err c =
    let r = c.args.registers.now in
    let m = c.args.memory.now in
    let s = simple_of c.args.simple in
    let f = slot_as c.find_file-slot.result in
    let e : f ≡ look_up _ 0 0 (files_of r.kept.files m) = c.find_file-slot.ensures ∙ ap (λ n. look_up n 0 0 (files_of r.kept.files m)) c.name_given.ensures in
    says_by (ap (λ k. refuses k r m) c.number.ensures
    ∙ command_by s r m (refused (refusal_number c.in-Err.refusal)) f c.file_lines.result e c.file_lines.ensures.total c.in-Err.ensures)
    (c.refuse.ensures m c.args.out.now)
