use Rattle.std.proofs.Common.{◌≡◌, length, sym, refl, ap, ◌∙◌}
use Rattle.typed.specs.Meaning.{simple_of}
use Rattle.commands.specs.Turn.{name_given}
use Rattle.memory.specs.Abstract.{small_of}
use Rattle.memory.specs.Sections.{extended, name_kept}
use Rattle.commits.specs.Setters.{job, walking, with_job, with_walking, with_putting}
use Rattle.execution.specs.Obey.{few_of, typed_text}
use Rattle.execution.specs.Plans.{with_newlines, lines_kind}
use Rattle.execution.proofs.Given.{plan-back}
use Rattle.execution.proofs.command.begin_job.Goals as goal

pub returns : goal.returns
returns c =
    let r = c.args.registers.now in
    let m = c.args.memory.now in
    let s = simple_of c.args.simple in
    let text : c.text_given.result.now ≡ typed_text s = c.text_given.ensures ∙ ap with_newlines c.lines_given-lines.ensures in
    let kind = c.kind_given.ensures ∙ ap lines_kind c.lines_given-lines.ensures in
    let name = c.name_given.ensures in
    let long = c.keep_text-text.ensures.count ∙ ap (λ t. few_of 65536 (length t)) text in
    let named = c.keep_name-name.ensures.count ∙ ap (λ t. few_of 64 (length t)) name in
    let went = c.went_at_once.ensures (small_of r.kept m) refl in
    record {
      registers = λ i. with_job (job (sym (plan-back c.args.plan) i) (named i) c.args.size (kind i) (long i))
          (with_walking (walking c.args.plan.span.after 0 (went i) 0) (with_putting (c.nothing_put-registers.ensures i) r));
      memory = c.keep_name-name.ensures.memory ∙ (λ i. name_kept (name i) (c.keep_text-text.ensures.memory i)) ∙ ap (λ t. name_kept (name_given s.deed) (extended 0 t m)) text;
      long = c.keep_name-name.ensures.long;
    }
