use Rattle.std.proofs.Common.{◌+◌, sym, ◌∙◌}
use Rattle.commands.specs.declared.plan.Update.TheVariants.{Nothing, Current, Text, File}
use Rattle.journal.specs.Small.{entry, push, slot, news}
use Rattle.commands.specs.Smalls.{news_by}
use Rattle.memory.specs.Abstract.{name_of}
use Rattle.commits.proofs.Paged.{news_is}
use Rattle.commits.proofs.news.news_of.Goals as goal

pub returns-in-Nothing : goal.returns-in-Nothing
unfolding news_by
returns-in-Nothing c =
    c.same_text.ensures (name_of c.args.registers.now.job.name c.args.memory.now) ∙ sym (news_is Nothing c.args.registers.now c.args.memory.now c.in-Nothing.is)

pub returns-in-Current : goal.returns-in-Current
unfolding news_by
returns-in-Current c =
    c.same_text-in-Current.ensures (name_of c.args.registers.now.job.name c.args.memory.now) ∙ sym (news_is Current c.args.registers.now c.args.memory.now c.in-Current.is)

pub returns-in-Text : goal.returns-in-Text
unfolding news_by
returns-in-Text c =
    let p = c.args.registers.now.job.plan in
    (λ i. news p.count p.current (c.saturating_sub.ensures i + c.came_weight-came.ensures.weight i) (push (c.stand_size.ensures i)))
    ∙ sym (news_is Text c.args.registers.now c.args.memory.now c.in-Text.is)

pub returns-in-File : goal.returns-in-File
unfolding news_by
returns-in-File c =
    let r = c.args.registers.now in
    (λ i. news r.kept.count r.kept.current r.kept.weight (slot c.in-File.slot (entry (name_of r.job.name c.args.memory.now) r.job.plan.came (c.came_weight-came.ensures.weight i))))
    ∙ sym (news_is (File c.in-File.slot) r c.args.memory.now c.in-File.is)
