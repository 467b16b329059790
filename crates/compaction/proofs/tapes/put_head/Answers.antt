use Rattle.std.proofs.Common.{sym, subst}
use Rattle.journal.specs.Log.{head, next_generation}
use Rattle.records.specs.Pages.{page_of}
use Rattle.commits.specs.Acts.{Says}
use Rattle.compaction.specs.Carry.{put_head}
use Rattle.compaction.proofs.Paged.{head-laid}
use Rattle.compaction.proofs.tapes.put_head.Goals as goal

pub returns : goal.returns
unfolding put_head
returns c =
    let r = c.args.registers.now in
    let out = c.args.out.now in
    let e = head-laid (next_generation r.tapes.generation) c.generation_after-generation.result r.kept.entries out c.encode_head.new.out c.generation_after-generation.ensures c.encode_head.ensures in
    λ m. subst (λ o. Says (put_head r m) c.put_other.new.registers m c.put_other.result out o) (sym e)
    (c.put_other.ensures m (page_of (head (next_generation r.tapes.generation) r.kept.entries)) out)
