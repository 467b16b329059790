use Rattle.std.proofs.Common.{◌++◌, drop, ◌∙◌}
use Rattle.journal.specs.Log.{commit}
use Rattle.memory.specs.Abstract.{name_of}
use Rattle.records.specs.Pages.{page_of}
use Rattle.records.specs.Values.{low_bytes}
use Rattle.journal.specs.Values.{news_of}
use Rattle.commits.proofs.commit.put_page.Goals as goal

pub returns : goal.returns
unfolding name_of
returns c =
    let out = c.args.out.now in
    c.encode_commit.ensures
    ∙ (λ i. page_of (commit (c.splice-splice.ensures i) (news_of c.args.numbers (low_bytes (c.kept_name-name.ensures i)))) ++ drop 512 out)
