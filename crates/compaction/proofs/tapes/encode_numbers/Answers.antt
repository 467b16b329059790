use Rattle.std.proofs.Common.{◌++◌, drop, ap, ◌∙◌}
use Rattle.journal.specs.Log.{commit, no_splice}
use Rattle.records.specs.Pages.{page_of}
use Rattle.records.specs.Values.{low_bytes}
use Rattle.journal.specs.Values.{news_of}
use Rattle.compaction.proofs.Paged.{commit-laid, name_few}
use Rattle.compaction.proofs.tapes.encode_numbers.Goals as goal

pub returns : goal.returns
returns c =
    let u = news_of c.args.numbers (low_bytes c.args.name.now) in
    commit-laid no_splice u c.args.out.now c.encode_commit.new.out (name_few c.args.numbers c.args.name.now c.requires.1)
    (c.encode_commit.ensures ∙ ap (λ s. page_of (commit s u) ++ drop 512 c.args.out.now) c.no_splice.ensures)
