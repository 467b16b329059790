use Rattle.journal.specs.Values.{news_of}
use Rattle.memory.specs.Abstract.{name_of}
use Rattle.commits.proofs.Paged.{news-said, page_put}
use Rattle.commits.proofs.Committed.{put_first, put_last}
use Rattle.commits.proofs.commit.put_commit.Goals as goal

pub returns-then-not-last : goal.returns-then-not-last
returns-then-not-last c =
    let r = c.args.registers.now in
    let m = c.args.memory.now in
    let out = c.args.out.now in
    let v = c.numbers-numbers.result in
    put_first r m out c.put_page.new.out c.target-tape.result c.lengthen-registers.result c.target-tape.ensures c.lengthen-registers.ensures
    (page_put r m out c.put_page.new.out v c.news_of.result c.requires.1.1.bounded.name (c.numbers-numbers.ensures (name_of r.job.name m)) c.news_of.ensures c.put_page.ensures)
    c.if-not-last.ensures

pub returns : goal.returns
returns c =
    let r = c.args.registers.now in
    let m = c.args.memory.now in
    let out = c.args.out.now in
    let v = c.numbers-numbers.result in
    let name = name_of r.job.name m in
    put_last r m out c.put_page.new.out c.target-tape.result c.lengthen-registers.result c.target-tape.ensures c.lengthen-registers.ensures
    (page_put r m out c.put_page.new.out v c.news_of.result c.requires.1.1.bounded.name (c.numbers-numbers.ensures name) c.news_of.ensures c.put_page.ensures)
    c.if-not-last.ensures c.cursor_then-cursor.result c.apply-registers.result c.apply-registers.new.memory (news_of v name) c.cursor_then-cursor.ensures
    (news-said r m out c.put_page.new.out v c.news_of.result c.requires.1.1.bounded.name (c.numbers-numbers.ensures name) c.news_of.ensures)
    c.apply-registers.ensures.kept c.apply-registers.ensures.memory
