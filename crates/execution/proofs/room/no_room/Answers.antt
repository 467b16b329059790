use Rattle.memory.specs.Abstract.{name_of}
use Rattle.journal.specs.Values.{news_of}
use Rattle.execution.proofs.Light.{news_light}
use Rattle.execution.proofs.Roomed.{room_compared, name-long}
use Rattle.execution.proofs.room.no_room.Goals as goal

pub weight_after-after-requires : goal.weight_after-after-requires
weight_after-after-requires c =
    let r = c.args.registers.now in
    let m = c.args.memory.now in
    let n = c.news_of-news.result in
    (c.requires.0, (c.requires.1.bounded.kept, (news_light n (name_of r.job.name m) r m c.requires.1 c.requires.0 c.news_of-news.ensures, c.requires.1.bounded.name)))

pub returns : goal.returns
returns c =
    let r = c.args.registers.now in
    let m = c.args.memory.now in
    let n = name_of r.job.name m in
    room_compared r m (news_of c.news_of-news.result n) c.no_room.result c.total_weight-before.result c.weight_after-after.result c.news_of-news.ensures
    c.total_weight-before.ensures.total (c.weight_after-after.ensures n (name-long r.job.name m c.requires.0 c.requires.1.bounded.name)) c.no_room.ensures
