use Rattle.std.proofs.Common.{◌≡◌, suc, ◌+◌, arith}
use Rattle.commits.specs.Setters.{walking, with_walking}
use Rattle.execution.specs.Walk.{fetch}
use Rattle.execution.proofs.Told.{says_by}
use Rattle.execution.proofs.walk.fetch_more.Goals as goal

pub returns : goal.returns
returns c =
    let r = c.args.registers.now in
    let e : r.walking.part + 1 ≡ suc r.walking.part = omega arith in
    λ out. says_by (λ i. fetch (with_walking (walking r.walking.line (e i) r.walking.went (c.append-registers.ensures.count i)) r) (c.append-registers.ensures.memory i))
    (c.fetch.ensures out)
