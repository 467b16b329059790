use Rattle.memory.specs.Laws.{CommitsAsLogged}
use Rattle.memory.proofs.Stored.{applied_means}
use Rattle.memory.proofs.laws.commits_as_logged.Goals as goal

pub returns : goal.returns
unfolding CommitsAsLogged
returns c = λ t at k s u m h tame f can. (applied_means t at k s u m h tame f can).store
