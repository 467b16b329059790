use Rattle.memory.specs.Sections.{next_at}
use Rattle.memory.proofs.directory.next_on.Goals as goal

pub returns : goal.returns
unfolding next_at
returns c = c.next_on.ensures
