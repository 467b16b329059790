-- What a commit says, from the registers and the memory. Assumes nothing: these are definitions.
use Rattle.std.specs.Prelude.{ℕ, ◌-◌, List, nat_lt}
use Rattle.plain.specs.Pattern.{pick}
use Rattle.plain.specs.Device.{lesser}
use Rattle.journal.specs.Log.{Source, no_entries, new_entries, copied, Splice, splice}
use Rattle.journal.specs.Small as small
use Rattle.journal.specs.Small.{entry}
use Rattle.records.specs.Checked.{cut_news}
use Rattle.engine.specs.Machine as machine
use Rattle.memory.specs.declared.kept.Kept.{Kept}
use Rattle.memory.specs.declared.registers.Registers.{Registers}
use Rattle.memory.specs.Abstract.{house_of}
use Rattle.memory.specs.Commit as memory

-- A SPLICE INSIDE THE DIRECTORY: one of so many entries, which does the same
abbrev pub within : ℕ → Source → Source
within n no_entries = no_entries
within n new_entries = new_entries
within n (copied x y) = pick (nat_lt x (lesser y n)) (copied x (lesser y n)) no_entries

abbrev pub clamped : ℕ → Splice → Splice
clamped n c = splice (lesser c.from n) (lesser c.gone (n - lesser c.from n)) (within n c.source)

-- THE COMMIT, applied in memory: where it can't be done, all stays
abbrev pub kept_by : Kept → Splice → small.News → Kept
kept_by k c u = pick (memory.can_apply k (clamped k.entries c) u) (memory.kept_after k (clamped k.entries c) u) k

abbrev pub applied_by : Kept → Splice → small.News → List ℕ → List ℕ
applied_by k c u m = memory.applied k (clamped k.entries c) u m

abbrev pub news_in : Registers → List ℕ → small.News
news_in r m = cut_news (machine.news_of (house_of r m))
