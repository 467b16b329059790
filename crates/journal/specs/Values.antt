-- What a commit says in code, in the words of the log. Assumes nothing: these are definitions.
use Rattle.std.specs.Prelude.{ℕ, List}
use Rattle.journal.specs.Log as log
use Rattle.journal.specs.Small as small
use Rattle.journal.specs.declared.commit.Source.{Source}
use Rattle.journal.specs.declared.commit.Source.TheVariants as source
use Rattle.journal.specs.declared.commit.Splice.{Splice}
use Rattle.journal.specs.declared.commit.Also.{Also}
use Rattle.journal.specs.declared.commit.Also.TheVariants as also
use Rattle.journal.specs.declared.commit.Numbers.{Numbers}

abbrev pub source_of : Source ℕ → log.Source
source_of source.Nothing = log.no_entries
source_of source.New = log.new_entries
source_of (source.Copied from to) = log.copied from to

abbrev pub splice_of : Splice ℕ → log.Splice
splice_of s = record { from = s.from; gone = s.gone; source = source_of s.source }

-- with the name that comes with the commit
abbrev pub also_of : Also ℕ → List ℕ → small.Also
also_of also.Nothing name = small.nothing_else
also_of (also.Push weight) name = small.push weight
also_of (also.Store slot lines weight) name = small.slot slot (small.entry name lines weight)

abbrev pub news_of : Numbers ℕ → List ℕ → small.News
news_of n name = record { count = n.count; current = n.current; weight = n.weight; also = also_of n.also name }
