-- The records of the code, in the words of the log. Assumes nothing: these are definitions.
use Rattle.std.specs.Prelude.{ℕ, ◌%◌, List, [], map}
use Rattle.journal.specs.Log as log
use Rattle.journal.specs.Log.{Rec, head, line, copy, commit, broken}
use Rattle.journal.specs.Small.{News}
use Rattle.journal.specs.Values.{news_of, splice_of}
use Rattle.journal.specs.declared.commit.Also.{Also}
use Rattle.journal.specs.declared.commit.Also.TheVariants as also
use Rattle.records.specs.declared.Piece.{Piece}
use Rattle.records.specs.declared.Record.{Record}
use Rattle.records.specs.declared.Record.TheVariants.{Head, Line, Copy, Commit, Broken}

-- cells of memory hold a byte each
abbrev pub low_bytes : List ℕ → List ℕ
low_bytes cells = map (λ c. c % 256) cells

abbrev pub name_for : Also ℕ → List ℕ → List ℕ
name_for also.Nothing name = []
name_for (also.Push weight) name = []
name_for (also.Store slot lines weight) name = name

abbrev pub piece_of : Piece → log.Piece
piece_of p = log.piece p.long p.bytes.now

abbrev pub rec_of : Record → Rec News
rec_of (Head generation entries) = head generation entries
rec_of (Line p) = line p.part (piece_of p)
rec_of (Copy index p) = copy index p.part (piece_of p)
rec_of (Commit s n name) = commit (splice_of s) (news_of n name.now)
rec_of Broken = broken
