-- Records as they are believed when they are read back: of bytes, and no commit that copies entries that it takes out; and numbers as a page has them. Assumes
-- nothing: these are definitions.
use Rattle.std.specs.Prelude.{◌≡◌, ℕ, ◌%◌, ◌<◌, ◌≤◌, true, length}
use Rattle.plain.specs.Pattern.{pick, all_bytes}
use Rattle.plain.specs.Device.{Page}
use Rattle.journal.specs.Log.{Source, no_entries, new_entries, copied, Splice, Piece, Rec, head, line, copy, commit, broken}
use Rattle.journal.specs.Small.{entry, Also, nothing_else, push, slot, News}
use Rattle.records.specs.Pages.{beside, record_of, SmallNumber, Bytes, SpliceFits, NewsFits}

abbrev pub checked : Rec News → Rec News
checked (head g n) = head g n
checked (line j b) = line j b
checked (copy i j b) = copy i j b
checked (commit c u) = pick (beside c) (commit c u) broken
checked broken = broken

unfoldable pub checked_record_of : Page → Rec News
checked_record_of p = pick (all_bytes p) (checked (record_of p)) broken

-- the part of a line that a record holds, 0 where it holds none
abbrev pub part_in : Rec News → ℕ
part_in (head g n) = 0
part_in (line j b) = j
part_in (copy i j b) = j
part_in (commit c u) = 0
part_in broken = 0

-- a commit with its numbers cut to 32 bits, as its page has them
abbrev pub cut : ℕ → ℕ
cut n = n % 4294967296

abbrev pub cut_source : Source → Source
cut_source no_entries = no_entries
cut_source new_entries = new_entries
cut_source (copied x y) = copied (cut x) (cut y)

abbrev pub cut_splice : Splice → Splice
cut_splice c = record { from = cut c.from; gone = cut c.gone; source = cut_source c.source }

abbrev pub cut_also : Also → Also
cut_also nothing_else = nothing_else
cut_also (push w) = push (cut w)
cut_also (slot k e) = slot (cut k) (entry e.name (cut e.lines) (cut e.size))

abbrev pub cut_news : News → News
cut_news u = record { count = cut u.count; current = cut u.current; weight = cut u.weight; also = cut_also u.also }

-- what every page of bytes gives
pub record PieceRead (b : Piece) : Type 0 where
  pub long : b.long < 65536
  pub short : length b.bytes ≤ 503
  pub bytes : Bytes b.bytes

pub record CommitRead (c : Splice) (u : News) : Type 0 where
  pub splice : SpliceFits c
  pub beside : beside c ≡ true
  pub news : NewsFits u

abbrev pub ReadFits : Rec News → Type 0
ReadFits (head g n) = SmallNumber g × SmallNumber n
ReadFits (line j b) = (j < 256) × PieceRead b
ReadFits (copy i j b) = SmallNumber i × (j < 256) × PieceRead b
ReadFits (commit c u) = CommitRead c u
ReadFits broken = Unit {0}
