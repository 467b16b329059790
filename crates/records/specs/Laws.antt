-- What is shown of records as pages: each statement is the contract of a function of this crate. Assumes nothing.
use Rattle.std.specs.Prelude.{◌≡◌, ℕ, ◌+◌, ◌*◌, ◌<◌, ◌≤◌, true, List, [], length, slice_index_or}
use Rattle.plain.specs.Device.{Page, a_page}
use Rattle.journal.specs.Log.{Piece, no_piece, pieces_of, Rec, line, copy, broken, halved}
use Rattle.journal.specs.Small.{News}
use Rattle.records.specs.Lines.{records_for, piece_at, packed, joined}
use Rattle.records.specs.Pages.{page_of, record_of, recopied, Bytes, PieceFits, RecFits}

-- 1. What was written is read back, and may be put on a tape.
unfoldable pub PageBack : Type 0
PageBack = (r : Rec News) → RecFits r → (record_of (page_of r) ≡ r) × (a_page (page_of r) ≡ true)

-- 2. A page of which only the first half was written is broken, whatever it was to be; and so is one that isn't there.
unfoldable pub TornBroken : Type 0
TornBroken = ((p : Page) → record_of (halved p) ≡ broken) × (record_of [] ≡ broken)

-- 3. The pieces of a line make the line again; there are as many as `records_for` says, no more than its weight pays for; and each fits.
pub record PackedRight (bs : List ℕ) : Type 0 where
  pub whole : joined (pieces_of (packed bs)) ≡ bs
  pub many : length (pieces_of (packed bs)) ≡ records_for (length bs)
  pub paid : 64 * records_for (length bs) ≤ 64 + length bs
  pub fits : (j : ℕ) → j < records_for (length bs) → PieceFits j (piece_at bs j)
  pub each_one : (j : ℕ) → j < records_for (length bs) → slice_index_or (pieces_of (packed bs)) j no_piece ≡ piece_at bs j

unfoldable pub LinePacked : Type 0
LinePacked = (bs : List ℕ) → length bs ≤ 1024 → Bytes bs → PackedRight bs

-- 4. The page of a line, or of a copy, made into that of a copy for another index.
unfoldable pub RecopiedRight : Type 0
RecopiedRight =
    (i k j : ℕ) (b : Piece) → PieceFits j b → (recopied i (page_of (line j b)) ≡ page_of (copy i j b)) × (recopied i (page_of (copy k j b)) ≡ page_of (copy i j b))
