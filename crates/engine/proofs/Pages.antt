-- Records that fit the machine fit their pages. Assumes nothing.
use Rattle.std.proofs.Common.{ℕ, ◌≤◌, ◌&&◌, ltb, leb, length, arith}
use Rattle.std.proofs.lemmas.Bool.{and_parts, ltb-true, leb-true}
use Rattle.plain.specs.Pattern.{all_bytes}
use Rattle.journal.specs.Log.{Source, no_entries, new_entries, copied, Splice, Piece, Rec, head, line, copy, commit, broken}
use Rattle.journal.specs.Small.{Also, nothing_else, push, slot, News}
use Rattle.records.specs.Pages as pages
use Rattle.records.specs.Pages.{SmallNumber, record_of}
use Rattle.records.specs.Checked.{checked_record_of}
use Rattle.records.proofs.Checks.{Beside, checked_back, checked_torn, checked_none}
use Rattle.records.proofs.Pages.{page-back, page-whole, torn-broken, none_broken}
use Rattle.engine.specs.Fits.{SourceFits, SpliceFits, AlsoFits, NewsFits, PieceFits, RecordFits}
use Rattle.engine.proofs.Facts.{Codec}

source_from : (s : Source) → SourceFits s → SmallNumber (pages.source_from s)
source_from no_entries f = omega arith
source_from new_entries f = omega arith
source_from (copied a b) f = f.0

source_to : (s : Source) → SourceFits s → SmallNumber (pages.source_to s)
source_to no_entries f = omega arith
source_to new_entries f = omega arith
source_to (copied a b) f = f.1

splice-fits : (c : Splice) → SpliceFits c → pages.SpliceFits c
splice-fits c f = record { from = f.from; gone = f.gone; source_from = source_from c.source f.source; source_to = source_to c.source f.source }

also-fits : (a : Also) → AlsoFits a → pages.AlsoFits a
also-fits nothing_else f = tt
also-fits (push n) f = f
also-fits (slot i e) f =
    let p = and_parts (leb (length e.name) 64 && all_bytes e.name) (ltb e.lines 4294967296 && ltb e.size 4294967296) f.1 in
    let q = and_parts (leb (length e.name) 64) (all_bytes e.name) p.0 in
    let r = and_parts (ltb e.lines 4294967296) (ltb e.size 4294967296) p.1 in
    (f.0, ltb-true _ _ r.0, ltb-true _ _ r.1, leb-true _ _ q.0, q.1)

news-fits : (u : News) → NewsFits u → pages.NewsFits u
news-fits u f = record { count = f.count; current = f.current; weight = f.weight; also = also-fits u.also f.also }

piece-fits : (j : ℕ) (b : Piece) → j ≤ 2 → PieceFits j b → pages.PieceFits j b
piece-fits j b l f = record { part = omega arith; long = f.long; share_is = f.here; bytes = f.bytes }

pub record_fits : (r : Rec News) → RecordFits r → pages.RecFits r
record_fits (head g n) f = let a = f.1 in (omega arith, f.2)
record_fits (line j b) f = piece-fits j b f.0 f.1
record_fits (copy i j b) f = (f.0, piece-fits j b f.1 f.2)
record_fits (commit c u) f = (splice-fits c f.0, news-fits u f.1)
record_fits broken f = f

unfoldable pub codec : Codec
codec = record {
  reading = record_of;
  reads = λ r f. page-back r (record_fits r f);
  pages = λ r f. page-whole r (record_fits r f);
  torn = torn-broken;
  empty = none_broken;
}

-- THE SAME, where what is read back is checked
pub beside-of : (r : Rec News) → RecordFits r → Beside r
beside-of (head g n) f = tt
beside-of (line j b) f = tt
beside-of (copy i j b) f = tt
beside-of (commit c u) f = f.0.beside
beside-of broken f = tt

unfoldable pub codec_checked : Codec
codec_checked = record {
  reading = checked_record_of;
  reads = λ r f. checked_back r (record_fits r f) (beside-of r f);
  pages = λ r f. page-whole r (record_fits r f);
  torn = checked_torn;
  empty = checked_none;
}
