-- What every page gives, whatever is in it; and that a page has its numbers only up to their bits. Assumes nothing.
use Rattle.std.proofs.Common.{◌≡◌, ℕ, ◌%◌, ◌<◌, ◌≤◌, true, eqb, List, [], ◌∷◌, ◌++◌, length, get_or, take, drop, refl, ap, subst, arith, length-take}
use Rattle.plain.specs.Pattern.{pick, all_bytes}
use Rattle.plain.specs.Device.{Page, lesser}
use Rattle.plain.proofs.Fair.{pick_by}
use Rattle.journal.specs.Log.{Source, no_entries, new_entries, copied, Splice, Piece, piece, piece_in, Rec, head, line, copy, commit, broken}
use Rattle.journal.specs.Small.{entry, Also, nothing_else, push, slot, News}
use Rattle.records.specs.Lines.{share}
use Rattle.records.specs.Pages.{four, four_at, closed, source_kind, source_from, source_to, source_by, also_kind, also_number, entry_in, beside, page_of, sealed, piece_in_page, splice_in_page, name_in_page, also_in_page, news_in_page, by_kind, record_of, SmallNumber, Bytes, SpliceFits, AlsoFits, NewsFits}
use Rattle.records.specs.Checked.{checked, checked_record_of, cut, cut_source, cut_splice, cut_also, cut_news, PieceRead, CommitRead, ReadFits}
use Rattle.records.proofs.Digits.{two-small, four-small, byte_at, bytes_take, bytes_drop, two_cut, four_cut}
use Rattle.records.proofs.Pages.{share-small}

-- the parts of a page of bytes
take_short : (n : ℕ) (bs : List ℕ) → length (take n bs) ≤ n
take_short n bs = let e = length-take n bs in grind arith

piece-read : (p : Page) → Bytes p → PieceRead (piece_in_page p)
piece-read p f = record {
  long = two-small p f 2;
  short = let a = take_short (share (piece_in_page p).long (get_or p 1 0)) (drop 8 p) in let b = share-small (piece_in_page p).long (get_or p 1 0) in omega arith;
  bytes = bytes_take _ (drop 8 p) (bytes_drop 8 p f);
}

source-words : (k x y : ℕ) → SmallNumber x → SmallNumber y → SmallNumber (source_from (source_by k x y)) × SmallNumber (source_to (source_by k x y))
source-words k x y a b =
    pick_by (λ s. SmallNumber (source_from s) × SmallNumber (source_to s)) (eqb k 0) no_entries (pick (eqb k 1) new_entries (copied x y)) (λ _. (omega arith, omega arith))
    (λ _. pick_by (λ s. SmallNumber (source_from s) × SmallNumber (source_to s)) (eqb k 1) new_entries (copied x y) (λ _. (omega arith, omega arith)) (λ _. (a, b)))

splice-read : (p : Page) → Bytes p → SpliceFits (splice_in_page p)
splice-read p f =
    let s = source-words (four_at p 9) (four_at p 13) (four_at p 17) (four-small p f 13) (four-small p f 17) in
    record { from = four-small p f 1; gone = four-small p f 5; source_from = s.0; source_to = s.1 }

also-read : (p : Page) → Bytes p → AlsoFits (also_in_page p)
also-read p f =
    let many : lesser (four_at p 49) 64 ≤ 64 = grind arith in
    let few : length (name_in_page p) ≤ 64 = let a = take_short (lesser (four_at p 49) 64) (drop 53 p) in omega arith in
    pick_by AlsoFits (eqb (four_at p 33) 0) nothing_else _ (λ _. tt)
    (λ _. pick_by AlsoFits (eqb (four_at p 33) 1) (push (four_at p 37)) (slot (four_at p 37) (entry (name_in_page p) (four_at p 41) (four_at p 45))) (λ _. four-small p f 37)
    (λ _. (four-small p f 37, four-small p f 41, four-small p f 45, few, bytes_take _ (drop 53 p) (bytes_drop 53 p f))))

news-read : (p : Page) → Bytes p → NewsFits (news_in_page p)
news-read p f = record { count = four-small p f 21; current = four-small p f 25; weight = four-small p f 29; also = also-read p f }

kind-read : (p : Page) → Bytes p → (k : ℕ) → ReadFits (checked (by_kind k p))
kind-read p f k =
    pick_by (λ r. ReadFits (checked r)) (eqb k 1) (head (four_at p 1) (four_at p 5)) _ (λ _. (four-small p f 1, four-small p f 5))
    (λ _. pick_by (λ r. ReadFits (checked r)) (eqb k 2) (line (get_or p 1 0) (piece_in_page p)) _ (λ _. (byte_at p f 1, piece-read p f))
    (λ _. pick_by (λ r. ReadFits (checked r)) (eqb k 3) (copy (four_at p 4) (get_or p 1 0) (piece_in_page p)) _ (λ _. (four-small p f 4, byte_at p f 1, piece-read p f))
    (λ _. pick_by (λ r. ReadFits (checked r)) (eqb k 4) (commit (splice_in_page p) (news_in_page p)) broken
    (λ _. pick_by ReadFits (beside (splice_in_page p)) (commit (splice_in_page p) (news_in_page p)) broken (λ b. record { splice = splice-read p f; beside = b; news = news-read p f }) (λ _. tt)) (λ _. tt))))

-- WHAT EVERY PAGE GIVES
page-read : (p : Page) → Bytes p → ReadFits (checked (record_of p))
unfolding record_of
page-read p f = pick_by (λ r. ReadFits (checked r)) (sealed p) (by_kind (get_or p 0 0) p) broken (λ _. kind-read p f (get_or p 0 0)) (λ _. tt)

pub read_fits : (p : Page) → ReadFits (checked_record_of p)
unfolding checked_record_of
read_fits p = pick_by ReadFits (all_bytes p) (checked (record_of p)) broken (λ f. page-read p f) (λ _. tt)

no_piece-read : PieceRead (piece 0 [])
no_piece-read = record { long = omega arith; short = omega arith; bytes = refl }

piece_of_read : (r : Rec News) → ReadFits r → PieceRead (piece_in r)
piece_of_read (head g n) f = no_piece-read
piece_of_read (line j b) f = f.1
piece_of_read (copy i j b) f = f.2
piece_of_read (commit c u) f = no_piece-read
piece_of_read broken f = no_piece-read

pub page-piece : (p : Page) → PieceRead (piece_in (checked_record_of p))
page-piece p = piece_of_read (checked_record_of p) (read_fits p)

pub piece-short : (p : Page) → length (piece_in (checked_record_of p)).bytes ≤ 503
piece-short p = (page-piece p).short

pub piece_bytes : (p : Page) → all_bytes (piece_in (checked_record_of p)).bytes ≡ true
piece_bytes p = (page-piece p).bytes

pub piece-long : (p : Page) → (piece_in (checked_record_of p)).long < 65536
piece-long p = (page-piece p).long

pub head-words : (p : Page) (g n : ℕ) → checked_record_of p ≡ head g n → SmallNumber g × SmallNumber n
head-words p g n e = subst ReadFits e (read_fits p)

pub line-words : (p : Page) (j : ℕ) (b : Piece) → checked_record_of p ≡ line j b → (j < 256) × PieceRead b
line-words p j b e = subst ReadFits e (read_fits p)

pub copy-words : (p : Page) (i j : ℕ) (b : Piece) → checked_record_of p ≡ copy i j b → SmallNumber i × (j < 256) × PieceRead b
copy-words p i j b e = subst ReadFits e (read_fits p)

pub commit-words : (p : Page) (c : Splice) (u : News) → checked_record_of p ≡ commit c u → CommitRead c u
commit-words p c u e = subst ReadFits e (read_fits p)

pub commit_beside : (p : Page) (c : Splice) (u : News) → checked_record_of p ≡ commit c u → beside c ≡ true
commit_beside p c u e = (commit-words p c u e).beside

-- PAGES OF NUMBERS THAT ARE CUT
source_kind_cut : (s : Source) → source_kind (cut_source s) ≡ source_kind s
source_kind_cut no_entries = refl
source_kind_cut new_entries = refl
source_kind_cut (copied x y) = refl

source_from_cut : (s : Source) → four (source_from (cut_source s)) ≡ four (source_from s)
source_from_cut no_entries = refl
source_from_cut new_entries = refl
source_from_cut (copied x y) = four_cut x

source_to_cut : (s : Source) → four (source_to (cut_source s)) ≡ four (source_to s)
source_to_cut no_entries = refl
source_to_cut new_entries = refl
source_to_cut (copied x y) = four_cut y

record AlsoCut (a : Also) : Type 0 where
  kind : also_kind (cut_also a) ≡ also_kind a
  number : four (also_number (cut_also a)) ≡ four (also_number a)
  lines : four (entry_in (cut_also a)).lines ≡ four (entry_in a).lines
  size : four (entry_in (cut_also a)).size ≡ four (entry_in a).size
  name : (entry_in (cut_also a)).name ≡ (entry_in a).name

also_cut : (a : Also) → AlsoCut a
also_cut nothing_else = record { kind = refl; number = refl; lines = refl; size = refl; name = refl }
also_cut (push w) = record { kind = refl; number = four_cut w; lines = refl; size = refl; name = refl }
also_cut (slot k e) = record { kind = refl; number = four_cut k; lines = four_cut e.lines; size = four_cut e.size; name = refl }

pub page_cut : (c : Splice) (u : News) → page_of (commit (cut_splice c) (cut_news u)) ≡ page_of (commit c u)
unfolding page_of
page_cut c u =
    let s = c.source in
    let a = also_cut u.also in
    let from = four_cut c.from in
    let gone = four_cut c.gone in
    let kind = source_kind_cut s in
    let x = source_from_cut s in
    let y = source_to_cut s in
    let count = four_cut u.count in
    let current = four_cut u.current in
    let weight = four_cut u.weight in
    λ i. 4 ∷ (from i ++ (gone i ++ (four (kind i) ++ (x i ++ (y i ++ (count i ++ (current i ++ (weight i ++ (four (a.kind i) ++ (a.number i ++ (a.lines i ++ (a.size i
    ++ (four (length (a.name i)) ++ []))))))))))))) ++ closed 458 (a.name i)

pub head_cut : (g n : ℕ) → page_of (head (cut g) (cut n)) ≡ page_of (head g n)
unfolding page_of
head_cut g n =
    let x = four_cut g in
    let y = four_cut n in
    λ i. 1 ∷ x i ++ (y i ++ closed 502 [])

pub line_cut : (j n : ℕ) (bs : List ℕ) → page_of (line j (piece (n % 65536) bs)) ≡ page_of (line j (piece n bs))
unfolding page_of
line_cut j n bs = ap (λ t. 2 ∷ j ∷ t ++ (four 0 ++ closed 503 bs)) (two_cut n)
