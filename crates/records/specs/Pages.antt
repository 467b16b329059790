-- Records as pages of 512 bytes. Byte 0 is the kind: 1 a head, 2 a line, 3 a copy, 4 a commit. Byte 511, the seal, is 1: of a page of which only the first half
-- was written it is 0. Numbers have their highest byte first. Assumes nothing: these are definitions.
--
--   head    kind, generation 4, entries 4
--   line    kind, part, the line's length 2, 0 0 0 0, up to 503 bytes
--   copy    kind, part, the line's length 2, index of the directory 4, up to 503 bytes
--   commit  kind, 13 numbers of 4: from, gone, the source's kind and two numbers, count, current line, weight, what else is said and three numbers, the
--           length of a file's name; and the name
use Rattle.std.specs.Prelude.{◌≡◌, ℕ, ◌+◌, ◌-◌, ◌*◌, ◌/◌, ◌%◌, ◌<◌, ◌≤◌, Bool, true, ◌&&◌, List, [], ◌∷◌, ◌++◌, length, take, drop, replicate, ◌==◌, nat_le, nat_lt, slice_index}
use Rattle.plain.specs.Pattern.{pick, or, every}
use Rattle.plain.specs.Device.{Page, lesser}
use Rattle.journal.specs.Log.{Source, no_entries, new_entries, copied, Splice, Piece, piece, Rec, head, line, copy, commit, broken}
use Rattle.journal.specs.Small.{Entry, entry, Also, nothing_else, push, slot, News}
use Rattle.records.specs.Lines.{share}

abbrev pub two : ℕ → List ℕ
two n = (n / 256 % 256) ∷ (n % 256) ∷ []

abbrev pub four : ℕ → List ℕ
four n = (n / 16777216 % 256) ∷ (n / 65536 % 256) ∷ (n / 256 % 256) ∷ (n % 256) ∷ []

abbrev pub fours : List ℕ → List ℕ
fours [] = []
fours (n ∷ ns) = four n ++ fours ns

abbrev pub two_at : Page → ℕ → ℕ
two_at p k = slice_index p k * 256 + slice_index p (k + 1)

abbrev pub four_at : Page → ℕ → ℕ
four_at p k = slice_index p k * 16777216 + slice_index p (k + 1) * 65536 + slice_index p (k + 2) * 256 + slice_index p (k + 3)

-- the rest of a page, of n bytes before the seal
abbrev pub closed : ℕ → List ℕ → List ℕ
closed n bs = bs ++ (replicate (n - length bs) 0 ++ 1 ∷ [])

-- a splice copies no entry that it takes out: what it copies lies before these, or behind them
abbrev pub source_beside : ℕ → ℕ → Source → Bool
source_beside p q no_entries = true
source_beside p q new_entries = true
source_beside p q (copied x y) = nat_le x y && or (nat_le y p) (nat_le (p + q) x)

abbrev pub beside : Splice → Bool
beside c = source_beside c.from c.gone c.source

-- the parts of a commit, by number
abbrev pub source_kind : Source → ℕ
source_kind no_entries = 0
source_kind new_entries = 1
source_kind (copied x y) = 2

abbrev pub source_from : Source → ℕ
source_from no_entries = 0
source_from new_entries = 0
source_from (copied x y) = x

abbrev pub source_to : Source → ℕ
source_to no_entries = 0
source_to new_entries = 0
source_to (copied x y) = y

abbrev pub source_by : ℕ → ℕ → ℕ → Source
source_by k x y = pick (k == 0) no_entries (pick (k == 1) new_entries (copied x y))

abbrev pub also_kind : Also → ℕ
also_kind nothing_else = 0
also_kind (push w) = 1
also_kind (slot k e) = 2

-- a stand's weight, or a slot
abbrev pub also_number : Also → ℕ
also_number nothing_else = 0
also_number (push w) = w
also_number (slot k e) = k

abbrev pub no_entry : Entry
no_entry = entry [] 0 0

abbrev pub entry_in : Also → Entry
entry_in nothing_else = no_entry
entry_in (push w) = no_entry
entry_in (slot k e) = e

abbrev pub also_by : ℕ → ℕ → ℕ → ℕ → List ℕ → Also
also_by k a lines weight name = pick (k == 0) nothing_else (pick (k == 1) (push a) (slot a (entry name lines weight)))

abbrev pub name_in : News → List ℕ
name_in u = (entry_in u.also).name

abbrev pub commit_numbers : Splice → News → List ℕ
commit_numbers c u =
    c.from ∷ c.gone ∷ source_kind c.source ∷ source_from c.source ∷ source_to c.source ∷ u.count ∷ u.current ∷ u.weight ∷ also_kind u.also
    ∷ also_number u.also ∷ (entry_in u.also).lines ∷ (entry_in u.also).size ∷ length (name_in u) ∷ []

-- a record as a page
abbrev pub head_page : ℕ → ℕ → Page
head_page g n = 1 ∷ four g ++ (four n ++ closed 502 [])

abbrev pub line_page : ℕ → ℕ → ℕ → ℕ → List ℕ → Page
line_page kind j n i bs = kind ∷ j ∷ two n ++ (four i ++ closed 503 bs)

abbrev pub commit_page : Splice → News → Page
commit_page c u = 4 ∷ fours (commit_numbers c u) ++ closed 458 (name_in u)

unfoldable pub page_of : Rec News → Page
page_of (head g n) = head_page g n
page_of (line j b) = line_page 2 j b.long 0 b.bytes
page_of (copy i j b) = line_page 3 j b.long i b.bytes
page_of (commit c u) = commit_page c u
page_of broken = []

-- a page as a record
abbrev pub sealed : Page → Bool
sealed p = slice_index p 511 == 1

abbrev pub piece_in_page : Page → Piece
piece_in_page p = piece (two_at p 2) (take (share (two_at p 2) (slice_index p 1)) (drop 8 p))

abbrev pub splice_in_page : Page → Splice
splice_in_page p = record { from = four_at p 1; gone = four_at p 5; source = source_by (four_at p 9) (four_at p 13) (four_at p 17) }

abbrev pub name_in_page : Page → List ℕ
name_in_page p = take (lesser (four_at p 49) 64) (drop 53 p)

abbrev pub also_in_page : Page → Also
also_in_page p = also_by (four_at p 33) (four_at p 37) (four_at p 41) (four_at p 45) (name_in_page p)

abbrev pub news_in_page : Page → News
news_in_page p = record { count = four_at p 21; current = four_at p 25; weight = four_at p 29; also = also_in_page p }

abbrev pub by_kind : ℕ → Page → Rec News
by_kind k p =
    pick (k == 1) (head (four_at p 1) (four_at p 5)) (pick (k == 2) (line (slice_index p 1) (piece_in_page p)) (pick (k == 3) (copy (four_at p 4) (slice_index p 1) (piece_in_page p))
    (pick (k == 4) (commit (splice_in_page p) (news_in_page p)) broken)))

unfoldable pub record_of : Page → Rec News
record_of p = pick (sealed p) (by_kind (slice_index p 0) p) broken

-- the page of a line, or of a copy, made into that of a copy for another index
unfoldable pub recopied : ℕ → Page → Page
recopied i p = 3 ∷ take 3 (drop 1 p) ++ (four i ++ take 504 (drop 8 p))

-- what fits
abbrev pub SmallNumber : ℕ → Type 0
SmallNumber n = n < 4294967296

abbrev pub Bytes : List ℕ → Type 0
Bytes bs = every (λ b. nat_lt b 256) bs ≡ true

pub record PieceFits (j : ℕ) (b : Piece) : Type 0 where
  pub part : j < 3
  pub long : b.long ≤ 1024
  pub share_is : length b.bytes ≡ share b.long j
  pub bytes : Bytes b.bytes

pub record SpliceFits (c : Splice) : Type 0 where
  pub from : SmallNumber c.from
  pub gone : SmallNumber c.gone
  pub source_from : SmallNumber (source_from c.source)
  pub source_to : SmallNumber (source_to c.source)

abbrev pub AlsoFits : Also → Type 0
AlsoFits nothing_else = Unit {0}
AlsoFits (push w) = SmallNumber w
AlsoFits (slot k e) = SmallNumber k × SmallNumber e.lines × SmallNumber e.size × (length e.name ≤ 64) × Bytes e.name

pub record NewsFits (u : News) : Type 0 where
  pub count : SmallNumber u.count
  pub current : SmallNumber u.current
  pub weight : SmallNumber u.weight
  pub also : AlsoFits u.also

abbrev pub RecFits : Rec News → Type 0
RecFits (head g n) = SmallNumber g × SmallNumber n
RecFits (line j b) = PieceFits j b
RecFits (copy i j b) = SmallNumber i × PieceFits j b
RecFits (commit c u) = SpliceFits c × NewsFits u
RecFits broken = ⊥
