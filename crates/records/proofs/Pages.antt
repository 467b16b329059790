-- Records as pages, and back. Assumes nothing.
use Rattle.std.proofs.Common.{◌≡◌, ℕ, suc, ◌+◌, ◌*◌, ◌/◌, ◌%◌, ◌<◌, ◌≤◌, true, false, eqb, ltb, List, [], ◌∷◌, ◌++◌, length, get_or, take, sym, refl, ap, ◌∙◌, arith, length-append, take_all}
use Rattle.std.proofs.lemmas.List.{get_or_past}
use Rattle.std.proofs.lemmas.Bool.{lt-ltb, eq-eqb, ne_eqb, eqb-true, and_from}
use Rattle.plain.specs.Pattern.{pick}
use Rattle.plain.specs.Device.{Page, lesser, a_page}
use Rattle.journal.specs.Log.{Source, no_entries, new_entries, copied, Splice, Piece, Rec, head, line, copy, commit, broken, halved}
use Rattle.journal.specs.Small.{Also, nothing_else, push, slot, News}
use Rattle.journal.proofs.Contents.{torn_unsealed}
use Rattle.records.specs.Lines.{share}
use Rattle.records.specs.Pages.{two, four, fours, four_at, closed, source_kind, source_from, source_to, source_by, also_kind, also_number, entry_in, also_by, name_in, commit_numbers, head_page, line_page, commit_page, page_of, sealed, piece_in_page, splice_in_page, name_in_page, also_in_page, by_kind, record_of, recopied, SmallNumber, Bytes, PieceFits, SpliceFits, AlsoFits, NewsFits, RecFits}
use Rattle.records.proofs.Digits.{two_back, four-back, two_bytes, four_bytes, fours-bytes, bytes-append, length-closed, closed-bytes, closed_seal, closed-back}

-- a page that is sealed, by its kind
sealed_by : (p : Page) → get_or p 511 0 ≡ 1 → record_of p ≡ by_kind (get_or p 0 0) p
unfolding record_of
sealed_by p e = ap (λ b. pick (eqb b 1) (by_kind (get_or p 0 0) p) broken) e

unsealed : (p : Page) → get_or p 511 0 ≡ 0 → record_of p ≡ broken
unfolding record_of
unsealed p e = ap (λ b. pick (eqb b 1) (by_kind (get_or p 0 0) p) broken) e

pub torn-broken : (p : Page) → record_of (halved p) ≡ broken
torn-broken p = unsealed (halved p) (torn_unsealed p)

pub none_broken : record_of [] ≡ broken
none_broken = unsealed [] refl

-- heads
head-back : (g n : ℕ) → SmallNumber g → SmallNumber n → record_of (head_page g n) ≡ head g n
head-back g n a b =
    let x = four-back g a in
    let y = four-back n b in
    sealed_by (head_page g n) refl ∙ (λ i. head (x i) (y i))

-- lines
pub share-small : (n j : ℕ) → share n j ≤ 503
share-small n j = grind arith

line_seal : (kind j n i : ℕ) (bs : List ℕ) → length bs ≤ 503 → get_or (line_page kind j n i bs) 511 0 ≡ 1
line_seal kind j n i bs h = closed_seal 503 bs h

piece_back : (kind i j : ℕ) (b : Piece) → PieceFits j b → piece_in_page (line_page kind j b.long i b.bytes) ≡ b
piece_back kind i j b f =
    let n = two_back b.long (let h = f.long in omega arith) in
    let bs : take (share (b.long / 256 % 256 * 256 + b.long % 256) j) (closed 503 b.bytes) ≡ b.bytes =
    closed-back 503 (share (b.long / 256 % 256 * 256 + b.long % 256) j) b.bytes (f.share_is ∙ ap (λ m. share m j) (sym n)) in
    λ k. record { long = n k; bytes = bs k }

line_small : (j : ℕ) (b : Piece) → PieceFits j b → length b.bytes ≤ 503
line_small j b f = let h = share-small b.long j in let e = f.share_is in omega arith

line-back : (j : ℕ) (b : Piece) → PieceFits j b → record_of (line_page 2 j b.long 0 b.bytes) ≡ line j b
line-back j b f =
    let p : Page = line_page 2 j b.long 0 b.bytes in
    sealed_by p (line_seal 2 j b.long 0 b.bytes (line_small j b f)) ∙ ap (line j) (piece_back 2 0 j b f)

copy-back : (i j : ℕ) (b : Piece) → SmallNumber i → PieceFits j b → record_of (line_page 3 j b.long i b.bytes) ≡ copy i j b
copy-back i j b a f =
    let p : Page = line_page 3 j b.long i b.bytes in
    let x = four-back i a in
    let y = piece_back 3 i j b f in
    sealed_by p (line_seal 3 j b.long i b.bytes (line_small j b f)) ∙ (λ k. copy (x k) j (y k))

-- commits
source-back : (s : Source) → source_by (source_kind s) (source_from s) (source_to s) ≡ s
source-back no_entries = refl
source-back new_entries = refl
source-back (copied x y) = refl

kind-small : (s : Source) → SmallNumber (source_kind s)
kind-small no_entries = omega arith
kind-small new_entries = omega arith
kind-small (copied x y) = omega arith

also-back : (a : Also) → AlsoFits a → also_by (also_kind a) (also_number a) (entry_in a).lines (entry_in a).size (entry_in a).name ≡ a
also-back nothing_else f = refl
also-back (push w) f = refl
also-back (slot k e) f = refl

record AlsoSmall (a : Also) : Type 0 where
  kind : SmallNumber (also_kind a)
  number : SmallNumber (also_number a)
  lines : SmallNumber (entry_in a).lines
  weight : SmallNumber (entry_in a).size
  name : length (entry_in a).name ≤ 64
  bytes : Bytes (entry_in a).name

also-small : (a : Also) → AlsoFits a → AlsoSmall a
also-small nothing_else f = record { kind = omega arith; number = omega arith; lines = omega arith; weight = omega arith; name = omega arith; bytes = refl }
also-small (push w) f = record { kind = omega arith; number = f; lines = omega arith; weight = omega arith; name = omega arith; bytes = refl }
also-small (slot k e) f = record { kind = omega arith; number = f.0; lines = f.1; weight = f.2; name = f.3; bytes = f.4 }

at_most : (n : ℕ) → n ≤ 64 → lesser n 64 ≡ n
at_most n h = grind arith

commit_seal : (c : Splice) (u : News) → length (name_in u) ≤ 64 → get_or (commit_page c u) 511 0 ≡ 1
commit_seal c u h = closed_seal 458 (name_in u) (omega arith)

commit-back : (c : Splice) (u : News) → SpliceFits c → NewsFits u → record_of (commit_page c u) ≡ commit c u
commit-back c u f g =
    let p : Page = commit_page c u in
    let s = also-small u.also g.also in
    let from = four-back c.from f.from in
    let gone = four-back c.gone f.gone in
    let kind = four-back (source_kind c.source) (kind-small c.source) in
    let x = four-back (source_from c.source) f.source_from in
    let y = four-back (source_to c.source) f.source_to in
    let count = four-back u.count g.count in
    let current = four-back u.current g.current in
    let weight = four-back u.weight g.weight in
    let also = four-back (also_kind u.also) s.kind in
    let number = four-back (also_number u.also) s.number in
    let lines = four-back (entry_in u.also).lines s.lines in
    let slot = four-back (entry_in u.also).size s.weight in
    let long : four_at p 49 ≡ length (name_in u) = four-back (length (name_in u)) (let h = s.name in omega arith) in
    let name : name_in_page p ≡ name_in u = closed-back 458 (lesser (four_at p 49) 64) (name_in u) (sym (ap (λ n. lesser n 64) long ∙ at_most (length (name_in u)) s.name)) in
    let source : (splice_in_page p).source ≡ c.source = (λ i. source_by (kind i) (x i) (y i)) ∙ source-back c.source in
    let other : also_in_page p ≡ u.also = (λ i. also_by (also i) (number i) (lines i) (slot i) (name i)) ∙ also-back u.also g.also in
    sealed_by p (commit_seal c u s.name)
    ∙ (λ i. commit (record { from = from i; gone = gone i; source = source i }) (record { count = count i; current = current i; weight = weight i; also = other i }))

-- every record is read back as it was
pub page-back : (r : Rec News) → RecFits r → record_of (page_of r) ≡ r
unfolding page_of
page-back (head g n) f = head-back g n f.0 f.1
page-back (line j b) f = line-back j b f
page-back (copy i j b) f = copy-back i j b f.0 f.1
page-back (commit c u) f = commit-back c u f.0 f.1
page-back broken f = absurd f

-- and its page is one
whole-page : (cells : List ℕ) (n : ℕ) (bs : List ℕ) → length cells + suc n ≡ 512 → length bs ≤ n → Bytes cells → Bytes bs → a_page (cells ++ closed n bs) ≡ true
whole-page cells n bs e l h k =
    let long : length (cells ++ closed n bs) ≡ 512 = length-append cells (closed n bs) ∙ ap (λ m. length cells + m) (length-closed n bs l) ∙ e in
    and_from _ _ (eq-eqb _ 512 long) (bytes-append cells (closed n bs) h (closed-bytes n bs k))

line_cells : (kind j n i : ℕ) → ltb kind 256 ≡ true → j < 3 → Bytes (kind ∷ j ∷ two n ++ four i)
line_cells kind j n i k h = and_from _ _ k (and_from _ _ (lt-ltb j 256 (omega arith)) (bytes-append (two n) (four i) (two_bytes n) (four_bytes i)))

pub page-whole : (r : Rec News) → RecFits r → a_page (page_of r) ≡ true
unfolding page_of
page-whole (head g n) f = whole-page (1 ∷ four g ++ four n) 502 [] refl (omega arith) (bytes-append (four g) (four n) (four_bytes g) (four_bytes n)) refl
page-whole (line j b) f = whole-page (2 ∷ j ∷ two b.long ++ four 0) 503 b.bytes refl (line_small j b f) (line_cells 2 j b.long 0 refl f.part) f.bytes
page-whole (copy i j b) f = whole-page (3 ∷ j ∷ two b.long ++ four i) 503 b.bytes refl (line_small j b f.1) (line_cells 3 j b.long i refl f.1.part) f.1.bytes
page-whole (commit c u) f =
    let s = also-small u.also f.1.also in
    whole-page (4 ∷ fours (commit_numbers c u)) 458 (name_in u) refl (let h = s.name in omega arith) (fours-bytes (commit_numbers c u)) s.bytes
page-whole broken f = absurd f

-- a line's page, or a copy's, as that of another copy
recopied_is : (kind i k j n : ℕ) (bs : List ℕ) → length bs ≤ 503 → recopied i (line_page kind j n k bs) ≡ line_page 3 j n i bs
unfolding recopied
recopied_is kind i k j n bs h = ap (λ t. 3 ∷ j ∷ two n ++ (four i ++ t)) (take_all 504 (closed 503 bs) (let e = length-closed 503 bs h in omega arith))

pub recopied-line : (i j : ℕ) (b : Piece) → PieceFits j b → recopied i (page_of (line j b)) ≡ page_of (copy i j b)
unfolding page_of
recopied-line i j b f = recopied_is 2 i 0 j b.long b.bytes (line_small j b f)

pub recopied-copy : (i k j : ℕ) (b : Piece) → PieceFits j b → recopied i (page_of (copy k j b)) ≡ page_of (copy i j b)
unfolding page_of
recopied-copy i k j b f = recopied_is 3 i k j b.long b.bytes (line_small j b f)

-- a page by its kind, as it is read
pub decoded : (p : Page) (k : ℕ) → sealed p ≡ true → get_or p 0 0 ≡ k → record_of p ≡ by_kind k p
decoded p k s e = sealed_by p (eqb-true (get_or p 511 0) 1 s) ∙ ap (λ n. by_kind n p) e

pub short_open : (p : Page) → length p < 512 → sealed p ≡ false
short_open p h = ap (λ b. eqb b 1) (get_or_past p 511 0 (omega arith))

pub decoded_open : (p : Page) → sealed p ≡ false → record_of p ≡ broken
unfolding record_of
decoded_open p h = ap (λ b. pick b (by_kind (get_or p 0 0) p) broken) h

pub decoded_other :
    (p : Page) → (get_or p 0 0 ≡ 1 → ⊥) → (get_or p 0 0 ≡ 2 → ⊥) → (get_or p 0 0 ≡ 3 → ⊥) → (get_or p 0 0 ≡ 4 → ⊥) → sealed p ≡ true → record_of p ≡ broken
decoded_other p a b c d s = sealed_by p (eqb-true (get_or p 511 0) 1 s) ∙ rw (ne_eqb (get_or p 0 0) 1 a, ne_eqb (get_or p 0 0) 2 b, ne_eqb (get_or p 0 0) 3 c, ne_eqb (get_or p 0 0) 4 d) refl

-- WHAT THE CODE DECODED, of a page that was seen to be sealed
pub decoded_as : (q p : Page) (k : ℕ) → (q ≡ p) × (sealed p ≡ true) → get_or q 0 0 ≡ k → by_kind k q ≡ record_of p
decoded_as q p k s e = ap (by_kind k) s.0 ∙ sym (decoded p k s.1 (sym (ap (λ z. get_or z 0 0) s.0) ∙ e))

pub decoded_else :
    (q p : Page) → (q ≡ p) × (sealed p ≡ true) → (get_or q 0 0 ≡ 1 → ⊥) → (get_or q 0 0 ≡ 2 → ⊥) → (get_or q 0 0 ≡ 3 → ⊥) → (get_or q 0 0 ≡ 4 → ⊥) → broken ≡ record_of p
decoded_else q p s a b c d =
    let e = ap (λ z. get_or z 0 0) s.0 in
    sym (decoded_other p (λ h. a (e ∙ h)) (λ h. b (e ∙ h)) (λ h. c (e ∙ h)) (λ h. d (e ∙ h)) s.1)
