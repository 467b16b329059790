-- Lines in records: how many pieces a line has, which they are, and that each fits a record. Assumes nothing.
use Rattle.std.proofs.Common.{◌≡◌, ℕ, zero, suc, ◌+◌, ◌-◌, ◌*◌, ◌<◌, ◌≤◌, min, Bool, true, false, ltb, leb, List, [], ◌∷◌, map, length, get_or, take, drop, sym, refl, ap, ◌∙◌, add-zero, arith, length-drop, length-take}
use lib.ListN.{get_or-map}
use Rattle.std.proofs.lemmas.List.{get_or_default}
use Rattle.std.proofs.lemmas.Bool.{and_parts, leb-true}
use Rattle.plain.specs.Pattern.{pick, every, all_bytes}
use Rattle.plain.specs.House.{File}
use Rattle.plain.proofs.Basics.{every_append}
use Rattle.journal.specs.Log.{copy, no_piece, pieces_of, copies, copy_records}
use Rattle.records.specs.Pages.{page_of}
use Rattle.commands.specs.Kept.{Kept, directory, fit_line, fit_lines, fit_file, fit_name, file_lines, Sound}
use Rattle.records.specs.Lines.{share}
use Rattle.engine.specs.Fits.{Word, PieceFits, RecordFits}
use Rattle.engine.specs.Packing.{records_of, piece_of, pieces_from, packed, packs}
use Rattle.engine.proofs.Facts.{Codec}

-- HOW MANY
pub records_few : (n : ℕ) → (1 ≤ records_of n) × (records_of n ≤ 3)
records_few n = go (ltb 1006 n) (ltb 503 n)
  where
    go : (a b : Bool) → (1 ≤ pick a 3 (pick b 2 1)) × (pick a 3 (pick b 2 1) ≤ 3)
    go true b = omega arith
    go false true = omega arith
    go false false = omega arith

pub length-pieces : (l : List ℕ) (j n : ℕ) → length (pieces_from l j n) ≡ n
unfolding pieces_from
length-pieces l j zero = refl
length-pieces l j (suc n) = ap suc (length-pieces l (suc j) n)

-- all of them, from the first on
pub pieces_all : (l : List ℕ) → pieces_from l 0 (records_of (length l)) ≡ pieces_of (packed l)
unfolding pieces_from
pieces_all l =
    let h = records_few (length l) in
    let e : records_of (length l) ≡ suc (records_of (length l) - 1) = omega arith in
    ap (pieces_from l 0) e

pub packed-long : (l : List ℕ) → length (pieces_of (packed l)) ≡ records_of (length l)
packed-long l = sym (ap length (pieces_all l)) ∙ length-pieces l 0 (records_of (length l))

-- WHICH
pieces-at : (l : List ℕ) (j n i : ℕ) → i < n → get_or (pieces_from l j n) i no_piece ≡ piece_of l (j + i)
unfolding pieces_from
pieces-at l j zero i h = absurd (omega arith)
pieces-at l j (suc n) zero h = ap (piece_of l) (sym (add-zero j))
pieces-at l j (suc n) (suc i) h = pieces-at l (suc j) n i (omega arith) ∙ ap (piece_of l) (let e : suc j + i ≡ j + suc i = omega arith in e)

pub packed-at : (l : List ℕ) (j : ℕ) → j < records_of (length l) → get_or (pieces_of (packed l)) j no_piece ≡ piece_of l j
packed-at l j h =
    sym (ap (λ z. get_or z j no_piece) (pieces_all l)) ∙ pieces-at l 0 (records_of (length l)) j h ∙ ap (piece_of l) (let e : 0 + j ≡ j = omega arith in e)

-- a line of what is kept
abbrev pub line_of : List (List ℕ) → ℕ → List ℕ
line_of ls i = get_or ls i []

pub packs-at : (ls : List (List ℕ)) (i : ℕ) → i < length ls → get_or (packs ls) i (packed (line_of ls i)) ≡ packed (line_of ls i)
packs-at ls i h = get_or-map packed ls i (line_of ls i) ∙ ap packed (get_or_default ls i (line_of ls i) [] h)

-- WHAT FITS
every_take : (p : ℕ → Bool) (n : ℕ) (bs : List ℕ) → every p bs ≡ true → every p (take n bs) ≡ true
every_take p zero bs h = refl
every_take p (suc n) [] h = refl
every_take p (suc n) (b ∷ bs) h = let q = and_parts (p b) (every p bs) h in rw q.0 (every_take p n bs q.1)

every_drop : (p : ℕ → Bool) (n : ℕ) (bs : List ℕ) → every p bs ≡ true → every p (drop n bs) ≡ true
every_drop p zero bs h = h
every_drop p (suc n) [] h = refl
every_drop p (suc n) (b ∷ bs) h = every_drop p n bs (and_parts (p b) (every p bs) h).1

share_is : (m j : ℕ) → min 503 (m - 503 * j) ≡ share m j
share_is m j = grind arith

pub piece-fits : (l : List ℕ) (j : ℕ) → fit_line l ≡ true → PieceFits j (piece_of l j)
piece-fits l j h =
    let q = and_parts (leb (length l) 1024) (all_bytes l) h in
    record {
      long = leb-true (length l) 1024 q.0;
      here = length-take 503 (drop (503 * j) l) ∙ ap (min 503) (length-drop (503 * j) l) ∙ share_is (length l) j;
      bytes = every_take (λ b. ltb b 256) 503 (drop (503 * j) l) (every_drop (λ b. ltb b 256) (503 * j) l q.1);
    }

files_fit : (fs : List File) → every fit_file fs ≡ true → fit_lines (file_lines fs) ≡ true
files_fit [] h = refl
files_fit (f ∷ fs) h =
    let q = and_parts (fit_file f) (every fit_file fs) h in
    let q₁ = and_parts (fit_name f.name) (fit_lines f.lines) q.0 in
    every_append fit_line f.lines (file_lines fs) ∙ (let a = q₁.1 in let b = files_fit fs q.1 in rw (a, b))

pub directory-fits : (k : Kept) → Sound k → fit_lines (directory k) ≡ true
directory-fits k s = every_append fit_line (file_lines k.files) k.text ∙ (let a = files_fit k.files s.files_fit in let b = s.lines_fit in rw (a, b))

pub line-fits : (ls : List (List ℕ)) (i : ℕ) → fit_lines ls ≡ true → fit_line (line_of ls i) ≡ true
line-fits [] i h = refl
line-fits (l ∷ ls) zero h = (and_parts (fit_line l) (fit_lines ls) h).0
line-fits (l ∷ ls) (suc i) h = line-fits ls i (and_parts (fit_line l) (fit_lines ls) h).1

pub long-fits : (l : List ℕ) → fit_line l ≡ true → length l ≤ 1024
long-fits l h = leb-true (length l) 1024 (and_parts (leb (length l) 1024) (all_bytes l) h).0

-- COPIES of a line, as pages
abbrev pub copy_pages : ℕ → List ℕ → ℕ → ℕ → List (List ℕ)
copy_pages i l j n = map page_of (copies i j (pieces_from l j n))

pub copy-fits : (i : ℕ) (l : List ℕ) (j : ℕ) → Word i → j ≤ 2 → fit_line l ≡ true → RecordFits (copy i j (piece_of l j))
copy-fits i l j w p h = (w, p, piece-fits l j h)

module _ (codec : Codec) where
  copies-read : (i : ℕ) (l : List ℕ) (j n : ℕ) → Word i → j + n ≤ 3 → fit_line l ≡ true → map codec.reading (copy_pages i l j n) ≡ copies i j (pieces_from l j n)
  unfolding copies pieces_from
  copies-read i l j zero w b h = refl
  copies-read i l j (suc n) w b h =
      let e = codec.reads (copy i j (piece_of l j)) (copy-fits i l j w (omega arith) h) in
      let f = copies-read i l (suc j) n w (omega arith) h in
      λ u. e u ∷ f u

  pub copies_are : (i : ℕ) (l : List ℕ) → Word i → fit_line l ≡ true → map codec.reading (copy_pages i l 0 (records_of (length l))) ≡ copy_records i (packed l)
  unfolding copies
  copies_are i l w h = copies-read i l 0 (records_of (length l)) w (let q = records_few (length l) in omega arith) h ∙ ap (copies i 0) (pieces_all l)

pub length-copy_pages : (i : ℕ) (l : List ℕ) (j n : ℕ) → length (copy_pages i l j n) ≡ n
unfolding copies pieces_from
length-copy_pages i l j zero = refl
length-copy_pages i l j (suc n) = ap suc (length-copy_pages i l (suc j) n)
