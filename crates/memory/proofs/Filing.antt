-- The table of files. Assumes nothing.
use Rattle.std.proofs.Common.{◌≡◌, ℕ, zero, suc, ◌+◌, ◌-◌, ◌*◌, ◌%◌, ◌<◌, ◌≤◌, true, false, ◌&&◌, eqb, ltb, leb, List, [], ◌∷◌, ◌++◌, map, length, get_or, take, drop, set, sym, refl, ap, ◌∙◌, append_assoc, add-one, arith}
use Rattle.std.proofs.lemmas.List.{length-take, length-drop, length-map, length-take-le, set_at, map_more, take_all, drop_all, drop-drop, drop_more, append-nil}
use Rattle.std.proofs.lemmas.Bool.{lt-ltb, le-ltb, le-leb, lt-leb, and_right}
use Rattle.plain.specs.Pattern.{pick, added_up, same}
use Rattle.plain.specs.Device.{lesser}
use Rattle.std.specs.List.{list_all, zip}
use Rattle.plain.proofs.Basics.{added_append}
use Rattle.journal.specs.Small.{Entry}
use Rattle.commands.specs.Plan.{look_up, slot_of}
use Rattle.memory.specs.Numbers.{capped}
use Rattle.memory.specs.Registers.{part, with_part}
use Rattle.memory.specs.Sections.{low, over, file_numbers, can_file}
use Rattle.memory.specs.Abstract.{file_at, file_head, files_at}

-- BYTES OVER THE FRONT of a section
pub laid_more : (bs s t : List ℕ) (i : ℕ) → i < length bs → length bs ≤ length s → t ≡ map low (take i bs) ++ drop i s
    → set t i (low (get_or bs i 0)) ≡ map low (take (i + 1) bs) ++ drop (i + 1) s
laid_more bs s t i h k e =
    let n : length (map low (take i bs)) ≡ i = length-map _ _ ∙ length-take-le i bs (omega arith) in
    let hs : i < length s = omega arith in
    ap (λ u. set u i (low (get_or bs i 0))) e
    ∙ rw (drop_more s i 0, map_more low bs i 0, append_assoc) (set_at (map low (take i bs)) (get_or s i 0) (drop (i + 1) s) (low (get_or bs i 0)) i n)

pub laid_all : (bs s t : List ℕ) (i : ℕ) → i ≡ length bs → t ≡ map low (take i bs) ++ drop i s → t ≡ over bs s
laid_all bs s t i n e = e ∙ rw (n, take_all (length bs) bs (omega arith))

-- THE TABLE
pub length-files : (n : ℕ) (s : List ℕ) → length (files_at n s) ≡ n
unfolding files_at
length-files zero s = refl
length-files (suc n) s = ap suc (length-files n (drop 67 s))

pub files-more : (n : ℕ) (s : List ℕ) → files_at (n + 1) s ≡ files_at n s ++ file_at (part (67 * n) 67 s) ∷ []
unfolding files_at
files-more zero s = refl
files-more (suc n) s =
    let k : suc n + 1 ≡ suc (n + 1) = omega arith in
    let j : 67 + 67 * n ≡ 67 * suc n = omega arith in
    ap (λ t. files_at t s) k ∙ ap (λ t. file_at (take 67 s) ∷ t) (files-more n (drop 67 s))
    ∙ ap (λ t. file_at (take 67 s) ∷ (files_at n (drop 67 s) ++ file_at (take 67 t) ∷ [])) (drop-drop (67 * n) 67 s ∙ ap (λ t. drop t s) j)

pub files_from : (i n : ℕ) (s : List ℕ) → drop i (files_at (i + n) s) ≡ files_at n (drop (67 * i) s)
unfolding files_at
files_from zero n s = ap (λ t. files_at t s) (omega arith)
files_from (suc i) n s =
    let k : suc i + n ≡ suc (i + n) = omega arith in
    let j : 67 + 67 * i ≡ 67 * suc i = omega arith in
    ap (λ t. drop (suc i) (files_at t s)) k ∙ files_from i n (drop 67 s) ∙ ap (files_at n) (drop-drop (67 * i) 67 s ∙ ap (λ t. drop t s) j)

files-cons : (k : ℕ) (s : List ℕ) → files_at (suc k) s ≡ file_at (take 67 s) ∷ files_at k (drop 67 s)
unfolding files_at
files-cons k s = refl

pub file_there : (i n : ℕ) (s : List ℕ) → i < n → drop i (files_at n s) ≡ file_at (part (67 * i) 67 s) ∷ drop (i + 1) (files_at n s)
file_there i n s h =
    let a : n ≡ i + suc (n - i - 1) = omega arith in
    let b : n ≡ (i + 1) + (n - i - 1) = omega arith in
    let j : 67 * i + 67 ≡ 67 * (i + 1) = omega arith in
    ap (λ t. drop i (files_at t s)) a ∙ files_from i (suc (n - i - 1)) s ∙ files-cons (n - i - 1) (drop (67 * i) s)
    ∙ ap (λ t. file_at (part (67 * i) 67 s) ∷ files_at (n - i - 1) t) (drop-drop 67 (67 * i) s ∙ ap (λ t. drop t s) j)
    ∙ ap (λ t. file_at (part (67 * i) 67 s) ∷ t) (sym (ap (λ t. drop (i + 1) (files_at t s)) b ∙ files_from (i + 1) (n - i - 1) s))

-- a file's name is as long as it says
pub name-long : (s : List ℕ) → length s ≡ 67 → length (file_at s).name ≡ (file_head s).name
name-long s h = length-map _ _ ∙ length-take (get_or s 0 0 % 65) (drop 3 s) ∙ simp length-drop (omega arith)

-- SUMS over the files
pub added_more : (f : Entry → ℕ) (n : ℕ) (s : List ℕ) (v : ℕ) → v ≡ f (file_at (part (67 * n) 67 s)) → added_up f (files_at n s) + v ≡ added_up f (files_at (n + 1) s)
added_more f n s v e =
    sym (ap (added_up f) (files-more n s) ∙ added_append f (files_at n s) (file_at (part (67 * n) 67 s) ∷ []) ∙ omega (arith, e))

-- LOOKING UP A NAME
pub same_unlike : (xs ys : List ℕ) → (length xs ≡ length ys → ⊥) → same xs ys ≡ false
unfolding same
same_unlike [] [] h = absurd (h refl)
same_unlike [] (y ∷ ys) h = refl
same_unlike (x ∷ xs) [] h = refl
same_unlike (x ∷ xs) (y ∷ ys) h = and_right (eqb x y) (same xs ys) (same_unlike xs ys (λ e. h (ap suc e)))

pub same_zip : (cs bs : List ℕ) → length cs ≡ length bs → list_all (λ p. eqb (p.0 % 256) p.1) (zip cs bs) ≡ same (map low cs) bs
unfolding same
same_zip [] [] h = refl
same_zip [] (b ∷ bs) h = absurd (omega arith)
same_zip (c ∷ cs) [] h = absurd (omega arith)
same_zip (c ∷ cs) (b ∷ bs) h = ap (λ t. eqb (c % 256) b && t) (same_zip cs bs (omega arith))

module _ (name : List ℕ) (i n before : ℕ) (s : List ℕ) (h : i < n) where
  pub found_here : same (file_at (part (67 * i) 67 s)).name name ≡ true
      → look_up name i before (drop i (files_at n s)) ≡ slot_of true i before (file_head (part (67 * i) 67 s)).lines (file_head (part (67 * i) 67 s)).size
  unfolding look_up
  found_here e =
      ap (look_up name i before) (file_there i n s h)
      ∙ ap (λ b. pick b (slot_of true i before (file_head (part (67 * i) 67 s)).lines (file_head (part (67 * i) 67 s)).size) (look_up name (suc i) (before + (file_head (part (67 * i) 67 s)).lines) (drop (i + 1) (files_at n s)))) e

  pub found_later : same (file_at (part (67 * i) 67 s)).name name ≡ false
      → look_up name i before (drop i (files_at n s)) ≡ look_up name (i + 1) (before + (file_head (part (67 * i) 67 s)).lines) (drop (i + 1) (files_at n s))
  unfolding look_up
  found_later e =
      ap (look_up name i before) (file_there i n s h)
      ∙ ap (λ b. pick b (slot_of true i before (file_head (part (67 * i) 67 s)).lines (file_head (part (67 * i) 67 s)).size) (look_up name (suc i) (before + (file_head (part (67 * i) 67 s)).lines) (drop (i + 1) (files_at n s)))) e
      ∙ ap (λ k. look_up name k (before + (file_head (part (67 * i) 67 s)).lines) (drop (i + 1) (files_at n s))) (sym (add-one i))

pub found_none : (name : List ℕ) (i n before : ℕ) (s : List ℕ) → n ≤ i → look_up name i before (drop i (files_at n s)) ≡ slot_of false i before 0 0
unfolding look_up
found_none name i n before s h = ap (look_up name i before) (drop_all i (files_at n s) (omega (arith, length-files n s)))

-- A FILE PUT INTO ITS PLACE
pub file_put : (bs : List ℕ) (lines size : ℕ) (s q l : List ℕ) → length s ≡ 67 → q ≡ length bs ∷ capped lines ∷ capped size ∷ []
    → l ≡ over bs (take 64 (drop 3 (q ++ drop 3 s))) → with_part 3 64 (q ++ drop 3 s) l ≡ file_numbers bs lines size s
file_put bs lines size s q l h e f =
    let k : length (drop 3 s) ≡ 64 = length-drop 3 s ∙ omega arith in
    ap (with_part 3 64 (q ++ drop 3 s)) f
    ∙ (λ i. with_part 3 64 (e i ++ drop 3 s) (over bs (take 64 (drop 3 (e i ++ drop 3 s)))))
    ∙ (λ i. length bs ∷ capped lines ∷ capped size ∷ (over bs (take_all 64 (drop 3 s) (omega arith) i) ++ drop_all 64 (drop 3 s) (omega arith) i))
    ∙ ap (λ t. length bs ∷ capped lines ∷ capped size ∷ t) (append-nil (over bs (drop 3 s)))

pub can_not-place : (files i n : ℕ) → 64 ≤ lesser i files → can_file files i n ≡ false
can_not-place files i n h = ap (λ b. b && leb n 64) (le-ltb (lesser i files) 64 h)

pub can_not-name : (files i n : ℕ) → 64 < n → can_file files i n ≡ false
can_not-name files i n h = and_right (ltb (lesser i files) 64) (leb n 64) (lt-leb n 64 h)

pub can_both : (files i n : ℕ) → lesser i files < 64 → n ≤ 64 → can_file files i n ≡ true
can_both files i n h k = λ j. lt-ltb (lesser i files) 64 h j && le-leb n 64 k j
