-- What the functions on the ring, the files and names mean. Assumes nothing.
use Rattle.std.proofs.Common.{◌≡◌, ℕ, zero, suc, ◌+◌, ◌*◌, ◌%◌, ◌<◌, ◌≤◌, true, ltb, leb, List, [], ◌∷◌, ◌++◌, map, length, take, drop, set, sym, refl, ap, ◌∙◌, subst, inl, inr, mod-eq_of_lt, add-one, arith}
use Rattle.std.proofs.lemmas.List.{length-take, length-drop, length-append, length-map, length-set, map-append, drop-map, take_all, take_at, drop_at, drop_all, take_more, take-set, get_or-set_same, drop-drop, drop-take, drop-append-le}
use Rattle.std.proofs.lemmas.Bool.{lt-ltb, le-ltb, le-leb, and_parts, ltb-true, leb-true, cases_lt}
use Rattle.plain.specs.Pattern.{all_bytes}
use Rattle.plain.specs.Device.{lesser}
use Rattle.journal.specs.Small.{entry, pushed}
use Rattle.memory.specs.Numbers.{capped}
use Rattle.memory.specs.Registers.{part, with_part}
use Rattle.memory.specs.Sections.{low, ring_in, files_in, name_in, with_name, ring_count, ring_pushed, with_weight, over, name_kept, file_numbers, with_file, can_file, file_count, file_set}
use Rattle.memory.specs.Abstract.{ring_of, file_at, files_at, files_of, name_of}
use Rattle.memory.proofs.Parted as parted
use Rattle.memory.proofs.Frames.{BesideRing, BesideFiles, BesideName, beside_weights, beside_table, beside_bytes}
use Rattle.memory.proofs.Weighing.{ring_long}
use Rattle.memory.proofs.Filing.{length-files, files-more}
use Rattle.memory.proofs.Committing.{pick_yes, pick_no}

-- bytes are their own low bytes
pub low_bytes : (bs : List ℕ) → all_bytes bs ≡ true → map low bs ≡ bs
low_bytes [] h = refl
low_bytes (b ∷ bs) h =
    let a = and_parts (ltb b 256) (all_bytes bs) h in
    let e : low b ≡ b = mod-eq_of_lt (ltb-true b 256 a.0) in
    λ i. e i ∷ low_bytes bs a.1 i

-- THE RING
pushed_long : (n w : ℕ) (s : List ℕ) → length s ≡ 64 → length (ring_pushed n w s) ≡ 64
pushed_long n w s h = elim (cases_lt n 64) [
  | inl t ↦ ap length (pick_yes (ltb n 64) (set s n (capped w)) (drop 1 s ++ capped w ∷ []) (lt-ltb n 64 t)) ∙ length-set s n (capped w) ∙ h
  | inr t ↦ ap length (pick_no (ltb n 64) (set s n (capped w)) (drop 1 s ++ capped w ∷ []) (le-ltb n 64 t)) ∙ length-append (drop 1 s) (capped w ∷ [])
      ∙ simp length-drop (omega arith)
]

pub beside_weight : (n w : ℕ) (m : List ℕ) → length m ≡ 262144 → BesideRing m (with_weight n w m)
unfolding with_weight
beside_weight n w m h = beside_weights m (ring_pushed n w (ring_in m)) h (pushed_long n w (ring_in m) (parted.length_part 64 64 m (omega arith)))

twice : (w : ℕ) → w < 4294967296 → capped (capped w) ≡ w
twice w h = ap capped (mod-eq_of_lt h) ∙ mod-eq_of_lt h

weights_in : (n w : ℕ) (m : List ℕ) → length m ≡ 262144 → ring_in (with_weight n w m) ≡ ring_pushed n w (ring_in m)
unfolding with_weight
weights_in n w m h =
    parted.part_with 64 64 m (ring_pushed n w (ring_in m)) (omega arith) (pushed_long n w (ring_in m) (parted.length_part 64 64 m (omega arith)))

module _ (n w : ℕ) (m : List ℕ) (h : length m ≡ 262144) (v : w < 4294967296) where
  long : length (ring_in m) ≡ 64
  long = parted.length_part 64 64 m (omega arith)

  weight-more : n < 64 → ring_of (ring_count n) (with_weight n w m) ≡ pushed (ring_of n m) w
  unfolding ring_of
  weight-more t =
      let l : length (ring_of n m) ≡ n = ring_long n m h (omega arith) in
      let k = long in
      (λ i. map capped (take (pick_yes (ltb n 64) (n + 1) 64 (lt-ltb n 64 t) i) (weights_in n w m h i)))
      ∙ ap (λ s. map capped (take (n + 1) s)) (pick_yes (ltb n 64) (set (ring_in m) n (capped w)) (drop 1 (ring_in m) ++ capped w ∷ []) (lt-ltb n 64 t))
      ∙ ap (map capped) (take_more (set (ring_in m) n (capped w)) n 0 (omega (arith, length-set (ring_in m) n (capped w))))
      ∙ map-append capped (take n (set (ring_in m) n (capped w))) _
      ∙ (λ i. map capped (take-set (ring_in m) n (capped w) i) ++ capped (get_or-set_same (ring_in m) n (capped w) 0 (omega arith) i) ∷ [])
      ∙ ap (λ x. ring_of n m ++ x ∷ []) (twice w v)
      ∙ sym (pick_yes (ltb (length (ring_of n m)) 64) (ring_of n m ++ w ∷ []) (drop 1 (ring_of n m) ++ w ∷ []) (lt-ltb (length (ring_of n m)) 64 (omega arith)))

  weight_full : n ≡ 64 → ring_of (ring_count n) (with_weight n w m) ≡ pushed (ring_of n m) w
  unfolding ring_of
  weight_full t =
      let l : length (ring_of n m) ≡ n = ring_long n m h (omega arith) in
      let k = long in
      let b = le-ltb n 64 (omega arith) in
      (λ i. map capped (take (pick_no (ltb n 64) (n + 1) 64 b i) (weights_in n w m h i)))
      ∙ ap (λ s. map capped (take 64 s)) (pick_no (ltb n 64) (set (ring_in m) n (capped w)) (drop 1 (ring_in m) ++ capped w ∷ []) b)
      ∙ ap (map capped) (take_all 64 (drop 1 (ring_in m) ++ capped w ∷ []) (simp (length-append, length-drop) (omega arith)))
      ∙ map-append capped (drop 1 (ring_in m)) (capped w ∷ [])
      ∙ (λ i. sym (drop-map capped 1 (ring_in m)) i ++ twice w v i ∷ [])
      ∙ ap (λ s. drop 1 (map capped s) ++ w ∷ []) (sym (take_all n (ring_in m) (omega arith)))
      ∙ sym (pick_no (ltb (length (ring_of n m)) 64) (ring_of n m ++ w ∷ []) (drop 1 (ring_of n m) ++ w ∷ []) (le-ltb (length (ring_of n m)) 64 (omega arith)))

  pub weight_means : n ≤ 64 → ring_of (ring_count n) (with_weight n w m) ≡ pushed (ring_of n m) w
  weight_means g = elim (cases_lt n 64) [ inl t ↦ weight-more t | inr t ↦ weight_full (omega arith) ]

-- NAMES
over-long : (bs s : List ℕ) → length bs ≤ length s → length (over bs s) ≡ length s
over-long bs s h = length-append (map low bs) (drop (length bs) s) ∙ simp (length-map, length-drop) (omega arith)

over_front : (bs s : List ℕ) → all_bytes bs ≡ true → map low (take (length bs) (over bs s)) ≡ bs
over_front bs s h =
    ap (map low) (take_at (map low bs) (drop (length bs) s) (length bs) (length-map bs low)) ∙ ap (map low) (low_bytes bs h) ∙ low_bytes bs h

pub name_means : (bs m : List ℕ) → length m ≡ 262144 → length bs ≤ 64 → all_bytes bs ≡ true → name_of (length bs) (name_kept bs m) ≡ bs
unfolding name_of name_kept
name_means bs m h g b =
    let l = parted.length_part 4416 64 m (omega arith) in
    ap (λ t. map low (take (length bs) (name_in t))) (pick_yes (leb (length bs) 64) (with_name m (over bs (name_in m))) m (le-leb (length bs) 64 g))
    ∙ ap (λ t. map low (take (length bs) t)) (parted.part_with 4416 64 m (over bs (name_in m)) (omega arith) (over-long bs (name_in m) (omega arith) ∙ l))
    ∙ over_front bs (name_in m) b

pub beside_kept-name : (bs m : List ℕ) → length m ≡ 262144 → length bs ≤ 64 → BesideName m (name_kept bs m)
unfolding name_kept
beside_kept-name bs m h g =
    let l = parted.length_part 4416 64 m (omega arith) in
    rw (le-leb (length bs) 64 g) (beside_bytes m (over bs (name_in m)) h (over-long bs (name_in m) (omega arith) ∙ l))

-- FILES
numbers-long : (bs : List ℕ) (lines size : ℕ) (old : List ℕ) → length old ≡ 67 → length bs ≤ 64 → length (file_numbers bs lines size old) ≡ 67
numbers-long bs lines size old h g =
    let l : length (over bs (drop 3 old)) ≡ 64 = over-long bs (drop 3 old) (simp length-drop (omega arith)) ∙ length-drop 3 old ∙ omega arith in omega arith

-- the file that the numbers are
pub file_back : (bs : List ℕ) (lines size : ℕ) (old : List ℕ) → length bs ≤ 64 → all_bytes bs ≡ true → lines < 4294967296 → size < 4294967296
    → file_at (file_numbers bs lines size old) ≡ entry bs lines size
file_back bs lines size old g b hl hs =
    let n : length bs % 65 ≡ length bs = mod-eq_of_lt (omega arith) in
    λ i. entry ((ap (λ k. map low (take k (over bs (drop 3 old)))) n ∙ over_front bs (drop 3 old) b) i) (twice lines hl i) (twice size hs i)

drop_with : (a b k : ℕ) (t f : List ℕ) → a ≤ length t → drop a (with_part (a + b) k t f) ≡ with_part b k (drop a t) f
drop_with a b k t f h =
    drop-append-le a (take (a + b) t) (f ++ drop k (drop (a + b) t)) (simp length-take (omega arith))
    ∙ (λ i. drop-take a b t i ++ (f ++ drop k (sym (drop-drop b a t) i)))

-- a file in its place
pub files_put : (k i : ℕ) (t f : List ℕ) → i < k → 67 * k ≤ length t → length f ≡ 67
    → files_at k (with_part (67 * i) 67 t f) ≡ take i (files_at k t) ++ (file_at f ∷ drop (i + 1) (files_at k t))
unfolding files_at
files_put zero i t f h g l = absurd (omega arith)
files_put (suc k) zero t f h g l = λ i. file_at (take_at f (drop 67 t) 67 l i) ∷ files_at k (drop_at f (drop 67 t) 67 l i)
files_put (suc k) (suc i) t f h g l =
    let j : 67 + 67 * i ≡ 67 * suc i = omega arith in
    let d : drop 67 (with_part (67 * suc i) 67 t f) ≡ with_part (67 * i) 67 (drop 67 t) f =
    ap (λ n. drop 67 (with_part n 67 t f)) (sym j) ∙ drop_with 67 (67 * i) 67 t f (omega arith) in
    let b : take 67 (with_part (67 * suc i) 67 t f) ≡ take 67 t = parted.part-before (67 * suc i) 67 t f (omega arith) 0 67 (omega arith) in
    let r = files_put k i (drop 67 t) f (omega arith) (simp length-drop (omega arith)) l in
    let e : i + 1 ≡ suc i = add-one i in
    let e₁ : suc i + 1 ≡ suc (suc i) = add-one (suc i) in
    (λ v. file_at (b v) ∷ files_at k (d v))
    ∙ ap (λ x. file_at (take 67 t) ∷ x) (r ∙ ap (λ n. take i (files_at k (drop 67 t)) ++ (file_at f ∷ drop n (files_at k (drop 67 t)))) e)
    ∙ ap (λ n. take (suc i) (files_at (suc k) t) ++ (file_at f ∷ drop n (files_at (suc k) t))) (sym e₁)

module _ (i : ℕ) (bs : List ℕ) (lines size : ℕ) (m : List ℕ) (h : length m ≡ 262144) (g : i < 64) (gn : length bs ≤ 64) where
  table : length (files_in m) ≡ 4288
  table = parted.length_part 128 4288 m (omega arith)

  abbrev numbers : List ℕ
  numbers = file_numbers bs lines size (part (67 * i) 67 (files_in m))

  long-numbers : length numbers ≡ 67
  long-numbers = let t = table in numbers-long bs lines size (part (67 * i) 67 (files_in m)) (parted.length_part (67 * i) 67 (files_in m) (omega arith)) gn

  long-table : length (with_part (67 * i) 67 (files_in m) numbers) ≡ 4288
  long-table = let t = table in parted.length_with (67 * i) 67 (files_in m) numbers (omega arith) long-numbers ∙ t

  pub beside_file : BesideFiles m (with_file i bs lines size m)
  unfolding with_file
  beside_file = beside_table m (with_part (67 * i) 67 (files_in m) numbers) h long-table

  pub file_put_means : (k : ℕ) → i < k → k ≤ 64 → all_bytes bs ≡ true → lines < 4294967296 → size < 4294967296
      → files_of k (with_file i bs lines size m) ≡ take i (files_of k m) ++ (entry bs lines size ∷ drop (i + 1) (files_of k m))
  unfolding with_file
  file_put_means k hk gk b hl hs =
      let t = table in
      ap (files_at k) (parted.part_with 128 4288 m (with_part (67 * i) 67 (files_in m) numbers) (omega arith) long-table)
      ∙ files_put k i (files_in m) numbers hk (omega arith) long-numbers
      ∙ ap (λ e. take i (files_of k m) ++ (e ∷ drop (i + 1) (files_of k m))) (file_back bs lines size (part (67 * i) 67 (files_in m)) gn b hl hs)

-- what a stored file makes of the table
module _ (n i : ℕ) (bs : List ℕ) (lines size : ℕ) (m : List ℕ) (h : length m ≡ 262144) (c : can_file n i (length bs) ≡ true) where
  can_place : lesser i n < 64
  can_place = ltb-true (lesser i n) 64 (and_parts (ltb (lesser i n) 64) (leb (length bs) 64) c).0

  can_name : length bs ≤ 64
  can_name = leb-true (length bs) 64 (and_parts (ltb (lesser i n) 64) (leb (length bs) 64) c).1

  set_is : file_set n i bs lines size m ≡ with_file (lesser i n) bs lines size m
  unfolding file_set
  set_is = pick_yes (can_file n i (length bs)) (with_file (lesser i n) bs lines size m) m c

  pub beside_set : BesideFiles m (file_set n i bs lines size m)
  beside_set = subst (BesideFiles m) (sym set_is) (beside_file (lesser i n) bs lines size m h can_place can_name)

  module _ (few : n ≤ 64) (b : all_bytes bs ≡ true) (hl : lines < 4294967296) (hs : size < 4294967296) where
    set_there : i < n → files_of (file_count n i) (file_set n i bs lines size m) ≡ take i (files_of n m) ++ (entry bs lines size ∷ drop (suc i) (files_of n m))
    set_there t =
        let p : lesser i n ≡ i = pick_yes (ltb i n) i n (lt-ltb i n t) in
        (λ j. files_of (pick_yes (ltb i n) n (n + 1) (lt-ltb i n t) j) (set_is j))
        ∙ ap (λ k. files_of n (with_file k bs lines size m)) p
        ∙ file_put_means i bs lines size m h (omega arith) can_name n t few b hl hs
        ∙ ap (λ k. take i (files_of n m) ++ (entry bs lines size ∷ drop k (files_of n m))) (add-one i)

    set_new : n ≤ i → files_of (file_count n i) (file_set n i bs lines size m) ≡ take i (files_of n m) ++ (entry bs lines size ∷ drop (suc i) (files_of n m))
    set_new t =
        let p : lesser i n ≡ n = pick_no (ltb i n) i n (le-ltb i n t) in
        let r = can_place in
        let ln = length-files n (files_in m) in
        let lm : length (files_of (n + 1) m) ≡ n + 1 = length-files (n + 1) (files_in m) in
        let front : take n (files_of (n + 1) m) ≡ files_of n m = ap (take n) (files-more n (files_in m)) ∙ take_at (files_of n m) _ n ln in
        (λ j. files_of (pick_no (ltb i n) n (n + 1) (le-ltb i n t) j) (set_is j))
        ∙ ap (λ k. files_of (n + 1) (with_file k bs lines size m)) p
        ∙ file_put_means n bs lines size m h (omega arith) can_name (n + 1) (omega arith) (omega arith) b hl hs
        ∙ (λ j. front j ++ (entry bs lines size ∷ drop_all (n + 1) (files_of (n + 1) m) (omega arith) j))
        ∙ (λ j. sym (take_all i (files_of n m) (omega arith)) j ++ (entry bs lines size ∷ sym (drop_all (suc i) (files_of n m) (omega arith)) j))

    pub set-means : files_of (file_count n i) (file_set n i bs lines size m) ≡ take i (files_of n m) ++ (entry bs lines size ∷ drop (suc i) (files_of n m))
    set-means = elim (cases_lt i n) [ inl t ↦ set_there t | inr t ↦ set_new t ]
