-- What the functions on the directory and on pending lines mean. Assumes nothing.
use Rattle.std.proofs.Common.{◌≡◌, ℕ, zero, suc, ◌+◌, ◌*◌, ◌/◌, ◌%◌, ◌^◌, ◌<◌, ◌≤◌, eqb, List, [], ◌∷◌, ◌++◌, map, length, get_or, take, drop, set, replicate, sym, refl, ap, ◌∙◌, arith}
use Rattle.std.proofs.lemmas.List.{length-set, length-replicate, map-set, map-append, drop-map, take-replicate, take_more, get_or-set_same, take-set}
use Rattle.plain.specs.Pattern.{pick}
use Rattle.journal.specs.Log.{hole, position}
use Rattle.journal.specs.Log as log
use Rattle.engine.specs.Machine as engine
use Rattle.engine.specs.Fits.{PositionFits}
use Rattle.lines.specs.Slots as packed
use Rattle.lines.specs.Slots.{entry, slots, with_slots}
use Rattle.lines.proofs.Packing.{slots-stored}
use Rattle.memory.specs.declared.directory.Position.{Position}
use Rattle.memory.specs.Sections.{words_in, cells_in, packed_position, entries_in, entry_at, next_at, with_entry, cleared, low, high, with_high, with_pending}
use Rattle.memory.specs.Abstract.{position_of, pending_at, dir_of, pending_of}
use Rattle.memory.proofs.Parted as parted
use Rattle.memory.proofs.Frames.{BesideDir, BesidePending, beside_words, beside-high}
use Rattle.memory.proofs.Splicing.{words_long, cells_long}

-- which position of the definitions a position of the code is
abbrev pub position_as : Position → log.Position
position_as p = position p.tape p.at

-- READING
pub entry_means : (n i : ℕ) (m : List ℕ) → position_as (entry_at n i m) ≡ get_or (dir_of n m) i hole
unfolding entry_at dir_of
entry_means n i m = sym (read (take n (entries_in m)) i)
  where
    read : (xs : List ℕ) (i : ℕ) → get_or (map position_of xs) i hole ≡ position_of (get_or xs i 0)
    read [] i = refl
    read (x ∷ xs) zero = refl
    read (x ∷ xs) (suc i) = read xs i

next_in : (t i : ℕ) (xs : List ℕ) → packed.first_on t i xs ≡ engine.next_on t i (map position_of xs)
unfolding packed.first_on engine.next_on
next_in t i [] = refl
next_in t i (x ∷ xs) = ap (pick (eqb (x / 1048576) t) i) (next_in t (suc i) xs)

pub next_means : (t i n : ℕ) (m : List ℕ) → next_at t i n m ≡ engine.next_on t i (drop i (dir_of n m))
unfolding next_at dir_of
next_means t i n m = next_in t i (drop i (take n (entries_in m))) ∙ ap (engine.next_on t i) (sym (drop-map position_of i (take n (entries_in m))))

-- WRITING ONE ENTRY
pub packed-back : (p : Position) → PositionFits (position_as p) → position_of (packed_position p.tape p.at % 2097152) ≡ position_as p
packed-back p f =
    let t = f.tape in
    let k = f.at in
    let a : packed_position p.tape p.at % 2097152 / 1048576 ≡ p.tape = omega arith in
    let b : packed_position p.tape p.at % 2097152 % 1048576 ≡ p.at = omega arith in
    λ i. position (a i) (b i)

pub take_of_set : {X : Type 0} (n i : ℕ) (x : X) (xs : List X) → take n (set xs i x) ≡ set (take n xs) i x
take_of_set zero i x xs = refl
take_of_set (suc n) i x [] = refl
take_of_set (suc n) zero x (y ∷ ys) = refl
take_of_set (suc n) (suc i) x (y ∷ ys) = ap (λ t. y ∷ t) (take_of_set n i x ys)

stored-long : (i : ℕ) (p : Position) (m : List ℕ) → length m ≡ 262144 → length (packed.stored (words_in m) i (packed_position p.tape p.at)) ≡ 174763
stored-long i p m h = length-set _ _ _ ∙ words_long m h

pub entry_set : (n i : ℕ) (p : Position) (m : List ℕ) → length m ≡ 262144 → PositionFits (position_as p)
    → dir_of n (with_entry i p m) ≡ set (dir_of n m) i (position_as p)
unfolding dir_of with_entry
entry_set n i p m h f =
    let v = packed_position p.tape p.at in
    ap (λ w. map position_of (take n (slots w))) (parted.part_with 70016 174763 m (packed.stored (words_in m) i v) (omega arith) (stored-long i p m h))
    ∙ ap (λ xs. map position_of (take n xs)) (slots-stored (words_in m) i v)
    ∙ ap (map position_of) (take_of_set n i (v % 2 ^ 21) (entries_in m))
    ∙ map-set position_of (take n (entries_in m)) i (v % 2 ^ 21)
    ∙ ap (set (map position_of (take n (entries_in m))) i) (packed-back p f)

pub beside_entry : (i : ℕ) (p : Position) (m : List ℕ) → length m ≡ 262144 → BesideDir m (with_entry i p m)
unfolding with_entry
beside_entry i p m h = beside_words m (packed.stored (words_in m) i (packed_position p.tape p.at)) h (stored-long i p m h)

-- HOLES ONLY
slots-zero : (k : ℕ) → slots (replicate k 0) ≡ replicate (3 * k) 0
slots-zero zero = refl
slots-zero (suc k) =
    let e : suc (suc (suc (3 * k))) ≡ 3 * suc k = omega arith in
    ap (λ t. 0 ∷ 0 ∷ 0 ∷ t) (slots-zero k) ∙ ap (λ n. replicate n 0) e

holes_of : (n : ℕ) → map position_of (replicate n 0) ≡ replicate n hole
holes_of zero = refl
holes_of (suc n) = ap (λ t. hole ∷ t) (holes_of n)

pub cleared_means : (n : ℕ) (m : List ℕ) → length m ≡ 262144 → n ≤ 524289 → dir_of n (cleared m) ≡ replicate n hole
unfolding dir_of cleared
cleared_means n m h g =
    ap (λ w. map position_of (take n (slots w))) (parted.part_with 70016 174763 m (replicate 174763 0) (omega arith) (length-replicate {A = ℕ} 174763 0))
    ∙ ap (λ xs. map position_of (take n xs)) (slots-zero 174763)
    ∙ ap (map position_of) (take-replicate n 524289 0 g) ∙ holes_of n

pub beside_cleared : (m : List ℕ) → length m ≡ 262144 → BesideDir m (cleared m)
unfolding cleared
beside_cleared m h = beside_words m (replicate 174763 0) h (length-replicate {A = ℕ} 174763 0)

-- ONE MORE PENDING LINE
high-back : (c e : ℕ) → high (with_high c e) ≡ e % 2097152
high-back c e = omega arith

low-back : (c e : ℕ) → low (with_high c e) ≡ low c
low-back c e = omega arith

low-set : (cs : List ℕ) (j v : ℕ) → low v ≡ low (get_or cs j 0) → map low (set cs j v) ≡ map low cs
low-set [] j v e = refl
low-set (c ∷ cs) zero v e = ap (λ t. t ∷ map low cs) e
low-set (c ∷ cs) (suc j) v e = ap (λ t. low c ∷ t) (low-set cs j v e)

pub pending-pushed : (j : ℕ) (p : Position) (m : List ℕ) → length m ≡ 262144 → j < 65536 → PositionFits (position_as p)
    → pending_of (j + 1) (with_pending j p m) ≡ pending_of j m ++ position_as p ∷ []
unfolding pending_of with_pending
pending-pushed j p m h g f =
    let l = cells_long m h in
    let v = with_high (get_or (cells_in m) j 0) (packed_position p.tape p.at) in
    let cs = set (cells_in m) j v in
    let ls : length cs ≡ 65536 = length-set _ _ _ ∙ l in
    ap (λ t. map pending_at (take (j + 1) t)) (parted.part_with 4480 65536 m cs (omega arith) ls)
    ∙ ap (map pending_at) (take_more cs j 0 (omega arith))
    ∙ map-append pending_at (take j cs) (get_or cs j 0 ∷ [])
    ∙ (λ i. map pending_at (take-set (cells_in m) j v i) ++ pending_at (get_or-set_same (cells_in m) j v 0 (omega arith) i) ∷ [])
    ∙ ap (λ t. map pending_at (take j (cells_in m)) ++ t ∷ []) (ap position_of (high-back (get_or (cells_in m) j 0) (packed_position p.tape p.at)) ∙ packed-back p f)

pub beside_pushed : (j : ℕ) (p : Position) (m : List ℕ) → length m ≡ 262144 → BesidePending m (with_pending j p m)
unfolding with_pending
beside_pushed j p m h =
    let v = with_high (get_or (cells_in m) j 0) (packed_position p.tape p.at) in
    beside-high m (set (cells_in m) j v) h (length-set _ _ _ ∙ cells_long m h)
    (low-set (cells_in m) j v (low-back (get_or (cells_in m) j 0) (packed_position p.tape p.at)))
