-- The ring, and sums over it. Assumes nothing.
use Rattle.std.proofs.Common.{◌≡◌, ℕ, zero, suc, ◌+◌, ◌*◌, ◌<◌, ◌≤◌, List, [], ◌∷◌, ◌++◌, map, length, get_or, take, drop, set, sym, refl, ap, ◌∙◌, arith}
use Rattle.std.proofs.lemmas.List.{length-take, length-map, take-take, set_at, map_more, get_or-map, get_or-take}
use Rattle.std.proofs.lemmas.List.Sums.{sum_by-cons}
use Rattle.std.specs.List.{sum_by}
use Rattle.std.proofs.lemmas.Bool.{lt-ltb, le-ltb}
use Rattle.plain.specs.Pattern.{pick}
use Rattle.plain.proofs.Basics.{added_append}
use Rattle.commands.specs.Kept.{sum}
use Rattle.commands.specs.Smalls.{oldest}
use Rattle.memory.specs.Numbers.{capped}
use Rattle.memory.specs.Sections.{ring_in, ring_pushed, ring_count}
use Rattle.memory.specs.Abstract.{ring_of}
use Rattle.memory.proofs.Parted as parted

pub push-more : (n w : ℕ) (s : List ℕ) → n < 64 → set s n (capped w) ≡ ring_pushed n w s
push-more n w s h = ap (λ b. pick b (set s n (capped w)) (drop 1 s ++ capped w ∷ [])) (sym (lt-ltb n 64 h))

pub push_last : (n w : ℕ) (s v : List ℕ) → length s ≡ 64 → 64 ≤ n → v ≡ drop 1 s ++ take 1 s → set v 63 (capped w) ≡ ring_pushed n w s
push_last n w [] v h g e = absurd (omega arith)
push_last n w (x ∷ s) v h g e =
    ap (λ t. set t 63 (capped w)) e ∙ set_at s x [] (capped w) 63 (omega arith)
    ∙ ap (λ b. pick b (set (x ∷ s) n (capped w)) (s ++ capped w ∷ [])) (sym (le-ltb n 64 g))

pub count-more : (n : ℕ) → n < 64 → n + 1 ≡ ring_count n
count-more n h = ap (λ b. pick b (n + 1) 64) (sym (lt-ltb n 64 h))

pub count_full : (n : ℕ) → 64 ≤ n → 64 ≡ ring_count n
count_full n h = ap (λ b. pick b (n + 1) 64) (sym (le-ltb n 64 h))

pub sum_more : (ws : List ℕ) (i : ℕ) → i < length ws → sum (map capped (take i ws)) + capped (get_or ws i 0) ≡ sum (map capped (take (i + 1) ws))
sum_more ws i h =
    sym (ap sum (map_more capped ws i 0 h) ∙ added_append (λ n. n) (map capped (take i ws)) (capped (get_or ws i 0) ∷ []) ∙ omega arith)

-- the library's sum of numbers is the same, and registers are few
pub sums_same : (ns : List ℕ) → sum_by (λ n. n) ns ≡ sum ns
sums_same [] = refl
sums_same (n ∷ ns) = sum_by-cons (λ m. m) n ns ∙ ap (λ t. n + t) (sums_same ns)

pub sum_few : (ws : List ℕ) → sum (map capped ws) ≤ 4294967295 * length ws
sum_few [] = omega arith
sum_few (w ∷ ws) = let h = sum_few ws in omega arith

pub ring_front : (n : ℕ) (m : List ℕ) → n ≤ 64 → map capped (take n (drop 64 m)) ≡ ring_of n m
unfolding ring_of
ring_front n m h = ap (map capped) (sym (take-take n 64 (drop 64 m) h))

pub ring_long : (n : ℕ) (m : List ℕ) → length m ≡ 262144 → n ≤ 64 → length (ring_of n m) ≡ n
unfolding ring_of
ring_long n m h g =
    let l = parted.length_part 64 64 m (omega arith) in length-map (take n (ring_in m)) capped ∙ length-take n (ring_in m) ∙ omega arith

pub oldest_none : (n : ℕ) (m : List ℕ) → length m ≡ 262144 → n < 64 → 0 ≡ oldest (ring_of n m)
oldest_none n m h g =
    let l = ring_long n m h (omega arith) in
    ap (λ b. pick b 0 (get_or (ring_of n m) 0 0)) (sym (lt-ltb (length (ring_of n m)) 64 (omega arith)))

pub oldest_first : (n : ℕ) (m : List ℕ) → length m ≡ 262144 → n ≤ 64 → 64 ≤ n → capped (get_or m 64 0) ≡ oldest (ring_of n m)
unfolding ring_of
oldest_first n m h g g₁ =
    let l = ring_long n m h g in
    let k = parted.length_part 64 64 m (omega arith) in
    let lt : length (take n (ring_in m)) ≡ n = length-take n (ring_in m) ∙ omega arith in
    let first : get_or (ring_of n m) 0 0 ≡ capped (get_or m 64 0) =
    get_or-map capped (take n (ring_in m)) 0 0 0 (omega arith)
    ∙ ap capped (get_or-take n (ring_in m) 0 0 (omega arith) ∙ parted.get_d_part 64 64 0 0 m (omega arith)) in
    sym first ∙ ap (λ b. pick b 0 (get_or (ring_of n m) 0 0)) (sym (le-ltb (length (ring_of n m)) 64 (omega arith)))

-- a weight of the ring, by its place
get_or-capped : (xs : List ℕ) (i : ℕ) → get_or (map capped xs) i 0 ≡ capped (get_or xs i 0)
get_or-capped [] i = refl
get_or-capped (x ∷ xs) zero = refl
get_or-capped (x ∷ xs) (suc i) = get_or-capped xs i

pub weight_in_ring : (n i : ℕ) (m : List ℕ) → i < n → capped (get_or (ring_in m) i 0) ≡ get_or (ring_of n m) i 0
unfolding ring_of
weight_in_ring n i m h = sym (get_or-capped (take n (ring_in m)) i ∙ ap capped (get_or-take n (ring_in m) i 0 h))
