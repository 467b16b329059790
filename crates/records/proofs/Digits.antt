-- Numbers in bytes, the rest of a page, and its seal. Assumes nothing.
use Rattle.std.proofs.Common.{◌≡◌, ℕ, zero, suc, ◌+◌, ◌-◌, ◌*◌, ◌/◌, ◌%◌, ◌<◌, ◌≤◌, true, ltb, List, [], ◌∷◌, ◌++◌, length, get_or, take, drop, replicate, sym, refl, ap, ◌∙◌, append_assoc, arith, length-append}
use native.Mathlib.Nat.{div-div-eq-div-mul}
use lib.ListN.{length-replicate}
use lib.Seq.{take-append_seam}
use Rattle.std.proofs.lemmas.List.{get_or_at}
use Rattle.std.proofs.lemmas.Bool.{lt-ltb, ltb-true, and_from, and_parts}
use Rattle.plain.specs.Pattern.{every, all_bytes}
use Rattle.plain.proofs.Basics.{every_append}
use Rattle.records.specs.Pages.{two, four, fours, two_at, four_at, closed, Bytes, SmallNumber}
use Rattle.records.specs.Checked.{cut}

-- read back
pub two_back : (n : ℕ) → n < 65536 → n / 256 % 256 * 256 + n % 256 ≡ n
two_back n h = omega arith

pub four-back : (n : ℕ) → SmallNumber n → n / 16777216 % 256 * 16777216 + n / 65536 % 256 * 65536 + n / 256 % 256 * 256 + n % 256 ≡ n
four-back n h =
    let a : n / 256 / 256 ≡ n / 65536 = div-div-eq-div-mul n 256 256 in
    let b : n / 65536 / 256 ≡ n / 16777216 = div-div-eq-div-mul n 65536 256 in
    let x : n ≡ n / 256 * 256 + n % 256 = omega arith in
    let y : n / 256 ≡ n / 256 / 256 * 256 + n / 256 % 256 = omega arith in
    let z : n / 65536 ≡ n / 65536 / 256 * 256 + n / 65536 % 256 = omega arith in
    let w : n / 16777216 % 256 ≡ n / 16777216 = omega arith in
    omega arith

-- all of them are bytes
byte : (n : ℕ) → ltb (n % 256) 256 ≡ true
byte n = lt-ltb (n % 256) 256 (omega arith)

pub two_bytes : (n : ℕ) → Bytes (two n)
two_bytes n = rw (byte (n / 256), byte n) refl

pub four_bytes : (n : ℕ) → Bytes (four n)
four_bytes n = rw (byte (n / 16777216), byte (n / 65536), byte (n / 256), byte n) refl

pub bytes-append : (xs ys : List ℕ) → Bytes xs → Bytes ys → Bytes (xs ++ ys)
bytes-append xs ys h k = every_append (λ b. ltb b 256) xs ys ∙ and_from _ _ h k

pub fours-bytes : (ns : List ℕ) → Bytes (fours ns)
fours-bytes [] = refl
fours-bytes (n ∷ ns) = bytes-append (four n) (fours ns) (four_bytes n) (fours-bytes ns)

zero-bytes : (n : ℕ) → Bytes (replicate n 0)
zero-bytes zero = refl
zero-bytes (suc n) = zero-bytes n

-- the rest of a page
pub length-closed : (n : ℕ) (bs : List ℕ) → length bs ≤ n → length (closed n bs) ≡ suc n
length-closed n bs h = simp (length-append, length-replicate) (omega arith)

pub closed-bytes : (n : ℕ) (bs : List ℕ) → Bytes bs → Bytes (closed n bs)
closed-bytes n bs h = bytes-append bs _ h (bytes-append (replicate (n - length bs) 0) (1 ∷ []) (zero-bytes (n - length bs)) refl)

pub closed_seal : (n : ℕ) (bs : List ℕ) → length bs ≤ n → get_or (closed n bs) n 0 ≡ 1
closed_seal n bs h =
    let e : length (bs ++ replicate (n - length bs) 0) ≡ n = simp (length-append, length-replicate) (omega arith) in
    ap (λ z. get_or z n 0) (sym (append_assoc bs (replicate (n - length bs) 0) (1 ∷ []))) ∙ get_or_at (bs ++ replicate (n - length bs) 0) 1 [] 0 n e

pub closed-back : (n k : ℕ) (bs : List ℕ) → length bs ≡ k → take k (closed n bs) ≡ bs
closed-back n k bs e = ap (λ m. take m (closed n bs)) (sym e) ∙ take-append_seam bs (replicate (n - length bs) 0 ++ 1 ∷ [])

-- a page of bytes has a byte in each place, and numbers that fit
pub bytes_all : (bs : List ℕ) → ((i : ℕ) → get_or bs i 0 < 256) → Bytes bs
bytes_all [] h = refl
bytes_all (b ∷ bs) h = and_from (ltb b 256) (all_bytes bs) (lt-ltb b 256 (h 0)) (bytes_all bs (λ i. h (suc i)))

pub byte_at : (bs : List ℕ) → Bytes bs → (i : ℕ) → get_or bs i 0 < 256
byte_at [] h i = omega arith
byte_at (b ∷ bs) h zero = ltb-true b 256 (and_parts (ltb b 256) (all_bytes bs) h).0
byte_at (b ∷ bs) h (suc i) = byte_at bs (and_parts (ltb b 256) (all_bytes bs) h).1 i

pub two-small : (p : List ℕ) → Bytes p → (k : ℕ) → two_at p k < 65536
two-small p f k =
    let a = byte_at p f k in
    let b = byte_at p f (k + 1) in
    omega arith

pub four-small : (p : List ℕ) → Bytes p → (k : ℕ) → SmallNumber (four_at p k)
four-small p f k =
    let a = byte_at p f k in
    let b = byte_at p f (k + 1) in
    let c = byte_at p f (k + 2) in
    let d = byte_at p f (k + 3) in
    omega arith

pub bytes_take : (n : ℕ) (bs : List ℕ) → Bytes bs → Bytes (take n bs)
bytes_take zero bs h = refl
bytes_take (suc n) [] h = refl
bytes_take (suc n) (b ∷ bs) h = let q = and_parts (ltb b 256) (every (λ c. ltb c 256) bs) h in and_from _ _ q.0 (bytes_take n bs q.1)

pub bytes_drop : (n : ℕ) (bs : List ℕ) → Bytes bs → Bytes (drop n bs)
bytes_drop zero bs h = h
bytes_drop (suc n) [] h = refl
bytes_drop (suc n) (b ∷ bs) h = bytes_drop n bs (and_parts (ltb b 256) (every (λ c. ltb c 256) bs) h).1

-- numbers that are cut to what a page has of them
pub two_cut : (n : ℕ) → two (n % 65536) ≡ two n
two_cut n =
    let a : n % 65536 / 256 % 256 ≡ n / 256 % 256 = omega arith in
    let b : n % 65536 % 256 ≡ n % 256 = omega arith in
    λ i. a i ∷ b i ∷ []

pub four_cut : (n : ℕ) → four (cut n) ≡ four n
four_cut n =
    let a : cut n / 16777216 % 256 ≡ n / 16777216 % 256 = omega arith in
    let b : cut n / 65536 % 256 ≡ n / 65536 % 256 = omega arith in
    let c : cut n / 256 % 256 ≡ n / 256 % 256 = omega arith in
    let d : cut n % 256 ≡ n % 256 = omega arith in
    λ i. a i ∷ b i ∷ c i ∷ d i ∷ []
