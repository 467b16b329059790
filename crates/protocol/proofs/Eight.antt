-- A number written in up to eight bytes, the highest first. Assumes nothing.
use Rattle.std.proofs.Common.{◌≡◌, ℕ, ◌+◌, ◌*◌, ◌^◌, ◌<◌, ◌≤◌, List, [], ◌∷◌, ◌++◌, length, get_or, take, sym, refl, ap, ◌∙◌, arith, pow_mono, pow-add}
use Rattle.std.proofs.lemmas.List.{take_more}
use Rattle.protocol.specs.Events.{from_eight}

from_eight_behind : (n : ℕ) (xs : List ℕ) (b : ℕ) → from_eight n (xs ++ b ∷ []) ≡ 256 * from_eight n xs + b
unfolding from_eight
from_eight_behind n [] b = refl
from_eight_behind n (x ∷ xs) b = from_eight_behind (256 * n + x) xs b

-- one byte more
pub eight-more : (n i : ℕ) (xs : List ℕ) → i < length xs → n ≡ from_eight 0 (take i xs) → n * 256 + get_or xs i 0 ≡ from_eight 0 (take (i + 1) xs)
eight-more n i xs h e = sym (ap (from_eight 0) (take_more xs i 0 h) ∙ from_eight_behind 0 (take i xs) (get_or xs i 0) ∙ (let z : 256 * from_eight 0 (take i xs) + get_or xs i 0 ≡ n * 256 + get_or xs i 0 = omega arith in z))

pub eight-below : (n i b : ℕ) → b < 256 → n < 2 ^ (8 * i) → n * 256 + b < 2 ^ (8 * (i + 1))
eight-below n i b h k =
    let e : 2 ^ (8 * (i + 1)) ≡ 2 ^ (8 * i) * 256 = ap (λ z. 2 ^ z) (let q : 8 * (i + 1) ≡ 8 * i + 8 = omega arith in q) ∙ pow-add 2 (8 * i) 8 in
    omega (arith, e)

pub eight_fits : (n i b : ℕ) → i < 8 → b < 256 → n < 2 ^ (8 * i) → n * 256 + b < 2 ^ 64
eight_fits n i b h k l = let a = eight-below n i b k l in let m : 2 ^ (8 * (i + 1)) ≤ 2 ^ 64 = pow_mono {i = 8 * (i + 1)} {j = 64} (omega arith) in omega arith
