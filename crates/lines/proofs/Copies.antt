-- A part of a list once more, in other places of it.
use Rattle.std.proofs.Common.{◌≡◌, ℕ, ◌+◌, ◌-◌, ◌<◌, ◌≤◌, ◌⊎◌, List, length, get_or, set, sym, ◌∙◌, add-zero, arith}
use Rattle.lines.specs.Moves.{copied}
use Rattle.std.proofs.lemmas.List.{places, same_lists, get_or_default, get_or-set_same, get_or-set_other, length-set, length-append, length-take, length-drop}
use Rattle.std.proofs.lemmas.Bool.{cases_eq}
use native.Mathlib.Nat.{sub-zero}

-- place by place
module _ (from n at : ℕ) (xs : List ℕ) (low : from + n ≤ length xs) (high : at + n ≤ length xs) where
  pub length-copied : length (copied from n at xs) ≡ length xs
  unfolding copied
  length-copied = simp (length-append, length-take, length-drop) (omega arith)

  pub copied_outside : (k d : ℕ) → (k < at) ⊎ (at + n ≤ k) → get_or (copied from n at xs) k d ≡ get_or xs k d
  unfolding copied
  copied_outside k d h = grind (arith, places)

  pub copied-within : (k d : ℕ) → at ≤ k → k < at + n → get_or (copied from n at xs) k d ≡ get_or xs (from + (k - at)) d
  unfolding copied
  copied-within k d h g = grind (arith, places)

-- no entry copied is the list as it was
pub copied_none : (from at : ℕ) (xs : List ℕ) → from ≤ length xs → at ≤ length xs → copied from 0 at xs ≡ xs
copied_none from at xs h g =
    let low : from + 0 ≤ length xs = omega arith in
    let high : at + 0 ≤ length xs = omega arith in
    same_lists _ _ (length-copied from 0 at xs low high) (λ k d t. grind (arith, copied_outside from 0 at xs low high k d))

-- one entry more at the end of a copy further to the front: it is read where the copy has not come
pub copied_down : (from n at : ℕ) (xs : List ℕ) → at ≤ from → from + n < length xs
    → set (copied from n at xs) (at + n) (get_or (copied from n at xs) (from + n) 0) ≡ copied from (n + 1) at xs
copied_down from n at xs h g =
    let low : from + n ≤ length xs = omega arith in
    let high : at + n ≤ length xs = omega arith in
    let low₁ : from + (n + 1) ≤ length xs = omega arith in
    let high₁ : at + (n + 1) ≤ length xs = omega arith in
    let one = length-copied from n at xs low high in
    let two = length-copied from (n + 1) at xs low₁ high₁ in
    same_lists _ _ (length-set _ _ _ ∙ one ∙ sym two)
    (λ k d t. grind (arith, get_or-set_same, get_or-set_other, get_or_default, length-set, copied_outside, copied-within, cases_eq k (at + n)))

-- one entry more in front of a copy further back, of which those from `left` on are there
pub copied-up : (from n at left : ℕ) (xs : List ℕ) → from ≤ at → at + n ≤ length xs → 0 < left → left ≤ n
    → set (copied (from + left) (n - left) (at + left) xs) (at + (left - 1)) (get_or (copied (from + left) (n - left) (at + left) xs) (from + (left - 1)) 0)
    ≡ copied (from + (left - 1)) (n - (left - 1)) (at + (left - 1)) xs
copied-up from n at left xs h g p q =
    let low : from + left + (n - left) ≤ length xs = omega arith in
    let high : at + left + (n - left) ≤ length xs = omega arith in
    let low₁ : from + (left - 1) + (n - (left - 1)) ≤ length xs = omega arith in
    let high₁ : at + (left - 1) + (n - (left - 1)) ≤ length xs = omega arith in
    let one = length-copied (from + left) (n - left) (at + left) xs low high in
    let two = length-copied (from + (left - 1)) (n - (left - 1)) (at + (left - 1)) xs low₁ high₁ in
    same_lists _ _ (length-set _ _ _ ∙ one ∙ sym two)
    (λ k d t. grind (arith, get_or-set_same, get_or-set_other, get_or_default, length-set, copied_outside, copied-within, cases_eq k (at + (left - 1))))

-- at its beginning nothing is copied
pub copied-up_none : (from n at : ℕ) (xs : List ℕ) → from ≤ at → at + n ≤ length xs → copied (from + n) (n - n) (at + n) xs ≡ xs
copied-up_none from n at xs h g =
    let z : n - n ≡ 0 = omega arith in rw z (copied_none (from + n) (at + n) xs (omega arith) g)

-- and at its end all
pub copied-up_all : (from n at left : ℕ) (xs : List ℕ) → left ≤ 0 → copied (from + left) (n - left) (at + left) xs ≡ copied from n at xs
copied-up_all from n at left xs h =
    let z : left ≡ 0 = omega arith in simp (z, add-zero, sub-zero)
