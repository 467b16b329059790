-- Parts of a list, and the list with another in place of a part. Assumes nothing.
use Rattle.std.proofs.Common.{◌≡◌, ℕ, ◌+◌, ◌<◌, ◌≤◌, List, ◌++◌, length, get_or, take, drop, sym, ap, ◌∙◌, arith}
use Rattle.std.proofs.lemmas.List.{length-take, length-drop, length-append, take_at, drop_at, take-append-drop, get_or-take, get_or-drop, drop-take}
use Rattle.std.proofs.lemmas.Slice.{take-put_mid_below, drop-put_mid}
use Rattle.memory.specs.Registers.{part, with_part}

pub length_part : (a k : ℕ) (m : List ℕ) → a + k ≤ length m → length (part a k m) ≡ k
length_part a k m h = simp (length-take, length-drop) (omega arith)

pub get_d_part : (a k i d : ℕ) (m : List ℕ) → i < k → get_or (part a k m) i d ≡ get_or m (a + i) d
get_d_part a k i d m h = get_or-take k (drop a m) i d h ∙ get_or-drop a m i d

pub with_own : (a k : ℕ) (m : List ℕ) → with_part a k m (part a k m) ≡ m
with_own a k m = ap (λ t. take a m ++ t) (take-append-drop k (drop a m)) ∙ take-append-drop a m

module _ (a k : ℕ) (m ys : List ℕ) (h : a ≤ length m) where
  front : length (take a m) ≡ a
  front = simp length-take (omega arith)

  behind : drop a (with_part a k m ys) ≡ ys ++ drop k (drop a m)
  behind = drop_at (take a m) (ys ++ drop k (drop a m)) a front

  pub part_with : length ys ≡ k → part a k (with_part a k m ys) ≡ ys
  part_with l = ap (take k) behind ∙ take_at ys (drop k (drop a m)) k l

  pub with_twice : (zs : List ℕ) → length ys ≡ k → with_part a k (with_part a k m ys) zs ≡ with_part a k m zs
  with_twice zs l =
      (λ i. take_at (take a m) (ys ++ drop k (drop a m)) a front i ++ (zs ++ drop k (behind i)))
      ∙ ap (λ t. take a m ++ (zs ++ t)) (drop_at ys (drop k (drop a m)) k l)

  pub part-before : (b j : ℕ) → b + j ≤ a → part b j (with_part a k m ys) ≡ part b j m
  part-before b j g =
      let n : take (b + j) (with_part a k m ys) ≡ take (b + j) m = take-put_mid_below a k m ys (b + j) g h in
      sym (drop-take b j (with_part a k m ys)) ∙ ap (drop b) n ∙ drop-take b j m

  pub part_behind : (b j : ℕ) → a + k ≤ b → length ys ≡ k → part b j (with_part a k m ys) ≡ part b j m
  part_behind b j g l = ap (take j) (drop-put_mid a k m ys b g h l)

pub length_with : (a k : ℕ) (m ys : List ℕ) → a + k ≤ length m → length ys ≡ k → length (with_part a k m ys) ≡ length m
length_with a k m ys h l = simp (length-append, length-take, length-drop) (omega arith)
