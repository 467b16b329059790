-- The ring of weights beside the stands of the plain house. Assumes nothing.
use Rattle.std.proofs.Common.{◌≡◌, ℕ, zero, suc, ◌+◌, ◌≤◌, true, false, ltb, List, [], ◌∷◌, ◌++◌, reverse, length, take, sym, refl, ap, ◌∙◌, inl, inr, arith}
use mathlib.Core.List.{reverse-cons}
use Rattle.std.proofs.lemmas.List.{length-append, length-drop, length-reverse}
use Rattle.std.proofs.lemmas.Bool.{lt-ltb, le-ltb, cases_lt}
use Rattle.plain.specs.House.{Stand, stand_weight, stands_weight}
use Rattle.commands.specs.Kept.{sum}
use Rattle.journal.specs.Small.{pushed}
use Rattle.commands.specs.Held.{stand_weights}
use Rattle.commands.proofs.Lists.{added_reverse, take_less, reverse-take}

pub length-stands : (s : Stand) (ts : List Stand) → length (stand_weights s ts) ≡ length ts
unfolding stand_weights
length-stands s [] = refl
length-stands s (t ∷ ts) = ap suc (length-stands t ts)

pub stands-take : (n : ℕ) (s : Stand) (ts : List Stand) → stand_weights s (take n ts) ≡ take n (stand_weights s ts)
unfolding stand_weights
stands-take zero s ts = refl
stands-take (suc n) s [] = refl
stands-take (suc n) s (t ∷ ts) = ap (λ z. stand_weight s t ∷ z) (stands-take n t ts)

pub stands-lines : (s₁ s : Stand) (ts : List Stand) → s₁.lines ≡ s.lines → stand_weights s₁ ts ≡ stand_weights s ts
unfolding stand_weights
stands-lines s₁ s [] e = refl
stands-lines s₁ s (t ∷ ts) e =
    ap (λ ls. stand_weight (record { lines = ls; at = 0; marks = [] }) t ∷ stand_weights t ts) e

pub sum-stands : (s : Stand) (ts : List Stand) → sum (stand_weights s ts) ≡ stands_weight s ts
unfolding stand_weights stands_weight
sum-stands s [] = refl
sum-stands s (t ∷ ts) = ap (λ z. stand_weight s t + z) (sum-stands t ts)

pub sum-ring : (s : Stand) (ts : List Stand) → sum (reverse (stand_weights s ts)) ≡ stands_weight s ts
sum-ring s ts = added_reverse (λ n. n) (stand_weights s ts) ∙ sum-stands s ts

pub push-turned : (ns : List ℕ) (n : ℕ) → length ns ≤ 64 → reverse (take 64 (n ∷ ns)) ≡ pushed (reverse ns) n
push-turned ns n h =
    let l : length (reverse ns) ≡ length ns = length-reverse ns in
    elim (cases_lt (length ns) 64) [
      | inl k ↦
          (let t : ltb (length (reverse ns)) 64 ≡ true = lt-ltb _ _ (omega arith) in
          rw t (ap reverse (take_less 64 (n ∷ ns) (omega arith)) ∙ reverse-cons n ns))
      | inr k ↦
          (let t : ltb (length (reverse ns)) 64 ≡ false = le-ltb _ _ (omega arith) in
          rw t (reverse-cons n (take 63 ns) ∙ ap (λ z. z ++ n ∷ []) (reverse-take 63 ns (omega arith))))
    ]

pub pushed_few : (ns : List ℕ) (n : ℕ) → length ns ≤ 64 → length (pushed ns n) ≤ 64
pushed_few ns n h =
    elim (cases_lt (length ns) 64) [
      | inl k ↦ rw (lt-ltb (length ns) 64 k) (simp length-append (omega arith))
      | inr k ↦ rw (le-ltb (length ns) 64 k) (simp (length-append, length-drop) (omega arith))
    ]

-- the stand before a change comes to those that were before
pub ring_grows : (s₁ s : Stand) (ts : List Stand) (n : ℕ) → length ts ≤ 64 → stand_weight s₁ s ≡ n →
    pushed (reverse (stand_weights s ts)) n ≡ reverse (stand_weights s₁ (take 64 (s ∷ ts)))
unfolding stand_weights
ring_grows s₁ s ts n h e =
    sym (push-turned (stand_weights s ts) n (omega (arith, length-stands s ts)))
    ∙ ap reverse (ap (λ m. take 64 (m ∷ stand_weights s ts)) (sym e) ∙ sym (stands-take 64 s₁ (s ∷ ts)))
