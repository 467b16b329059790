-- Entries of the directory, as the memory has them. Assumes nothing.
use Rattle.std.proofs.Common.{◌≡◌, ℕ, ◌+◌, ◌*◌, ◌/◌, ◌%◌, ◌^◌, ◌<◌, ◌≤◌, List, [], ◌∷◌, ◌++◌, map, length, get_or, take, drop, sym, refl, ap, ◌∙◌, arith}
use Rattle.std.proofs.lemmas.List.{length-take, get_or-take, get_or_past, map-append, take-map, drop-map, nil_from_length}
use Rattle.lines.specs.Slots.{entry, field, slots, with_slots}
use Rattle.lines.specs.Moves.{spliced, edited}
use Rattle.memory.specs.Sections.{entries_in, entry_position, entry_at, high}

pub entry-there : (n i : ℕ) (m : List ℕ) → i < n → entry_position (get_or (entries_in m) i 0) ≡ entry_at n i m
unfolding entry_at
entry-there n i m h = ap entry_position (sym (get_or-take n (entries_in m) i 0 h))

pub entry_past : (n i : ℕ) (m : List ℕ) → n ≤ i → entry_position 0 ≡ entry_at n i m
unfolding entry_at
entry_past n i m h = ap entry_position (sym (get_or_past (take n (entries_in m)) i 0 (simp length-take (omega arith))))

-- numbers that are entries: 21 bits are all of each
abbrev pub Whole : List ℕ → Type 0
Whole xs = map entry xs ≡ xs

pub whole-slots : (ws : List ℕ) → Whole (slots ws)
whole-slots [] = refl
whole-slots (w ∷ ws) =
    let r = whole-slots ws in
    let a : entry (field w 0) ≡ field w 0 = omega arith in
    let b : entry (field w 1) ≡ field w 1 = omega arith in
    let c : entry (field w 2) ≡ field w 2 = omega arith in
    λ i. a i ∷ b i ∷ c i ∷ r i

pub whole_append : (xs ys : List ℕ) → Whole xs → Whole ys → Whole (xs ++ ys)
whole_append xs ys h k = map-append entry xs ys ∙ (λ i. h i ++ k i)

pub whole_take : (n : ℕ) (xs : List ℕ) → Whole xs → Whole (take n xs)
whole_take n xs h = sym (take-map entry n xs) ∙ ap (take n) h

pub whole_drop : (n : ℕ) (xs : List ℕ) → Whole xs → Whole (drop n xs)
whole_drop n xs h = sym (drop-map entry n xs) ∙ ap (drop n) h

pub whole-high : (cs : List ℕ) → Whole (map high cs)
whole-high [] = refl
whole-high (c ∷ cs) = let a : entry (high c) ≡ high c = omega arith in λ i. a i ∷ whole-high cs i

pub whole_spliced : (p q : ℕ) (new xs : List ℕ) → Whole new → Whole xs → Whole (spliced p q new xs)
unfolding spliced
whole_spliced p q new xs h k = whole_append (take p xs) _ (whole_take p xs k) (whole_append new _ h (whole_drop (p + q) xs k))

pub whole-edited : (c p q : ℕ) (new xs : List ℕ) → Whole new → Whole xs → Whole (edited c p q new xs)
unfolding edited
whole-edited c p q new xs h k =
    whole_append (spliced p q new (take c xs)) _ (whole_spliced p q new (take c xs) h (whole_take c xs k)) (whole_drop (length (spliced p q new (take c xs))) xs k)

-- words with other entries have these
module _ (t a b c : ℕ) (ha : a < 2 ^ 21) (hb : b < 2 ^ 21) (hc : c < 2 ^ 21) where
  low_field : (t * 2 ^ 63 + a + b * 2 ^ 21 + c * 2 ^ 42) / 2 ^ 0 % 2 ^ 21 ≡ a
  low_field = omega arith

  middle_field : (t * 2 ^ 63 + a + b * 2 ^ 21 + c * 2 ^ 42) / 2 ^ 21 % 2 ^ 21 ≡ b
  middle_field =
      let q : (t * 2 ^ 63 + a + b * 2 ^ 21 + c * 2 ^ 42) / 2 ^ 21 ≡ b + (c + t * 2 ^ 21) * 2 ^ 21 = omega arith in
      ap (λ n. n % 2 ^ 21) q ∙ omega arith

  top_field : (t * 2 ^ 63 + a + b * 2 ^ 21 + c * 2 ^ 42) / 2 ^ 42 % 2 ^ 21 ≡ c
  top_field =
      let q : (t * 2 ^ 63 + a + b * 2 ^ 21 + c * 2 ^ 42) / 2 ^ 42 ≡ c + t * 2 ^ 21 = omega arith in
      ap (λ n. n % 2 ^ 21) q ∙ omega arith

pub slots_with : (ws xs : List ℕ) → length xs ≡ 3 * length ws → Whole xs → slots (with_slots ws xs) ≡ xs
slots_with [] xs l h = sym (nil_from_length xs (omega arith))
slots_with (w ∷ ws) [] l h = absurd (omega arith)
slots_with (w ∷ ws) (a ∷ []) l h = absurd (omega arith)
slots_with (w ∷ ws) (a ∷ b ∷ []) l h = absurd (omega arith)
slots_with (w ∷ ws) (a ∷ b ∷ c ∷ xs) l h =
    let ha : entry a ≡ a = ap (λ zs. get_or zs 0 0) h in
    let hb : entry b ≡ b = ap (λ zs. get_or zs 1 0) h in
    let hc : entry c ≡ c = ap (λ zs. get_or zs 2 0) h in
    let la : entry a < 2 ^ 21 = omega arith in
    let lb : entry b < 2 ^ 21 = omega arith in
    let lc : entry c < 2 ^ 21 = omega arith in
    let r = slots_with ws xs (omega arith) (ap (drop 3) h) in
    λ i. (low_field (w / 2 ^ 63) (entry a) (entry b) (entry c) la lb lc ∙ ha) i ∷ (middle_field (w / 2 ^ 63) (entry a) (entry b) (entry c) la lb lc ∙ hb) i
    ∷ (top_field (w / 2 ^ 63) (entry a) (entry b) (entry c) la lb lc ∙ hc) i ∷ r i
