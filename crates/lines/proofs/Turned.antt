-- Lists that are reversed and rotated in part.
use Rattle.std.proofs.Common.{◌≡◌, ℕ, ◌+◌, ◌-◌, ◌/◌, ◌<◌, ◌≤◌, ◌⊎◌, List, length, get_or, sym, ◌∙◌, arith, rules}
use Rattle.lines.specs.Moves.{swapped, reversed, rotated}
use Rattle.std.proofs.lemmas.List.{places, same_lists, get_or_default, get_or-set_same, get_or-set_other, length-set, length-reverse, length-append, length-take, length-drop}
use Rattle.std.proofs.lemmas.Bool.{cases_eq}

-- the exchange of two entries, place by place
module _ (i j : ℕ) (xs : List ℕ) where
  pub length-swapped : length (swapped i j xs) ≡ length xs
  unfolding swapped
  length-swapped = simp length-set

  pub swapped_other : (k d : ℕ) → (k ≡ i → ⊥) → (k ≡ j → ⊥) → get_or (swapped i j xs) k d ≡ get_or xs k d
  unfolding swapped
  swapped_other k d p q = rw (get_or-set_other, get_or-set_other)

  pub swapped_right : (d : ℕ) → i < length xs → j < length xs → get_or (swapped i j xs) j d ≡ get_or xs i d
  unfolding swapped
  swapped_right d p q = get_or-set_same _ j _ d (simp length-set q) ∙ get_or_default xs i 0 d p

  pub swapped_left : (d : ℕ) → (i ≡ j → ⊥) → i < length xs → j < length xs → get_or (swapped i j xs) i d ≡ get_or xs j d
  unfolding swapped
  swapped_left d n p q = get_or-set_other _ j i _ d n ∙ get_or-set_same xs i _ d p ∙ get_or_default xs j 0 d q

-- the reversal of a part, place by place
module _ (a b : ℕ) (xs : List ℕ) (low : a ≤ b) (high : b ≤ length xs) where
  pub length-reversed : length (reversed a b xs) ≡ length xs
  unfolding reversed
  length-reversed = simp (length-append, length-reverse, length-take, length-drop) (omega arith)

  pub reversed-below : (k d : ℕ) → k < a → get_or (reversed a b xs) k d ≡ get_or xs k d
  unfolding reversed
  reversed-below k d h = search (rules, places)

  pub reversed-above : (k d : ℕ) → b ≤ k → get_or (reversed a b xs) k d ≡ get_or xs k d
  unfolding reversed
  reversed-above k d h = grind (arith, places)

  pub reversed-within : (k d : ℕ) → a ≤ k → k < b → get_or (reversed a b xs) k d ≡ get_or xs (a + b - 1 - k) d
  unfolding reversed
  reversed-within k d h g = grind (arith, places)

  -- to reverse one entry, or none, changes nothing
  pub reversed-done : b - a ≤ 1 → reversed a b xs ≡ xs
  reversed-done h =
      same_lists _ _ length-reversed (λ k d t. grind (arith, reversed-below k d, reversed-within k d, reversed-above k d, cases_eq k a))

-- to exchange the ends and reverse what is between is to reverse all
pub reversed_step : (a b : ℕ) (xs : List ℕ) → 1 < b - a → b ≤ length xs → reversed (a + 1) (b - 1) (swapped a (b - 1) xs) ≡ reversed a b xs
reversed_step a b xs h g =
    let n = length-swapped a (b - 1) xs in
    same_lists _ _
    (length-reversed (a + 1) (b - 1) (swapped a (b - 1) xs) (omega arith) (omega arith) ∙ n ∙ sym (length-reversed a b xs (omega arith) g))
    (λ k d t. grind (arith, reversed-below, reversed-within, reversed-above, swapped_other, swapped_left, swapped_right, cases_eq k a, cases_eq k (b - 1)))

-- the same, i places from both ends of a part
pub reversed_inner : (lo hi i : ℕ) (xs : List ℕ) → i < (hi - lo) / 2 → hi ≤ length xs → reversed (lo + (i + 1)) (hi - (i + 1)) (swapped (lo + i) (hi - 1 - i) xs) ≡ reversed (lo + i) (hi - i) xs
reversed_inner lo hi i xs h g =
    let a : lo + (i + 1) ≡ lo + i + 1 = omega arith in
    let b : hi - (i + 1) ≡ hi - i - 1 = omega arith in
    let c : hi - 1 - i ≡ hi - i - 1 = omega arith in
    rw (a, b, c) (reversed_step (lo + i) (hi - i) xs (omega arith) (omega arith))

-- the rotation of a part, place by place, and by three reversals
module _ (lo mid hi : ℕ) (xs : List ℕ) (low : lo ≤ mid) (mean : mid ≤ hi) (high : hi ≤ length xs) where
  pub length-rotated : length (rotated lo mid hi xs) ≡ length xs
  unfolding rotated
  length-rotated = simp (length-append, length-take, length-drop) (omega arith)

  pub rotated_outside : (k d : ℕ) → (k < lo) ⊎ (hi ≤ k) → get_or (rotated lo mid hi xs) k d ≡ get_or xs k d
  unfolding rotated
  rotated_outside k d h = grind (arith, places)

  pub rotated_first : (k d : ℕ) → lo ≤ k → k < lo + (hi - mid) → get_or (rotated lo mid hi xs) k d ≡ get_or xs (mid + (k - lo)) d
  unfolding rotated
  rotated_first k d h g = grind (arith, places)

  pub rotated-second : (k d : ℕ) → lo + (hi - mid) ≤ k → k < hi → get_or (rotated lo mid hi xs) k d ≡ get_or xs (k - (hi - mid)) d
  unfolding rotated
  rotated-second k d h g = grind (arith, places)

  pub rotated_is : reversed lo hi (reversed mid hi (reversed lo mid xs)) ≡ rotated lo mid hi xs
  rotated_is =
      let m : mid ≤ length xs = omega arith in
      let one = length-reversed lo mid xs low m in
      let two = length-reversed mid hi (reversed lo mid xs) mean (omega arith) in
      let three = length-reversed lo hi (reversed mid hi (reversed lo mid xs)) (omega arith) (omega arith) in
      same_lists _ _ (three ∙ two ∙ one ∙ sym length-rotated)
      (λ k d t. grind (arith, reversed-below, reversed-within, reversed-above, rotated_outside k d, rotated_first k d, rotated-second k d))
