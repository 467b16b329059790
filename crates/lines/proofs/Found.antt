-- The first entry of a tape.
use Rattle.std.proofs.Common.{◌≡◌, ℕ, zero, suc, ◌+◌, ◌-◌, ◌/◌, ◌^◌, ◌<◌, ◌≤◌, List, [], ◌∷◌, length, get_or, take, add-one, arith, eq-eqb, ne_eqb, Option, None, Some, ap, sym, refl, ◌∙◌}
use Rattle.std.specs.Option.{unwrap_or}
use Rattle.lines.specs.Slots.{first_on, next_on}
use Rattle.std.proofs.lemmas.List.{get_or-take, length-take, drop_more, drop_all}

-- where it is looked for further: the entry at i is of another tape
pub next_past : (t i to : ℕ) (xs : List ℕ) → i < to → i < length xs → (get_or xs i 0 / 2 ^ 20 ≡ t → ⊥) → next_on t i to xs ≡ next_on t (i + 1) to xs
unfolding first_on
next_past t i to xs g h n =
    let long : i < length (take to xs) = simp length-take (omega arith) in
    let here : get_or (take to xs) i 0 ≡ get_or xs i 0 = get_or-take to xs i 0 g in
    rw (drop_more (take to xs) i 0 long, here, ne_eqb _ _ n, add-one)

-- it is there
pub next_here : (t i to : ℕ) (xs : List ℕ) → i < to → i < length xs → get_or xs i 0 / 2 ^ 20 ≡ t → next_on t i to xs ≡ i
unfolding first_on
next_here t i to xs g h e =
    let long : i < length (take to xs) = simp length-take (omega arith) in
    let here : get_or (take to xs) i 0 ≡ get_or xs i 0 = get_or-take to xs i 0 g in
    rw (drop_more (take to xs) i 0 long, here, eq-eqb _ _ e)

-- there is none
pub next_none : (t i to : ℕ) (xs : List ℕ) → length (take to xs) ≤ i → next_on t i to xs ≡ i
unfolding first_on
next_none t i to xs h = rw (drop_all i (take to xs) h)

-- none of those before i is of the tape
next_far : (t d from to : ℕ) (xs : List ℕ) → from + d ≤ to → from + d ≤ length xs → ((k : ℕ) → from ≤ k → k < from + d → get_or xs k 0 / 2 ^ 20 ≡ t → ⊥) → next_on t from to xs ≡ next_on t (from + d) to xs
next_far t zero from to xs g h n = let e : from ≡ from + zero = omega arith in ap (λ i. next_on t i to xs) e
next_far t (suc d) from to xs g h n =
    let e : from + 1 + d ≡ from + suc d = omega arith in
    next_past t from to xs (omega arith) (omega arith) (n from (omega arith) (omega arith))
    ∙ next_far t d (from + 1) to xs (omega arith) (omega arith) (λ k l u. n k (omega arith) (omega arith))
    ∙ ap (λ i. next_on t i to xs) e

pub next_skip : (t from i to : ℕ) (xs : List ℕ) → from ≤ i → i ≤ to → i ≤ length xs → ((k : ℕ) → from ≤ k → k < i → get_or xs k 0 / 2 ^ 20 ≡ t → ⊥) → next_on t from to xs ≡ next_on t i to xs
next_skip t from i to xs l g h n =
    let e : from + (i - from) ≡ i = omega arith in
    next_far t (i - from) from to xs (omega arith) (omega arith) (λ k a b. n k a (omega arith)) ∙ ap (λ j. next_on t j to xs) e

pub next_first : (t from i to : ℕ) (xs : List ℕ) → from ≤ i → i < to → i < length xs → ((k : ℕ) → from ≤ k → k < i → get_or xs k 0 / 2 ^ 20 ≡ t → ⊥) → get_or xs i 0 / 2 ^ 20 ≡ t → next_on t from to xs ≡ i
next_first t from i to xs l g h n e = next_skip t from i to xs l (omega arith) (omega arith) n ∙ next_here t i to xs g h e

-- none of them is
pub next_absent : (t from i to : ℕ) (xs : List ℕ) → from ≤ i → i ≤ to → i ≤ length xs → length (take to xs) ≤ i → ((k : ℕ) → from ≤ k → k < i → get_or xs k 0 / 2 ^ 20 ≡ t → ⊥) → next_on t from to xs ≡ i
next_absent t from i to xs l g h m n = next_skip t from i to xs l g h n ∙ next_none t i to xs m

-- what is found from `from` on before `end`, or `end`
pub find_gives : (t from to end u : ℕ) (xs : List ℕ) (r : Option ℕ) → u ≡ unwrap_or r end → from ≤ end → length (take to xs) ≤ end
    → (from < end → (end ≤ to) × (end ≤ length xs))
    → (r ≡ None → (k : ℕ) → from ≤ k → k < end → get_or xs k 0 / 2 ^ 20 ≡ t → ⊥)
    → ((x : ℕ) → r ≡ Some x → (k : ℕ) → from ≤ k → k < x → get_or xs k 0 / 2 ^ 20 ≡ t → ⊥)
    → ((x : ℕ) → r ≡ Some x → (from ≤ x) × ((x < end) × (get_or xs x 0 / 2 ^ 20 ≡ t)))
    → u ≡ next_on t from to xs
find_gives t from to end u xs None e l m g none some hit =
    let near : end ≤ from → next_on t from to xs ≡ end = λ h. next_none t from to xs (omega arith) ∙ omega arith in
    let far : from < end → next_on t from to xs ≡ end = λ h. next_absent t from end to xs l (g h).0 (g h).1 m (none refl) in
    grind (arith, near, far, e)
find_gives t from to end u xs (Some x) e l m g none some hit =
    let h = hit x refl in
    let w : from < end = omega (arith, h.0, h.1.0) in
    let b = g w in
    e ∙ sym (next_first t from x to xs h.0 (omega (arith, h.1.0, b.0)) (omega (arith, h.1.0, b.1)) (some x refl) h.1.1)

-- no entry before it is of the tape; it is of it, unless it stands behind the last
pub first_low : (t k : ℕ) (xs : List ℕ) → k ≤ first_on t k xs
unfolding first_on
first_low t k [] = omega arith
first_low t k (x ∷ xs) = let r = first_low t (suc k) xs in grind arith

pub first_high : (t k : ℕ) (xs : List ℕ) → first_on t k xs ≤ k + length xs
unfolding first_on
first_high t k [] = omega arith
first_high t k (x ∷ xs) = let r = first_high t (suc k) xs in grind arith

pub first_before : (t k : ℕ) (xs : List ℕ) (j : ℕ) → k + j < first_on t k xs → get_or xs j 0 / 2 ^ 20 ≡ t → ⊥
unfolding first_on
first_before t k [] j h e = omega arith
first_before t k (x ∷ xs) zero h e = grind (arith, eq-eqb, e)
first_before t k (x ∷ xs) (suc j) h e = let r = first_before t (suc k) xs j in grind arith

pub first_found : (t k : ℕ) (xs : List ℕ) → first_on t k xs < k + length xs → get_or xs (first_on t k xs - k) 0 / 2 ^ 20 ≡ t
unfolding first_on
first_found t k [] h = omega arith
first_found t k (x ∷ xs) h = let r = first_found t (suc k) xs in let l = first_low t (suc k) xs in grind arith
