-- Words by their entries and top bits: these are all of them.
use Rattle.std.proofs.Common.{◌≡◌, ℕ, suc, ◌+◌, ◌*◌, ◌/◌, ◌^◌, ◌<◌, true, ltb, List, [], ◌∷◌, length, get_or, drop, sym, refl, ap, ◌∙◌, arith, lt-ltb}
use Rattle.lines.specs.Slots.{entry, field, slots, spares, with_slots}
use Rattle.plain.specs.Pattern.{every}
use Rattle.plain.specs.Run.{all_small}
use Rattle.std.proofs.lemmas.Bool.{and_parts, and_from, ltb-true}

-- a word is its entries and its top bits
pub with_own : (ws : List ℕ) → with_slots ws (slots ws) ≡ ws
with_own [] = refl
with_own (w ∷ ws) =
    let here : w / 2 ^ 63 * 2 ^ 63 + entry (field w 0) + entry (field w 1) * 2 ^ 21 + entry (field w 2) * 2 ^ 42 ≡ w = omega arith in
    let rest = with_own ws in cc

-- only the top bits of the words count
pub with_spares : (vs ws xs : List ℕ) → spares vs ≡ spares ws → with_slots vs xs ≡ with_slots ws xs
with_spares [] [] xs e = refl
with_spares [] (w ∷ ws) xs e = cc
with_spares (v ∷ vs) [] xs e = cc
with_spares (v ∷ vs) (w ∷ ws) xs e =
    let rest : spares vs ≡ spares ws = cc in
    let top : v / 2 ^ 63 ≡ w / 2 ^ 63 = cc in
    let r = with_spares vs ws (drop 3 xs) rest in rw (top, r)

-- words with known entries and the top bits of others
pub words_are : (vs ws xs : List ℕ) → slots vs ≡ xs → spares vs ≡ spares ws → vs ≡ with_slots ws xs
words_are vs ws xs e f = sym (with_own vs) ∙ ap (with_slots vs) e ∙ with_spares vs ws xs f

pub length_with : (ws xs : List ℕ) → length (with_slots ws xs) ≡ length ws
length_with [] xs = refl
length_with (w ∷ ws) xs = ap suc (length_with ws (drop 3 xs))

pub spares_with : (ws xs : List ℕ) → spares (with_slots ws xs) ≡ spares ws
spares_with [] xs = refl
spares_with (w ∷ ws) xs =
    let here : (w / 2 ^ 63 * 2 ^ 63 + entry (get_or xs 0 0) + entry (get_or xs 1 0) * 2 ^ 21 + entry (get_or xs 2 0) * 2 ^ 42) / 2 ^ 63 ≡ w / 2 ^ 63 = omega arith in
    let rest = spares_with ws (drop 3 xs) in cc

-- the entries are those that were put there, if each is one
pub slots_with : (ws xs : List ℕ) → length xs ≡ 3 * length ws → every (λ x. ltb x 2097152) xs ≡ true → slots (with_slots ws xs) ≡ xs
slots_with [] [] e s = refl
slots_with [] (a ∷ xs) e s = absurd (omega arith)
slots_with (w ∷ ws) [] e s = absurd (omega arith)
slots_with (w ∷ ws) (a ∷ []) e s = absurd (omega arith)
slots_with (w ∷ ws) (a ∷ b ∷ []) e s = absurd (omega arith)
slots_with (w ∷ ws) (a ∷ b ∷ c ∷ xs) e s =
    let long : length xs ≡ 3 * length ws = omega arith in
    let one = and_parts (ltb a 2097152) _ s in
    let two = and_parts (ltb b 2097152) _ one.1 in
    let three = and_parts (ltb c 2097152) _ two.1 in
    let x = ltb-true a 2097152 one.0 in
    let y = ltb-true b 2097152 two.0 in
    let z = ltb-true c 2097152 three.0 in
    let rest = slots_with ws xs long three.1 in
    grind (arith, rest)

-- 64 bits stay 64 bits
pub with_small : (ws xs : List ℕ) → all_small ws ≡ true → all_small (with_slots ws xs) ≡ true
unfolding all_small
with_small [] xs s = refl
with_small (w ∷ ws) xs s =
    let parts = and_parts (ltb w 18446744073709551616) _ s in
    let l = ltb-true w 18446744073709551616 parts.0 in
    let here : w / 2 ^ 63 * 2 ^ 63 + entry (get_or xs 0 0) + entry (get_or xs 1 0) * 2 ^ 21 + entry (get_or xs 2 0) * 2 ^ 42 < 18446744073709551616 = omega arith in
    and_from _ _ (lt-ltb _ _ here) (with_small ws (drop 3 xs) parts.1)

-- what is read of words are entries
pub slots_small : (ws : List ℕ) → every (λ x. ltb x 2097152) (slots ws) ≡ true
slots_small [] = refl
slots_small (w ∷ ws) =
    let a : field w 0 < 2097152 = omega arith in
    let b : field w 1 < 2097152 = omega arith in
    let c : field w 2 < 2097152 = omega arith in
    and_from _ _ (lt-ltb _ _ a) (and_from _ _ (lt-ltb _ _ b) (and_from _ _ (lt-ltb _ _ c) (slots_small ws)))
