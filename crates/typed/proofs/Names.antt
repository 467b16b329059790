-- Which match is replaced, and the names of files. Assumes nothing.
use Rattle.std.proofs.Common.{◌≡◌, ℕ, zero, suc, ◌+◌, ◌<◌, ◌≤◌, Bool, true, false, ◌&&◌, eqb, ltb, leb, List, [], ◌∷◌, length, get_or, sym, refl, ap, ◌∙◌, ⊎_elim, arith}
use Rattle.std.specs.Bool.{then_some}
use Rattle.std.proofs.lemmas.Bool.{cases_Bool, and_parts, and_from, le-leb, leb-true, ltb-true, ne_eqb, eq-eqb}
use Rattle.plain.specs.Pattern.{pick, any, same, Got, none, got, none_of}
use Rattle.plain.specs.Command.{digit, starts_digit, number_part, after_digits, digits_long, which_of, a_file}
use Rattle.typed.specs.declared.deeds.Which.TheVariants.{Nth}
use Rattle.typed.specs.Meaning.{which_number}
use Rattle.typed.specs.Answer.{whole, a_number}
use Rattle.typed.proofs.Fronts.{took, refused}
use Rattle.typed.proofs.Digits.{after_more, after_none, long-more, long_none, worth_none}

-- the digits and what is left make up all
counted : (cs : List ℕ) → digits_long cs + length (after_digits cs) ≡ length cs
counted [] = rw (long_none [] refl, after_none [] refl)
counted (x ∷ xs) =
    ⊎_elim
    (λ e. rw (long-more x xs e, after_more x xs e) (omega (arith, counted xs)))
    (λ e. rw (long_none (x ∷ xs) e, after_none (x ∷ xs) e) (omega arith))
    (cases_Bool (digit x))

nothing_left : (xs : List ℕ) → length xs ≡ 0 → none_of xs ≡ true
nothing_left [] e = refl
nothing_left (x ∷ xs) e = absurd (omega arith)

left_nothing : (xs : List ℕ) → none_of xs ≡ true → length xs ≡ 0
left_nothing [] e = refl
left_nothing (x ∷ xs) e = let z : ◌≡◌ {A = ℕ} 0 1 = cc in absurd (omega arith)

abbrev counts : List ℕ → Bool
counts cs = starts_digit cs && (none_of (after_digits cs) && (leb 1 (number_part 0 cs) && leb (digits_long cs) 3))

abbrev one : List ℕ → Got ℕ ℕ
one cs = pick (counts cs) (got (number_part 0 cs) []) none

pub the_g : (cs : List ℕ) → length cs ≡ 1 → get_or cs 0 0 ≡ 103 → got 0 [] ≡ which_of cs
unfolding same
the_g [] one is = absurd (omega arith)
the_g (x ∷ []) one is = rw (eq-eqb x 103 is)
the_g (x ∷ y ∷ xs) one is = absurd (omega arith)

pub other : (cs : List ℕ) → (length cs ≡ 0 → ⊥) → (length cs ≡ 1 → get_or cs 0 0 ≡ 103 → ⊥) → which_of cs ≡ one cs
unfolding same
other [] n m = absurd (n refl)
other (x ∷ []) n m = rw (ne_eqb x 103 (m refl))
other (x ∷ y ∷ xs) n m =
    ⊎_elim (λ e. rw e) (λ e. rw e) (cases_Bool (eqb x 103))

module _ (cs : List ℕ) (n : ℕ) (rest : List ℕ) (given : got n rest ≡ a_number cs) where
  is_number : n ≡ number_part 0 cs
  is_number = (took (ltb 9 (digits_long cs)) n (number_part 0 cs) rest (after_digits cs) given).1

  is_rest : rest ≡ after_digits cs
  is_rest = (took (ltb 9 (digits_long cs)) n (number_part 0 cs) rest (after_digits cs) given).2

  chosen : 1 ≤ n → length rest ≡ 0 → length cs ≤ 3 → got n [] ≡ one cs
  chosen some end few =
      let all = ap length is_rest in
      let none_left : length (after_digits cs) ≡ 0 = omega arith in
      let starts : starts_digit cs ≡ true = ⊎_elim (λ e. e) (λ e. let z = is_number ∙ worth_none 0 cs e in absurd (omega arith)) (cases_Bool (starts_digit cs)) in
      let e : counts cs ≡ true =
      and_from _ _ starts (and_from _ _ (nothing_left (after_digits cs) none_left) (and_from _ _ (le-leb 1 (number_part 0 cs) (omega (arith, is_number))) (le-leb (digits_long cs) 3 (omega (arith, counted cs)))))
      in
      (λ i. got (is_number i) []) ∙ ap (λ b. pick b (got (number_part 0 cs) []) none) (sym e)

  not_chosen : (1 ≤ n → length rest ≡ 0 → length cs ≤ 3 → ⊥) → none ≡ one cs
  not_chosen never =
      ⊎_elim
      (λ e.
      let p = (and_parts (starts_digit cs) (none_of (after_digits cs) && (leb 1 (number_part 0 cs) && leb (digits_long cs) 3)) e).1 in
      let q = and_parts (none_of (after_digits cs)) (leb 1 (number_part 0 cs) && leb (digits_long cs) 3) p in
      let s = and_parts (leb 1 (number_part 0 cs)) (leb (digits_long cs) 3) q.1 in
      let end = left_nothing (after_digits cs) q.0 in
      let some = leb-true 1 (number_part 0 cs) s.0 in
      let few = leb-true (digits_long cs) 3 s.1 in
      absurd (never (omega (arith, is_number)) (omega (arith, ap length is_rest)) (omega (arith, counted cs))))
      (λ e. ap (λ b. pick b (got (number_part 0 cs) []) none) (sym e))
      (cases_Bool (counts cs))

-- one from 1 to 999 at the end, by whether all of that holds
pub one_by : (cs : List ℕ) (n : ℕ) (rest : List ℕ) → got n rest ≡ a_number cs → (b : Bool) →
    (b ≡ true → (1 ≤ n) × (length rest ≡ 0) × (length cs ≤ 3)) → (b ≡ false → 1 ≤ n → length rest ≡ 0 → length cs ≤ 3 → ⊥) →
    whole which_number (then_some b (Nth n)) ≡ one cs
one_by cs n rest given true all never = let all = all refl in chosen cs n rest given all.0 all.1 all.2
one_by cs n rest given false all never = not_chosen cs n rest given (never refl)

pub too_long : (cs : List ℕ) → none ≡ a_number cs → none ≡ one cs
too_long cs given =
    ⊎_elim
    (λ e.
    let p = (and_parts (starts_digit cs) (none_of (after_digits cs) && (leb 1 (number_part 0 cs) && leb (digits_long cs) 3)) e).1 in
    let q = (and_parts (none_of (after_digits cs)) (leb 1 (number_part 0 cs) && leb (digits_long cs) 3) p).1 in
    let few = leb-true (digits_long cs) 3 (and_parts (leb 1 (number_part 0 cs)) (leb (digits_long cs) 3) q).1 in
    let many = ltb-true 9 (digits_long cs) (refused (ltb 9 (digits_long cs)) (number_part 0 cs) (after_digits cs) given) in
    absurd (omega arith))
    (λ e. ap (λ b. pick b (got (number_part 0 cs) []) none) (sym e))
    (cases_Bool (counts cs))

-- a byte among others
pub without : (d : ℕ) (cs : List ℕ) → ((k : ℕ) → k < length cs → get_or cs k 0 ≡ d → ⊥) → any (eqb d) cs ≡ false
without d [] n = refl
without d (x ∷ xs) n = rw (ne_eqb d x (λ e. n 0 (omega arith) (sym e))) (without d xs (λ k h. n (suc k) (omega arith)))

pub within : (d : ℕ) (cs : List ℕ) (k : ℕ) → k < length cs → get_or cs k 0 ≡ d → any (eqb d) cs ≡ true
within d [] k h e = absurd (omega arith)
within d (x ∷ xs) zero h e = rw (eq-eqb d x (sym e))
within d (x ∷ xs) (suc k) h e = ⊎_elim (λ t. rw t) (λ t. rw t (within d xs k (omega arith) e)) (cases_Bool (eqb d x))

pub a_name : (xs : List ℕ) → 1 ≤ length xs → length xs ≤ 64 → any (eqb 10) xs ≡ false → got xs [] ≡ a_file (32 ∷ xs)
a_name xs some few e = rw (le-leb 2 (suc (length xs)) (omega arith), le-leb (suc (length xs)) 65 (omega arith), e)

pub no_name : (xs : List ℕ) → (1 ≤ length xs → length xs ≤ 64 → any (eqb 10) xs ≡ true) → none ≡ a_file (32 ∷ xs)
no_name xs n =
    ⊎_elim
    (λ e.
    let p = and_parts (leb 2 (suc (length xs))) (leb (suc (length xs)) 65) e in
    let some = leb-true 2 (suc (length xs)) p.0 in
    let few = leb-true (suc (length xs)) 65 p.1 in
    rw (e, n (omega arith) (omega arith)))
    (λ e. rw e)
    (cases_Bool (leb 2 (suc (length xs)) && leb (suc (length xs)) 65))
