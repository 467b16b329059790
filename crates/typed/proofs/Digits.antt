-- Digits at the front of some bytes, read one after the other. Assumes nothing.
use Rattle.std.proofs.Common.{◌≡◌, ℕ, suc, ◌+◌, ◌-◌, ◌*◌, ◌^◌, ◌<◌, ◌≤◌, true, false, ltb, List, [], ◌∷◌, length, get_or, drop, sym, refl, ap, ◌∙◌, add-one, arith}
use native.Mathlib.Nat.{pow-succ', pow-le-pow_right}
use Rattle.std.proofs.lemmas.Bool.{lt-ltb, le-ltb}
use Rattle.std.proofs.lemmas.Bool.Decides.{nat_tests}
use Rattle.plain.specs.Pattern.{pick, none, got}
use Rattle.plain.specs.Command.{digit, starts_digit, number_part, after_digits, digits_long, amount}
use Rattle.typed.specs.Answer.{a_number, an_amount}

pub digit_yes : (x : ℕ) → 48 ≤ x → x ≤ 57 → digit x ≡ true
digit_yes x a b = grind (arith, nat_tests)

pub digit_no : (x : ℕ) → (48 ≤ x → x ≤ 57 → ⊥) → digit x ≡ false
digit_no x n = grind (arith, nat_tests)

-- a first byte that is no digit, or no byte
pub no_digit : (xs : List ℕ) → (0 < length xs → 48 ≤ get_or xs 0 0 → get_or xs 0 0 ≤ 57 → ⊥) → starts_digit xs ≡ false
no_digit [] n = refl
no_digit (x ∷ xs) n = digit_no x (n (omega arith))

-- value and count are those of the digits before rest
pub record Sofar (cs : List ℕ) (value count : ℕ) (rest : List ℕ) : Type 0 where
  pub worth : number_part 0 cs ≡ number_part value rest
  pub after : after_digits cs ≡ after_digits rest
  pub long : digits_long cs ≡ count + digits_long rest
  pub few : count ≤ 9
  pub small : value < 10 ^ count

pub start : (cs : List ℕ) → Sofar cs 0 0 cs
start cs = record { worth = refl; after = refl; long = omega arith; few = omega arith; small = omega arith }

pub worth_more : (n x : ℕ) (xs : List ℕ) → digit x ≡ true → number_part n (x ∷ xs) ≡ number_part (10 * n + (x - 48)) xs
unfolding number_part
worth_more n x xs e = ap (λ b. pick b (number_part (10 * n + (x - 48)) xs) n) e

pub after_more : (x : ℕ) (xs : List ℕ) → digit x ≡ true → after_digits (x ∷ xs) ≡ after_digits xs
unfolding after_digits
after_more x xs e = ap (λ b. pick b (after_digits xs) (x ∷ xs)) e

pub long-more : (x : ℕ) (xs : List ℕ) → digit x ≡ true → digits_long (x ∷ xs) ≡ suc (digits_long xs)
unfolding digits_long
long-more x xs e = ap (λ b. pick b (suc (digits_long xs)) 0) e

pub one_more : (cs : List ℕ) (value count d : ℕ) (xs tail : List ℕ) → Sofar cs value count xs → 0 < length xs → 48 ≤ get_or xs 0 0 → get_or xs 0 0 ≤ 57 → (count ≡ 9 → ⊥) → d ≡ get_or xs 0 0 - 48 → tail ≡ drop 1 xs → Sofar cs (10 * value + d) (count + 1) tail
one_more cs value count d [] tail h some low high few is cut = absurd (omega arith)
one_more cs value count d (x ∷ xs) tail h some low high few is cut =
    let e = digit_yes x low high in
    record {
      worth = h.worth ∙ worth_more value x xs e ∙ (λ i. number_part (10 * value + sym is i) (sym cut i));
      after = h.after ∙ after_more x xs e ∙ ap after_digits (sym cut);
      long = omega (arith, h.long, long-more x xs e, ap digits_long cut);
      few = omega (arith, h.few);
      small = rw (add-one, pow-succ') (omega (arith, h.small));
    }

pub worth_none : (n : ℕ) (xs : List ℕ) → starts_digit xs ≡ false → number_part n xs ≡ n
unfolding number_part
worth_none n [] e = refl
worth_none n (x ∷ xs) e = ap (λ b. pick b (number_part (10 * n + (x - 48)) xs) n) e

pub after_none : (xs : List ℕ) → starts_digit xs ≡ false → after_digits xs ≡ xs
unfolding after_digits
after_none [] e = refl
after_none (x ∷ xs) e = ap (λ b. pick b (after_digits xs) (x ∷ xs)) e

pub long_none : (xs : List ℕ) → starts_digit xs ≡ false → digits_long xs ≡ 0
unfolding digits_long
long_none [] e = refl
long_none (x ∷ xs) e = ap (λ b. pick b (suc (digits_long xs)) 0) e

-- nine digits at most, and no other
pub all_read : (cs : List ℕ) (value count : ℕ) (xs : List ℕ) → Sofar cs value count xs → starts_digit xs ≡ false → got value xs ≡ a_number cs
all_read cs value count xs h e =
    let few : digits_long cs ≤ 9 = omega (arith, h.long, h.few, long_none xs e) in
    (λ i. got (sym (h.worth ∙ worth_none value xs e) i) (sym (h.after ∙ after_none xs e) i)) ∙ ap (λ b. pick b none (got (number_part 0 cs) (after_digits cs))) (sym (le-ltb 9 (digits_long cs) few))

-- a tenth
pub too_many : (cs : List ℕ) (value count : ℕ) (xs : List ℕ) → Sofar cs value count xs → count ≡ 9 → 0 < length xs → 48 ≤ get_or xs 0 0 → get_or xs 0 0 ≤ 57 → none ≡ a_number cs
too_many cs value count [] h nine some low high = absurd (omega arith)
too_many cs value count (x ∷ xs) h nine some low high =
    let many : 9 < digits_long cs = omega (arith, h.long, long-more x xs (digit_yes x low high)) in
    ap (λ b. pick b none (got (number_part 0 cs) (after_digits cs))) (sym (lt-ltb 9 (digits_long cs) many))

-- what nine digits write
pub at_most : (value count : ℕ) → value < 10 ^ count → count ≤ 9 → value < 1000000000
at_most value count small few =
    let ceiling : 10 ^ count ≤ 10 ^ 9 = pow-le-pow_right (omega arith) few in
    omega arith

pub one_if_none : (cs : List ℕ) → starts_digit cs ≡ false → got 1 cs ≡ an_amount cs
one_if_none cs e =
    let few : digits_long cs ≤ 9 = omega (arith, long_none cs e) in
    (λ i. got (pick (sym e i) (number_part 0 cs) 1) (sym (after_none cs e) i)) ∙ ap (λ b. pick b none (got (amount cs) (after_digits cs))) (sym (le-ltb 9 (digits_long cs) few))

pub number_is_amount : (cs : List ℕ) → 0 < length cs → 48 ≤ get_or cs 0 0 → get_or cs 0 0 ≤ 57 → a_number cs ≡ an_amount cs
number_is_amount [] some low high = absurd (omega arith)
number_is_amount (x ∷ xs) some low high =
    ap (λ b. pick (ltb 9 (digits_long (x ∷ xs))) none (got (pick b (number_part 0 (x ∷ xs)) 1) (after_digits (x ∷ xs)))) (sym (digit_yes x low high))
