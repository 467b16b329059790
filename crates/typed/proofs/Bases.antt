-- A place, by its first byte. Assumes nothing.
use Rattle.std.proofs.Common.{◌≡◌, ℕ, ◌<◌, ◌≤◌, Bool, true, false, ltb, List, [], ◌∷◌, length, get_or, sym, refl, ap, ◌∙◌, arith}
use Rattle.std.proofs.lemmas.List.{take_rest}
use Rattle.std.proofs.lemmas.Bool.{ne_eqb}
use Rattle.std.proofs.lemmas.Bool.Decides.{nat_tests}
use Rattle.plain.specs.Pattern.{pick, none, got, with_got, between}
use Rattle.plain.specs.Command.{here, address, number_part, after_digits, digits_long, up_to, base}
use Rattle.typed.specs.Answer.{a_number}
use Rattle.typed.proofs.Fronts.{tail_of}
use Rattle.typed.proofs.Digits.{digit_yes, digit_no, after_more}

pub at-nothing : base [] ≡ none
unfolding base
at-nothing = refl

pub at_dot : (xs : List ℕ) → base (46 ∷ xs) ≡ got here xs
unfolding base
at_dot xs = refl

pub at_dollar : (xs : List ℕ) → base (36 ∷ xs) ≡ got (address 1 0 []) xs
unfolding base
at_dollar xs = refl

pub at_slash : (xs : List ℕ) → base (47 ∷ xs) ≡ with_got (up_to 47 [] xs) (λ t ds. got (address 4 0 t) ds)
unfolding base
at_slash xs = refl

pub at_question : (xs : List ℕ) → base (63 ∷ xs) ≡ with_got (up_to 63 [] xs) (λ t ds. got (address 5 0 t) ds)
unfolding base
at_question xs = refl

pub at_plus : (xs : List ℕ) → base (43 ∷ xs) ≡ got here (43 ∷ xs)
unfolding base
at_plus xs = refl

pub at_minus : (xs : List ℕ) → base (45 ∷ xs) ≡ got here (45 ∷ xs)
unfolding base
at_minus xs = refl

pub at_mark : (xs : List ℕ) → 0 < length xs → 97 ≤ get_or xs 0 0 → get_or xs 0 0 ≤ 122 → base (39 ∷ xs) ≡ got (address 3 (get_or xs 0 0) []) (tail_of xs)
unfolding base
at_mark [] some low high = absurd (omega arith)
at_mark (x ∷ xs) some low high =
    let e : between 97 122 x ≡ true = grind (arith, nat_tests) in
    ap (λ b. pick b (got (address 3 x []) xs) none) e ∙ ap (got (address 3 x [])) (sym (take_rest (x ∷ xs) 1))

pub at_no_mark : (xs : List ℕ) → (0 < length xs → 97 ≤ get_or xs 0 0 → get_or xs 0 0 ≤ 122 → ⊥) → base (39 ∷ xs) ≡ none
unfolding base
at_no_mark [] n = refl
at_no_mark (x ∷ xs) n =
    let m = n (omega arith) in
    let e : between 97 122 x ≡ false = grind (arith, nat_tests) in
    ap (λ b. pick b (got (address 3 x []) xs) none) e

under : {A B : Type 0} (b : Bool) (n : A) (ds : List ℕ) (f : A → B) → pick b none (got (f n) ds) ≡ with_got (pick b none (got n ds)) (λ m es. got (f m) es)
under true n ds f = refl
under false n ds f = refl

pub at-digit : (xs : List ℕ) → 0 < length xs → 48 ≤ get_or xs 0 0 → get_or xs 0 0 ≤ 57 → base xs ≡ with_got (a_number xs) (λ n ds. got (address 2 n []) ds)
unfolding base
at-digit [] some low high = absurd (omega arith)
at-digit (x ∷ xs) some low high =
    let e = digit_yes x low high in
    rw e (ap (λ ds. pick (ltb 9 (digits_long (x ∷ xs))) none (got (address 2 (number_part 0 (x ∷ xs)) []) ds)) (sym (after_more x xs e)) ∙ under (ltb 9 (digits_long (x ∷ xs))) (number_part 0 (x ∷ xs)) (after_digits (x ∷ xs)) (λ n. address 2 n []))

-- no place begins so
pub record Other (x : ℕ) : Type 0 where
  pub digit : 48 ≤ x → x ≤ 57 → ⊥
  pub dot : x ≡ 46 → ⊥
  pub dollar : x ≡ 36 → ⊥
  pub quote : x ≡ 39 → ⊥
  pub slash : x ≡ 47 → ⊥
  pub question : x ≡ 63 → ⊥
  pub plus : x ≡ 43 → ⊥
  pub minus : x ≡ 45 → ⊥

pub at_other : (x : ℕ) (xs : List ℕ) → Other x → base (x ∷ xs) ≡ none
unfolding base
at_other x xs o =
    rw (digit_no x o.digit, ne_eqb x 46 o.dot, ne_eqb x 36 o.dollar, ne_eqb x 39 o.quote, ne_eqb x 47 o.slash, ne_eqb x 63 o.question, ne_eqb x 43 o.plus, ne_eqb x 45 o.minus)
