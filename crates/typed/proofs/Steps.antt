-- Steps on and back, one after the other. Assumes nothing.
use Rattle.std.proofs.Common.{◌≡◌, ℕ, zero, suc, ◌+◌, ◌-◌, ◌*◌, ◌^◌, ◌<◌, ◌≤◌, false, eqb, ltb, List, [], ◌∷◌, length, sym, refl, ap, ◌∙◌, ⊎_elim, mul-le-mul_right, mul_assoc, arith}
use native.Mathlib.Nat.{pow-succ', pow-le-pow_right}
use Rattle.std.proofs.lemmas.Bool.{cases_Bool, ne_eqb, ltb-false, leb-true, and_parts}
use Rattle.plain.specs.Pattern.{pick, none, got}
use Rattle.plain.specs.Command.{Address, digit, starts_digit, number_part, after_digits, digits_long, amount, offsets}
use Rattle.typed.specs.Meaning.{moved, at_place}
use Rattle.typed.specs.Answer.{an_amount}
use Rattle.typed.specs.declared.addresses.Place.{Place}
use Rattle.typed.proofs.Fronts.{took, refused}
use Rattle.typed.proofs.Digits.{worth_more, worth_none, after_more, after_none, long-more, long_none}

-- digits write less than the power of ten that they fill
worth_below : (n : ℕ) (cs : List ℕ) → number_part n cs < (n + 1) * 10 ^ digits_long cs
worth_below n [] = rw (worth_none n [] refl, long_none [] refl) (omega arith)
worth_below n (x ∷ xs) =
    ⊎_elim
    (λ e.
    let low = leb-true 48 x (and_parts _ _ e).0 in
    let high = leb-true x 57 (and_parts _ _ e).1 in
    let m = 10 * n + (x - 48) in
    let k = 10 ^ digits_long xs in
    let more : (m + 1) * k ≤ (n + 1) * 10 * k = mul-le-mul_right k (omega arith) in
    rw (worth_more n x xs e, long-more x xs e, pow-succ') (omega (arith, worth_below m xs, mul_assoc (n + 1) 10 k)))
    (λ e. rw (worth_none n (x ∷ xs) e, long_none (x ∷ xs) e) (omega arith))
    (cases_Bool (digit x))

amount-small : (cs : List ℕ) → digits_long cs ≤ 9 → amount cs < 1000000000
amount-small cs few =
    let ceiling : 10 ^ digits_long cs ≤ 10 ^ 9 = pow-le-pow_right (omega arith) few in
    ⊎_elim
    (λ e. rw e (omega (arith, worth_below 0 cs)))
    (λ e. rw e (omega arith))
    (cases_Bool (starts_digit cs))

pub after_shorter : (cs : List ℕ) → length (after_digits cs) ≤ length cs
after_shorter [] = rw (after_none [] refl) (omega arith)
after_shorter (x ∷ xs) =
    ⊎_elim
    (λ e. rw (after_more x xs e) (omega (arith, after_shorter xs)))
    (λ e. rw (after_none (x ∷ xs) e) (omega arith))
    (cases_Bool (digit x))

-- fuel beyond the bytes counts for nothing
fuel : (n m : ℕ) (a : Address) (cs : List ℕ) → length cs < n → length cs < m → offsets n a cs ≡ offsets m a cs
unfolding offsets
fuel zero m a cs h k = absurd (omega arith)
fuel (suc n) zero a cs h k = absurd (omega arith)
fuel (suc n) (suc m) a [] h k = refl
fuel (suc n) (suc m) a (c ∷ cs) h k =
    let short = after_shorter cs in
    let p : length (after_digits cs) < n = omega arith in
    let q : length (after_digits cs) < m = omega arith in
    λ i. pick (ltb 9 (digits_long cs)) none
    (pick (eqb c 43) (fuel n m (record { kind = a.kind; number = a.number; text = a.text; on = a.on + amount cs; back = a.back }) (after_digits cs) p q i)
    (pick (eqb c 45) (fuel n m (record { kind = a.kind; number = a.number; text = a.text; on = a.on; back = a.back + amount cs }) (after_digits cs) p q i) (got a (c ∷ cs))))

-- the steps before rest lead so far on and back
pub record Sofar (p : Place) (cs : List ℕ) (on back : ℕ) (rest : List ℕ) : Type 0 where
  pub same : offsets (suc (length cs)) (at_place p) cs ≡ offsets (suc (length rest)) (moved on back p) rest
  pub few : on + 1000000000 * length rest ≤ 1000000000 * length cs
  pub less : back + 1000000000 * length rest ≤ 1000000000 * length cs

pub start : (p : Place) (cs : List ℕ) → Sofar p cs 0 0 cs
start p cs = record { same = refl; few = omega arith; less = omega arith }

-- what `amount` gave of the bytes after the sign
module _ (n : ℕ) (tail after : List ℕ) (given : got n after ≡ an_amount tail) where
  fit : ltb 9 (digits_long tail) ≡ false
  fit = (took (ltb 9 (digits_long tail)) n (amount tail) after (after_digits tail) given).0

  is_amount : n ≡ amount tail
  is_amount = (took (ltb 9 (digits_long tail)) n (amount tail) after (after_digits tail) given).1

  is_after : after ≡ after_digits tail
  is_after = (took (ltb 9 (digits_long tail)) n (amount tail) after (after_digits tail) given).2

  pub small : n < 1000000000
  small = omega (arith, is_amount, amount-small tail (ltb-false 9 (digits_long tail) fit))

  pub shorter : length after ≤ length tail
  shorter = omega (arith, ap length is_after, after_shorter tail)

  refuelled : (a : Address) → offsets (suc (length tail)) a (after_digits tail) ≡ offsets (suc (length after)) a after
  refuelled a =
      let short = after_shorter tail in
      fuel (suc (length tail)) (suc (length (after_digits tail))) a (after_digits tail) (omega arith) (omega arith) ∙ ap (λ es. offsets (suc (length es)) a es) (sym is_after)

  step-on : (on back : ℕ) (p : Place) → offsets (suc (suc (length tail))) (moved on back p) (43 ∷ tail) ≡ offsets (suc (length after)) (moved (on + n) back p) after
  unfolding offsets
  step-on on back p = rw fit (refuelled (moved (on + amount tail) back p) ∙ ap (λ k. offsets (suc (length after)) (moved (on + k) back p) after) (sym is_amount))

  step_back : (on back : ℕ) (p : Place) → offsets (suc (suc (length tail))) (moved on back p) (45 ∷ tail) ≡ offsets (suc (length after)) (moved on (back + n) p) after
  unfolding offsets
  step_back on back p = rw fit (refuelled (moved on (back + amount tail) p) ∙ ap (λ k. offsets (suc (length after)) (moved on (back + k) p) after) (sym is_amount))

  stop : (a : Address) (c : ℕ) → (c ≡ 43 → ⊥) → (c ≡ 45 → ⊥) → offsets (suc (suc (length tail))) a (c ∷ tail) ≡ got a (c ∷ tail)
  unfolding offsets
  stop a c x y = rw (fit, ne_eqb c 43 x, ne_eqb c 45 y)

  module _ {p : Place} {cs : List ℕ} {on back : ℕ} {rest : List ℕ} (h : Sofar p cs on back rest) where
    pub on-more : rest ≡ 43 ∷ tail → Sofar p cs (on + n) back after
    on-more e =
        let long = ap length e in
        let lo = small in
        let sh = shorter in
        record {
          same = h.same ∙ ap (λ es. offsets (suc (length es)) (moved on back p) es) e ∙ step-on on back p;
          few = omega (arith, h.few);
          less = omega (arith, h.less);
        }

    pub back_more : rest ≡ 45 ∷ tail → Sofar p cs on (back + n) after
    back_more e =
        let long = ap length e in
        let lo = small in
        let sh = shorter in
        record {
          same = h.same ∙ ap (λ es. offsets (suc (length es)) (moved on back p) es) e ∙ step_back on back p;
          few = omega (arith, h.few);
          less = omega (arith, h.less);
        }

    pub stopped : (c : ℕ) → rest ≡ c ∷ tail → (c ≡ 43 → ⊥) → (c ≡ 45 → ⊥) → got (moved on back p) rest ≡ offsets (suc (length cs)) (at_place p) cs
    stopped c e x y =
        sym (h.same ∙ ap (λ es. offsets (suc (length es)) (moved on back p) es) e ∙ stop (moved on back p) c x y ∙ ap (got (moved on back p)) (sym e))

cut : (a : Address) (c : ℕ) (tail : List ℕ) → none ≡ an_amount tail → offsets (suc (suc (length tail))) a (c ∷ tail) ≡ none
unfolding offsets
cut a c tail e = rw (refused (ltb 9 (digits_long tail)) (amount tail) (after_digits tail) e)

pub cut_off : {p : Place} {cs : List ℕ} {on back : ℕ} {rest : List ℕ} → Sofar p cs on back rest → (c : ℕ) (tail : List ℕ) → rest ≡ c ∷ tail → none ≡ an_amount tail → none ≡ offsets (suc (length cs)) (at_place p) cs
cut_off {p} {cs} {on} {back} h c tail e f =
    sym (h.same ∙ ap (λ es. offsets (suc (length es)) (moved on back p) es) e ∙ cut (moved on back p) c tail f)

at_end : (a : Address) → offsets 1 a [] ≡ got a []
unfolding offsets
at_end a = refl

pub ended : {p : Place} {cs : List ℕ} {on back : ℕ} {rest : List ℕ} → Sofar p cs on back rest → rest ≡ [] → got (moved on back p) rest ≡ offsets (suc (length cs)) (at_place p) cs
ended {p} {cs} {on} {back} h e =
    sym (h.same ∙ ap (λ es. offsets (suc (length es)) (moved on back p) es) e ∙ at_end (moved on back p) ∙ ap (got (moved on back p)) (sym e))
