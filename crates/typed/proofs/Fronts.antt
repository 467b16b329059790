-- The first byte and what is left, as a slice pattern gives them, and what a call gave. Assumes nothing.
use Rattle.std.proofs.Common.{◌≡◌, ℕ, ◌-◌, ◌<◌, Bool, true, false, List, [], ◌∷◌, length, get_or, take, drop, sym, refl, ap, ◌∙◌, arith}
use Rattle.std.proofs.lemmas.List.{take_rest}
use Rattle.plain.specs.Pattern.{pick, Got, none, got, with_got}

-- `rest` of a pattern `[c, rest @ ..]`
abbrev pub tail_of : List ℕ → List ℕ
tail_of cs = take (length cs - 1) (drop 1 cs)

pub front : (cs : List ℕ) (x : ℕ) → 0 < length cs → get_or cs 0 0 ≡ x → cs ≡ x ∷ tail_of cs
front [] x some is = absurd (omega arith)
front (y ∷ ys) x some is = λ i. is i ∷ sym (take_rest (y ∷ ys) 1) i

pub no_front : (cs : List ℕ) → length cs < 1 → cs ≡ []
no_front [] h = refl
no_front (y ∷ ys) h = absurd (omega arith)

-- what a call of a function that refuses under a test gave
pub took : {A : Type 0} (b : Bool) (n m : A) (xs ys : List ℕ) → got n xs ≡ pick b none (got m ys) → (b ≡ false) × (n ≡ m) × (xs ≡ ys)
took true n m xs ys e = let z : ◌≡◌ {A = ℕ} 0 1 = cc in absurd (omega arith)
took false n m xs ys e = (refl, cc, cc)

pub refused : {A : Type 0} (b : Bool) (m : A) (ys : List ℕ) → none ≡ pick b none (got m ys) → b ≡ true
refused true m ys e = refl
refused false m ys e = cc

-- what a call gave, put to use
pub carried : {A B : Type 0} (f : A → List ℕ → Got ℕ B) {g h : Got ℕ A} → g ≡ h → with_got g f ≡ with_got h f
carried f e = ap (λ x. with_got x f) e

-- what a call gave of the bytes behind the first, put to use: nothing, or a value and what is left
module _ {A B : Type 0} (x : ℕ) (f : A → List ℕ → Got ℕ B) (part : List ℕ → Got ℕ A) (all : List ℕ → Got ℕ B) (on : (xs : List ℕ) → all (x ∷ xs) ≡ with_got (part xs) f) (cs : List ℕ) (some : 0 < length cs) (is : get_or cs 0 0 ≡ x) where
  onward : with_got (part (tail_of cs)) f ≡ all cs
  onward = sym (ap all (front cs x some is) ∙ on (tail_of cs))

  pub behind_none : none ≡ part (tail_of cs) → none ≡ all cs
  behind_none e = carried f {g = none} {h = part (tail_of cs)} e ∙ onward

  pub behind_got : (a : A) (ds : List ℕ) → got a ds ≡ part (tail_of cs) → f a ds ≡ all cs
  behind_got a ds e = carried f {g = got a ds} {h = part (tail_of cs)} e ∙ onward

-- the same where what the call gave is the whole answer
pub behind : {B : Type 0} (x : ℕ) (part all : List ℕ → Got ℕ B) → ((xs : List ℕ) → all (x ∷ xs) ≡ part xs) → (cs : List ℕ) → 0 < length cs → get_or cs 0 0 ≡ x → (g : Got ℕ B) → g ≡ part (tail_of cs) → g ≡ all cs
behind x part all on cs some is g e = e ∙ sym (ap all (front cs x some is) ∙ on (tail_of cs))
