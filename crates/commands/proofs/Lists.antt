-- Laws of lists: parts of what is made of each, of what is joined, of what is turned round. Assumes nothing.
use Rattle.std.proofs.Common.{◌≡◌, ℕ, zero, suc, ◌+◌, ◌≤◌, Bool, true, List, [], ◌∷◌, ◌++◌, reverse, length, take, drop, sym, refl, ap, ◌∙◌, inl, inr, arith}
use mathlib.Core.List.{reverse-cons}
use Rattle.std.proofs.lemmas.List.{append_assoc, length-append, length-reverse, drop-append-le}
use Rattle.std.proofs.lemmas.Bool.{and_parts, and_from}
use Rattle.plain.specs.Pattern.{every, each, flat, added_up}
use Rattle.plain.proofs.Basics.{In, every_append, added_append}

-- each, of parts
pub each_take : {A B : Type 0} (f : A → B) (n : ℕ) (xs : List A) → each f (take n xs) ≡ take n (each f xs)
each_take f zero xs = refl
each_take f (suc n) [] = refl
each_take f (suc n) (x ∷ xs) = ap (λ t. f x ∷ t) (each_take f n xs)

pub each_drop : {A B : Type 0} (f : A → B) (n : ℕ) (xs : List A) → each f (drop n xs) ≡ drop n (each f xs)
each_drop f zero xs = refl
each_drop f (suc n) [] = refl
each_drop f (suc n) (x ∷ xs) = each_drop f n xs

pub added_each : {A B : Type 0} (g : B → ℕ) (f : A → B) (xs : List A) → added_up g (each f xs) ≡ added_up (λ x. g (f x)) xs
added_each g f [] = refl
added_each g f (x ∷ xs) = ap (λ t. g (f x) + t) (added_each g f xs)

pub flat_each : {A B C : Type 0} (g : B → List C) (f : A → B) (xs : List A) → flat g (each f xs) ≡ flat (λ x. g (f x)) xs
flat_each g f [] = refl
flat_each g f (x ∷ xs) = ap (λ t. g (f x) ++ t) (flat_each g f xs)

pub flat_append : {A B : Type 0} (f : A → List B) (xs ys : List A) → flat f (xs ++ ys) ≡ flat f xs ++ flat f ys
flat_append f [] ys = refl
flat_append f (x ∷ xs) ys = ap (λ t. f x ++ t) (flat_append f xs ys) ∙ sym (append_assoc (f x) (flat f xs) (flat f ys))

pub length-flat : {A B : Type 0} (f : A → List B) (xs : List A) → length (flat f xs) ≡ added_up (λ x. length (f x)) xs
length-flat f [] = refl
length-flat f (x ∷ xs) = length-append (f x) (flat f xs) ∙ ap (λ t. length (f x) + t) (length-flat f xs)

-- tests of parts
pub every_take : {A : Type 0} (p : A → Bool) (n : ℕ) (xs : List A) → every p xs ≡ true → every p (take n xs) ≡ true
every_take p zero xs e = refl
every_take p (suc n) [] e = refl
every_take p (suc n) (x ∷ xs) e = let q = and_parts (p x) (every p xs) e in and_from (p x) (every p (take n xs)) q.0 (every_take p n xs q.1)

pub every_drop : {A : Type 0} (p : A → Bool) (n : ℕ) (xs : List A) → every p xs ≡ true → every p (drop n xs) ≡ true
every_drop p zero xs e = e
every_drop p (suc n) [] e = refl
every_drop p (suc n) (x ∷ xs) e = every_drop p n xs (and_parts (p x) (every p xs) e).1

pub every_both : {A : Type 0} (p : A → Bool) (xs ys : List A) → every p xs ≡ true → every p ys ≡ true → every p (xs ++ ys) ≡ true
every_both p xs ys e f = every_append p xs ys ∙ and_from (every p xs) (every p ys) e f

pub every_parts : {A : Type 0} (p : A → Bool) (xs ys : List A) → every p (xs ++ ys) ≡ true → (every p xs ≡ true) × (every p ys ≡ true)
every_parts p xs ys e = and_parts (every p xs) (every p ys) (sym (every_append p xs ys) ∙ e)

pub every_flat : {A B : Type 0} (p : B → Bool) (f : A → List B) (xs : List A) → ((x : A) → In x xs → every p (f x) ≡ true) → every p (flat f xs) ≡ true
every_flat p f [] h = refl
every_flat p f (x ∷ xs) h = every_both p (f x) (flat f xs) (h x (inl refl)) (every_flat p f xs (λ y i. h y (inr i)))

-- parts of two lists behind one another
pub take_past : {A : Type 0} (xs ys : List A) (n : ℕ) → take (length xs + n) (xs ++ ys) ≡ xs ++ take n ys
take_past [] ys n = let e : 0 + n ≡ n = omega arith in ap (λ m. take m ys) e
take_past (x ∷ xs) ys n = let e : suc (length xs) + n ≡ suc (length xs + n) = omega arith in ap (λ m. take m (x ∷ (xs ++ ys))) e ∙ ap (λ t. x ∷ t) (take_past xs ys n)

pub drop_past : {A : Type 0} (xs ys : List A) (n : ℕ) → drop (length xs + n) (xs ++ ys) ≡ drop n ys
drop_past [] ys n = let e : 0 + n ≡ n = omega arith in ap (λ m. drop m ys) e
drop_past (x ∷ xs) ys n = let e : suc (length xs) + n ≡ suc (length xs + n) = omega arith in ap (λ m. drop m (x ∷ (xs ++ ys))) e ∙ drop_past xs ys n

-- what is turned round
pub added_reverse : {A : Type 0} (f : A → ℕ) (xs : List A) → added_up f (reverse xs) ≡ added_up f xs
added_reverse f [] = refl
added_reverse f (x ∷ xs) = let r = added_reverse f xs in ap (added_up f) (reverse-cons x xs) ∙ added_append f (reverse xs) (x ∷ []) ∙ (omega arith)

pub take_less : {A : Type 0} (n : ℕ) (xs : List A) → length xs ≤ n → take n xs ≡ xs
take_less zero [] h = refl
take_less zero (x ∷ xs) h = absurd (omega arith)
take_less (suc n) [] h = refl
take_less (suc n) (x ∷ xs) h = ap (λ t. x ∷ t) (take_less n xs (omega arith))

-- all but the last, turned round
pub reverse-take : {A : Type 0} (n : ℕ) (xs : List A) → length xs ≡ suc n → reverse (take n xs) ≡ drop 1 (reverse xs)
reverse-take zero [] h = absurd (omega arith)
reverse-take zero (x ∷ []) h = refl
reverse-take zero (x ∷ y ∷ xs) h = absurd (omega arith)
reverse-take (suc n) [] h = absurd (omega arith)
reverse-take (suc n) (x ∷ xs) h =
    let l : length xs ≡ suc n = omega arith in
    let m : 1 ≤ length (reverse xs) = omega (arith, length-reverse xs) in
    reverse-cons x (take n xs) ∙ ap (λ t. t ++ x ∷ []) (reverse-take n xs l)
    ∙ sym (drop-append-le 1 (reverse xs) (x ∷ []) m) ∙ ap (drop 1) (sym (reverse-cons x xs))
