-- Lists tested by functions: any, every, those, each, added_up, over membership as a type. Assumes nothing.
use Rattle.std.proofs.Common.{◌≡◌, ℕ, suc, ◌+◌, Bool, true, false, not, ◌&&◌, eqb, ◌⊎◌, List, [], ◌∷◌, ◌++◌, length, sym, refl, ap, subst, inl, inr, arith}
use Rattle.std.proofs.lemmas.Bool.{false≢true, both_ways, eqb-true, eq-eqb, cases_Bool, and_parts, and_from, not-true}
use Rattle.plain.specs.Pattern.{pick, or, every, any, each, those, added_up}
use Rattle.plain.specs.Promise.{distinct}

-- membership
abbrev pub In : {A : Type 0} → A → List A → Type 0
In x [] = ⊥
In x (y ∷ ys) = (y ≡ x) ⊎ In x ys

pub in_left : {A : Type 0} (x : A) (xs ys : List A) → In x xs → In x (xs ++ ys)
in_left x [] ys h = absurd h
in_left x (y ∷ xs) ys (inl e) = inl e
in_left x (y ∷ xs) ys (inr h) = inr (in_left x xs ys h)

pub in_right : {A : Type 0} (x : A) (xs ys : List A) → In x ys → In x (xs ++ ys)
in_right x [] ys h = h
in_right x (y ∷ xs) ys h = inr (in_right x xs ys h)

pub in_cases : {A : Type 0} (x : A) (xs ys : List A) → In x (xs ++ ys) → In x xs ⊎ In x ys
in_cases x [] ys h = inr h
in_cases x (y ∷ xs) ys (inl e) = inl (inl e)
in_cases x (y ∷ xs) ys (inr h) = elim (in_cases x xs ys h) [ inl k ↦ inl (inr k) | inr k ↦ inr k ]

pub in_each : {A B : Type 0} (f : A → B) (x : A) (xs : List A) → In x xs → In (f x) (each f xs)
in_each f x [] h = absurd h
in_each f x (y ∷ xs) (inl e) = inl (ap f e)
in_each f x (y ∷ xs) (inr h) = inr (in_each f x xs h)

pub in_each_from : {A B : Type 0} (f : A → B) (y : B) (xs : List A) → In y (each f xs) → (x : A) × In x xs × (f x ≡ y)
in_each_from f y [] h = absurd h
in_each_from f y (x ∷ xs) (inl e) = (x, inl refl, e)
in_each_from f y (x ∷ xs) (inr h) = let r = in_each_from f y xs h in (r.0, inr r.1, r.2)

-- any and every, by members
pub or_true : (x y : Bool) → or x y ≡ true → (x ≡ true) ⊎ (y ≡ true)
or_true true y e = inl refl
or_true false y e = inr e

pub any_in : {A : Type 0} (p : A → Bool) (x : A) (xs : List A) → In x xs → p x ≡ true → any p xs ≡ true
any_in p x [] h e = absurd h
any_in p x (y ∷ xs) (inl q) e = grind (arith, ap p q)
any_in p x (y ∷ xs) (inr h) e = let r = any_in p x xs h e in grind arith

pub any_from : {A : Type 0} (p : A → Bool) (xs : List A) → any p xs ≡ true → (x : A) × In x xs × (p x ≡ true)
any_from p [] e = absurd (false≢true e)
any_from p (x ∷ xs) e = elim (or_true (p x) (any p xs) e) [ inl k ↦ (x, inl refl, k) | inr k ↦ let r = any_from p xs k in (r.0, inr r.1, r.2) ]

pub any_none : {A : Type 0} (p : A → Bool) (xs : List A) → ((x : A) → In x xs → p x ≡ false) → any p xs ≡ false
any_none p [] h = refl
any_none p (x ∷ xs) h = rw (h x (inl refl)) (any_none p xs (λ y k. h y (inr k)))

pub every_in : {A : Type 0} (p : A → Bool) (x : A) (xs : List A) → every p xs ≡ true → In x xs → p x ≡ true
every_in p x [] e h = absurd h
every_in p x (y ∷ xs) e (inl q) = rw q at (and_parts (p y) (every p xs) e).0
every_in p x (y ∷ xs) e (inr h) = every_in p x xs (and_parts (p y) (every p xs) e).1 h

pub every_by : {A : Type 0} (p : A → Bool) (xs : List A) → ((x : A) → In x xs → p x ≡ true) → every p xs ≡ true
every_by p [] h = refl
every_by p (x ∷ xs) h = rw (h x (inl refl)) (every_by p xs (λ y k. h y (inr k)))

pub every_append : {A : Type 0} (p : A → Bool) (xs ys : List A) → every p (xs ++ ys) ≡ (every p xs && every p ys)
every_append p [] ys = refl
every_append p (x ∷ xs) ys = rw (every_append p xs ys) (grind arith)

-- those
pub those_append : {A : Type 0} (p : A → Bool) (xs ys : List A) → those p (xs ++ ys) ≡ those p xs ++ those p ys
those_append p [] ys = refl
those_append p (x ∷ xs) ys = rw (those_append p xs ys) (step (p x))
  where
    step : (t : Bool) → pick t (x ∷ (those p xs ++ those p ys)) (those p xs ++ those p ys) ≡ pick t (x ∷ those p xs) (those p xs) ++ those p ys
    step true = refl
    step false = refl

pub those_all : {A : Type 0} (p : A → Bool) (xs : List A) → ((x : A) → In x xs → p x ≡ true) → those p xs ≡ xs
those_all p [] h = refl
those_all p (x ∷ xs) h = rw (h x (inl refl)) (ap (λ t. x ∷ t) (those_all p xs (λ y k. h y (inr k))))

pub those_none : {A : Type 0} (p : A → Bool) (xs : List A) → ((x : A) → In x xs → p x ≡ false) → those p xs ≡ []
those_none p [] h = refl
those_none p (x ∷ xs) h = rw (h x (inl refl)) (those_none p xs (λ y k. h y (inr k)))

-- each
pub each_append : {A B : Type 0} (f : A → B) (xs ys : List A) → each f (xs ++ ys) ≡ each f xs ++ each f ys
each_append f [] ys = refl
each_append f (x ∷ xs) ys = ap (λ t. f x ∷ t) (each_append f xs ys)

pub length_each : {A B : Type 0} (f : A → B) (xs : List A) → length (each f xs) ≡ length xs
length_each f [] = refl
length_each f (x ∷ xs) = ap suc (length_each f xs)

-- added_up
pub added_append : {A : Type 0} (f : A → ℕ) (xs ys : List A) → added_up f (xs ++ ys) ≡ added_up f xs + added_up f ys
added_append f [] ys = omega arith
added_append f (x ∷ xs) ys = let r = added_append f xs ys in omega arith

pub added_same : {A : Type 0} (f g : A → ℕ) (xs : List A) → ((x : A) → In x xs → f x ≡ g x) → added_up f xs ≡ added_up g xs
added_same f g [] h = refl
added_same f g (x ∷ xs) h = let r = added_same f g xs (λ y k. h y (inr k)) in omega (arith, h x (inl refl))

pub added_none : {A : Type 0} (f : A → ℕ) (xs : List A) → ((x : A) → In x xs → f x ≡ 0) → added_up f xs ≡ 0
added_none f [] h = refl
added_none f (x ∷ xs) h = let r = added_none f xs (λ y k. h y (inr k)) in omega (arith, h x (inl refl))

-- numbers in a list, by the test
pub has_in : (i : ℕ) (is : List ℕ) → In i is → any (eqb i) is ≡ true
has_in i is h = any_in (eqb i) i is h (eq-eqb i i refl)

pub in_has : (i : ℕ) (is : List ℕ) → any (eqb i) is ≡ true → In i is
in_has i is e = let r = any_from (eqb i) is e in subst (λ j. In j is) (sym (eqb-true i r.0 r.2)) r.1

pub has_not : (i : ℕ) (is : List ℕ) → (In i is → ⊥) → any (eqb i) is ≡ false
has_not i is h = elim (cases_Bool (any (eqb i) is)) [ inl e ↦ absurd (h (in_has i is e)) | inr e ↦ e ]

pub not_has : (i : ℕ) (is : List ℕ) → any (eqb i) is ≡ false → In i is → ⊥
not_has i is e h = both_ways (any (eqb i) is) e (has_in i is h)

-- distinct
abbrev pub Apart : List ℕ → List ℕ → Type 0
Apart is js = (i : ℕ) → In i is → In i js → ⊥

pub record DistinctParts (is js : List ℕ) : Type 0 where
  pub first : distinct is ≡ true
  pub second : distinct js ≡ true
  pub apart : Apart is js

pub distinct_cons : (i : ℕ) (is : List ℕ) → distinct (i ∷ is) ≡ true → (In i is → ⊥) × (distinct is ≡ true)
unfolding distinct
distinct_cons i is e = let r = and_parts (not (any (eqb i) is)) (distinct is) e in (not_has i is (not-true (any (eqb i) is) r.0), r.1)

pub distinct_more : (i : ℕ) (is : List ℕ) → (In i is → ⊥) → distinct is ≡ true → distinct (i ∷ is) ≡ true
unfolding distinct
distinct_more i is h e = and_from _ _ (ap not (has_not i is h)) e

pub distinct-parts : (is js : List ℕ) → distinct (is ++ js) ≡ true → DistinctParts is js
unfolding distinct
distinct-parts [] js e = record { first = refl; second = e; apart = λ i h k. absurd h }
distinct-parts (i ∷ is) js e =
    let q = distinct_cons i (is ++ js) e in
    let r = distinct-parts is js q.1 in
    record {
      first = distinct_more i is (λ h. q.0 (in_left i is js h)) r.first;
      second = r.second;
      apart = λ j h k. elim h [ inl p ↦ q.0 (in_right i is js (subst (λ t. In t js) (sym p) k)) | inr g ↦ r.apart j g k ];
    }

pub distinct-join : (is js : List ℕ) → distinct is ≡ true → distinct js ≡ true → Apart is js → distinct (is ++ js) ≡ true
distinct-join [] js p q h = q
distinct-join (i ∷ is) js p q h =
    let c = distinct_cons i is p in
    distinct_more i (is ++ js)
    (λ k. elim (in_cases i is js k) [ inl g ↦ c.0 g | inr g ↦ h i (inl refl) g ])
    (distinct-join is js c.1 q (λ j g k. h j (inr g) k))
