-- Two lists that are alike entry by entry, and what keeps them so. Assumes nothing.
use Rattle.std.proofs.Common.{◌≡◌, ℕ, zero, suc, ◌+◌, ◌-◌, ◌<◌, List, [], ◌∷◌, ◌++◌, map, length, get_or, take, drop, set, refl, ap, ◌∙◌, arith}
use mathlib.Core.List.{map-append}
use Rattle.std.proofs.lemmas.List.{take-map, drop-map}
use Rattle.journal.specs.Log.{Source, no_entries, new_entries, copied, Splice, incoming, apply, Alike, none, more}

module _ {A B : Type 0} {R : A → B → Type 0} where
  pub alike_length : {xs : List A} {ys : List B} → Alike R xs ys → length xs ≡ length ys
  alike_length none = refl
  alike_length (more r h) = ap suc (alike_length h)

  pub alike_append : {xs us : List A} {ys vs : List B} → Alike R xs ys → Alike R us vs → Alike R (xs ++ us) (ys ++ vs)
  alike_append none k = k
  alike_append (more r h) k = more r (alike_append h k)

  pub alike_take : (n : ℕ) {xs : List A} {ys : List B} → Alike R xs ys → Alike R (take n xs) (take n ys)
  alike_take zero h = none
  alike_take (suc n) none = none
  alike_take (suc n) (more r h) = more r (alike_take n h)

  pub alike_drop : (n : ℕ) {xs : List A} {ys : List B} → Alike R xs ys → Alike R (drop n xs) (drop n ys)
  alike_drop zero h = h
  alike_drop (suc n) none = none
  alike_drop (suc n) (more r h) = alike_drop n h

  pub alike_set : (i : ℕ) (a : A) (b : B) {xs : List A} {ys : List B} → R a b → Alike R xs ys → Alike R (set xs i a) (set ys i b)
  alike_set i a b r none = none
  alike_set zero a b r (more q h) = more r h
  alike_set (suc i) a b r (more q h) = more q (alike_set i a b r h)

  pub alike_set_left : (i : ℕ) (a : A) (b : B) {xs : List A} {ys : List B} → R a (get_or ys i b) → Alike R xs ys → Alike R (set xs i a) ys
  alike_set_left i a b r none = none
  alike_set_left zero a b r (more q h) = more r h
  alike_set_left (suc i) a b r (more q h) = more q (alike_set_left i a b r h)

  pub alike_at : (i : ℕ) (a : A) (b : B) {xs : List A} {ys : List B} → i < length xs → Alike R xs ys → R (get_or xs i a) (get_or ys i b)
  alike_at i a b l none = absurd (omega arith)
  alike_at zero a b l (more r h) = r
  alike_at (suc i) a b l (more r h) = alike_at i a b (omega arith) h

  incoming_alike : (c : Source) {xs us : List A} {ys vs : List B} → Alike R xs ys → Alike R us vs → Alike R (incoming c xs us) (incoming c ys vs)
  incoming_alike no_entries h k = none
  incoming_alike new_entries h k = k
  incoming_alike (copied x y) h k = alike_take (y - x) (alike_drop x h)

  -- a splice keeps whatever holds entry by entry
  pub apply_alike : (c : Splice) {xs us : List A} {ys vs : List B} → Alike R xs ys → Alike R us vs → Alike R (apply c xs us) (apply c ys vs)
  unfolding apply
  apply_alike c h k = alike_append (alike_take c.from h) (alike_append (incoming_alike c.source h k) (alike_drop (c.from + c.gone) h))

  pub alike_map : {Q : A → B → Type 0} → ((x : A) (y : B) → R x y → Q x y) → {xs : List A} {ys : List B} → Alike R xs ys → Alike Q xs ys
  alike_map f none = none
  alike_map f (more r h) = more (f _ _ r) (alike_map f h)

incoming_natural : {A B : Type 0} (f : A → B) (c : Source) (D P : List A) → incoming c (map f D) (map f P) ≡ map f (incoming c D P)
incoming_natural f no_entries D P = refl
incoming_natural f new_entries D P = refl
incoming_natural f (copied x y) D P = ap (take (y - x)) (drop-map f x D) ∙ take-map f (y - x) (drop x D)

-- as an equation: it is natural
pub apply_natural : {A B : Type 0} (f : A → B) (c : Splice) (D P : List A) → apply c (map f D) (map f P) ≡ map f (apply c D P)
unfolding apply
apply_natural f c D P =
    let q = incoming_natural f c.source D P in
    simp (take-map, drop-map, map-append, q)

-- how long it is
any_alike : {A B : Type 0} (xs : List A) (ys : List B) → length xs ≡ length ys → Alike (λ x y. ◌≡◌ {A = ℕ} 0 0) xs ys
any_alike [] [] e = none
any_alike (x ∷ xs) (y ∷ ys) e = more refl (any_alike xs ys (omega arith))
any_alike [] (y ∷ ys) e = absurd (omega arith)
any_alike (x ∷ xs) [] e = absurd (omega arith)

pub length-apply : {A B : Type 0} (c : Splice) (D : List A) (E : List B) (P : List A) (Q : List B) → length D ≡ length E → length P ≡ length Q → length (apply c D P) ≡ length (apply c E Q)
length-apply c D E P Q d p = alike_length (apply_alike c (any_alike D E d) (any_alike P Q p))
