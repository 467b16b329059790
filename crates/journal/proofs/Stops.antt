-- What a stop leaves of a tape. Assumes nothing.
use Rattle.std.proofs.Common.{◌≡◌, ℕ, zero, suc, Bool, true, false, eqb, ltb, ◌⊎◌, List, [], ◌∷◌, ◌++◌, sym, refl, ap, ◌∙◌, subst, inl, inr, append-nil, arith, le-ltb}
use lib.Seq.{take-nil, drop-nil}
use Rattle.plain.specs.Pattern.{pick}
use Rattle.plain.specs.Device.{Page, tape, lesser, half, left}
use Rattle.plain.proofs.Stops.{surviving, left_split}
use Rattle.journal.specs.Log.{halved}

pick_same : {A : Type 0} (b : Bool) (x : A) → pick b x x ≡ x
pick_same true x = refl
pick_same false x = refl

pub surviving_none : (n h : ℕ) → surviving [] n h ≡ []
unfolding half
surviving_none n h = rw (take-nil (lesser n 0), drop-nil (lesser n 0)) (pick_same (eqb h 1) [])

-- a tape without loose records stays as it is
pub left_fast : (xs : List Page) (n h : ℕ) → left (tape xs 0) n h ≡ tape xs 0
left_fast xs n h =
    ap (λ z. left (tape z 0) n h) (sym (append-nil xs)) ∙ left_split xs [] n h ∙ ap (λ z. tape (xs ++ z) 0) (surviving_none n h) ∙ ap (λ z. tape z 0) (append-nil xs)

-- one loose record: it's gone, or it's there, or its first half is
half_or_none : (p : Page) (b : Bool) → (pick b (halved p ∷ []) [] ≡ []) ⊎ ((pick b (halved p ∷ []) [] ≡ p ∷ []) ⊎ (pick b (halved p ∷ []) [] ≡ halved p ∷ []))
half_or_none p true = inr (inr refl)
half_or_none p false = inl refl

pub surviving_one : (p : Page) (n h : ℕ) → (surviving (p ∷ []) n h ≡ []) ⊎ ((surviving (p ∷ []) n h ≡ p ∷ []) ⊎ (surviving (p ∷ []) n h ≡ halved p ∷ []))
unfolding half
surviving_one p zero h = half_or_none p (eqb h 1)
surviving_one p (suc n) h = let q : ltb (suc n) 1 ≡ false = le-ltb (suc n) 1 (omega arith) in inr (inl (rw q (ap (λ z. p ∷ z) (pick_same (eqb h 1) []))))

pub left_one :
    (xs : List Page) (p : Page) (n h : ℕ) →
    (left (tape (xs ++ p ∷ []) 1) n h ≡ tape xs 0)
    ⊎ ((left (tape (xs ++ p ∷ []) 1) n h ≡ tape (xs ++ p ∷ []) 0) ⊎ (left (tape (xs ++ p ∷ []) 1) n h ≡ tape (xs ++ halved p ∷ []) 0))
left_one xs p n h =
    let P : List Page → Type 0 = λ z. left (tape (xs ++ p ∷ []) 1) n h ≡ tape (xs ++ z) 0 in
    let all : P (surviving (p ∷ []) n h) = left_split xs (p ∷ []) n h in
    elim (surviving_one p n h) [
      | inl e ↦ inl (subst P e all ∙ ap (λ z. tape z 0) (append-nil xs))
      | inr d ↦ inr (elim d [ inl e ↦ inl (subst P e all) | inr e ↦ inr (subst P e all) ])
    ]
