-- Moving lines loses none and makes none, and the others keep their order. Assumes nothing.
use Rattle.std.proofs.Common.{◌≡◌, ℕ, suc, ◌+◌, ◌-◌, ◌≤◌, true, false, not, eqb, ltb, List, [], ◌++◌, length, take, drop, sym, ap, ◌∙◌, inl, inr, arith}
use Rattle.std.proofs.lemmas.List.{append-nil, append_assoc, length-append, take-append-drop, take-take, drop-drop}
use Rattle.std.proofs.lemmas.Bool.{ltb-true, cases_Bool}
use Rattle.plain.specs.Pattern.{any, those}
use Rattle.plain.specs.House.{Line, moved_to, lines_from, how_many}
use Rattle.plain.specs.Promise.{distinct, ids, without, MovedSame}
use Rattle.plain.proofs.Basics.{in_left, in_right, has_in, has_not, those_append, those_all, those_none, each_append, Apart, distinct-parts}

-- a list is its front, a part and its rest
pub split_three : {A : Type 0} (a b : ℕ) (xs : List A) → a ≤ b → take a xs ++ (take (b - a) (drop a xs) ++ drop b xs) ≡ xs
split_three a b xs h =
    let e : a + (b - a) ≡ b = omega arith in
    let f : drop (b - a) (drop a xs) ≡ drop b xs = drop-drop (b - a) a xs ∙ ap (λ n. drop n xs) e in
    ap (λ r. take a xs ++ (take (b - a) (drop a xs) ++ r)) (sym f)
    ∙ ap (λ r. take a xs ++ r) (take-append-drop (b - a) (drop a xs))
    ∙ take-append-drop a xs

pub split_drop : {A : Type 0} (b d : ℕ) (xs : List A) → b ≤ d → drop b xs ≡ take (d - b) (drop b xs) ++ drop d xs
split_drop b d xs h =
    let e : b + (d - b) ≡ d = omega arith in
    sym (take-append-drop (d - b) (drop b xs)) ∙ ap (λ r. take (d - b) (drop b xs) ++ r) (drop-drop (d - b) b xs ∙ ap (λ n. drop n xs) e)

pub those_self : (m : List ℕ) → those (λ i. any (eqb i) m) m ≡ m
those_self m = those_all _ m (λ i h. has_in i m h)

pub those_apart : (m xs : List ℕ) → Apart xs m → those (λ i. any (eqb i) m) xs ≡ []
those_apart m xs h = those_none _ xs (λ i k. has_not i m (λ g. h i k g))

pub without_self : (m : List ℕ) → without m m ≡ []
unfolding without
without_self m = those_none _ m (λ i h. ap not (has_in i m h))

pub without-append : (m xs ys : List ℕ) → without m (xs ++ ys) ≡ without m xs ++ without m ys
unfolding without
without-append m xs ys = those_append _ xs ys

module _ (P Q M R L : List Line) (dist : distinct (ids L) ≡ true) where
  ids_4 : (A B C D : List Line) → ids (A ++ (B ++ (C ++ D))) ≡ ids A ++ (ids B ++ (ids C ++ ids D))
  ids_4 A B C D = simp each_append

  pub swap-up : L ≡ P ++ (Q ++ (M ++ R)) →
      (length (P ++ M ++ Q ++ R) ≡ length L) × (without (ids M) (ids (P ++ M ++ Q ++ R)) ≡ without (ids M) (ids L))
      × (those (λ i. any (eqb i) (ids M)) (ids (P ++ M ++ Q ++ R)) ≡ ids M)
  swap-up e =
      let d : distinct (ids P ++ (ids Q ++ (ids M ++ ids R))) ≡ true = rw (ids_4 P Q M R) at (rw e at dist) in
      let d₁ = distinct-parts (ids P) (ids Q ++ (ids M ++ ids R)) d in
      let d₂ = distinct-parts (ids Q) (ids M ++ ids R) d₁.second in
      let d₃ = distinct-parts (ids M) (ids R) d₂.second in
      let p : Apart (ids P) (ids M) = λ i h k. d₁.apart i h (in_right i (ids Q) _ (in_left i (ids M) (ids R) k)) in
      let q : Apart (ids Q) (ids M) = λ i h k. d₂.apart i h (in_left i (ids M) (ids R) k) in
      let r : Apart (ids R) (ids M) = λ i h k. d₃.apart i k h in (
        rw e (simp length-append (omega arith)),
        rw e (simp (each_append, without-append, without_self, append_assoc)),
        simp (each_append, those_append, those_self, those_apart (ids M) (ids P) p, those_apart (ids M) (ids Q) q, those_apart (ids M) (ids R) r, append-nil),
      )

  pub swap_down : L ≡ P ++ (M ++ (Q ++ R)) →
      (length (P ++ Q ++ M ++ R) ≡ length L) × (without (ids M) (ids (P ++ Q ++ M ++ R)) ≡ without (ids M) (ids L))
      × (those (λ i. any (eqb i) (ids M)) (ids (P ++ Q ++ M ++ R)) ≡ ids M)
  swap_down e =
      let d : distinct (ids P ++ (ids M ++ (ids Q ++ ids R))) ≡ true = rw (ids_4 P M Q R) at (rw e at dist) in
      let d₁ = distinct-parts (ids P) (ids M ++ (ids Q ++ ids R)) d in
      let d₂ = distinct-parts (ids M) (ids Q ++ ids R) d₁.second in
      let p : Apart (ids P) (ids M) = λ i h k. d₁.apart i h (in_left i (ids M) _ k) in
      let q : Apart (ids Q) (ids M) = λ i h k. d₂.apart i k (in_left i (ids Q) (ids R) h) in
      let r : Apart (ids R) (ids M) = λ i h k. d₂.apart i k (in_right i (ids Q) (ids R) h) in (
        rw e (simp length-append (omega arith)),
        rw e (simp (each_append, without-append, without_self, append_assoc)),
        simp (each_append, those_append, those_self, those_apart (ids M) (ids P) p, those_apart (ids M) (ids Q) q, those_apart (ids M) (ids R) r, append-nil),
      )

pub moved_same : MovedSame
unfolding MovedSame
moved_same s a b d a1 ab bn dn out dist = elim (cases_Bool (ltb d a)) [ inl e ↦ up e | inr e ↦ down e ]
  where
    ms : suc b - a ≡ b - (a - 1)
    ms = omega arith

    whole : s.lines ≡ take (a - 1) s.lines ++ (lines_from s a b ++ drop b s.lines)
    whole = rw ms (sym (split_three (a - 1) b s.lines (omega arith)))

    up : ltb d a ≡ true →
        (length (moved_to s a b d) ≡ how_many s)
        × (without (ids (lines_from s a b)) (ids (moved_to s a b d)) ≡ without (ids (lines_from s a b)) (ids s.lines))
        × (those (λ i. any (eqb i) (ids (lines_from s a b))) (ids (moved_to s a b d)) ≡ ids (lines_from s a b))
    up e =
        let h : d ≤ a - 1 = omega (arith, ltb-true d a e) in
        let f : take (a - 1) s.lines ≡ take d s.lines ++ drop d (take (a - 1) s.lines) =
        sym (take-append-drop d (take (a - 1) s.lines)) ∙ ap (λ t. t ++ drop d (take (a - 1) s.lines)) (take-take d (a - 1) s.lines h) in
        rw e (swap-up (take d s.lines) (drop d (take (a - 1) s.lines)) (lines_from s a b) (drop b s.lines) s.lines dist
        (whole ∙ ap (λ t. t ++ (lines_from s a b ++ drop b s.lines)) f ∙ append_assoc (take d s.lines) (drop d (take (a - 1) s.lines)) (lines_from s a b ++ drop b s.lines)))

    down : ltb d a ≡ false →
        (length (moved_to s a b d) ≡ how_many s)
        × (without (ids (lines_from s a b)) (ids (moved_to s a b d)) ≡ without (ids (lines_from s a b)) (ids s.lines))
        × (those (λ i. any (eqb i) (ids (lines_from s a b))) (ids (moved_to s a b d)) ≡ ids (lines_from s a b))
    down e =
        let h : b ≤ d = grind arith in
        rw e (swap_down (take (a - 1) s.lines) (take (d - b) (drop b s.lines)) (lines_from s a b) (drop d s.lines) s.lines dist
        (whole ∙ ap (λ t. take (a - 1) s.lines ++ (lines_from s a b ++ t)) (split_drop b d s.lines h)))
