use Rattle.std.proofs.Common.{◌≡◌, ◌+◌, ◌<◌, ◌≤◌, ℕ, Bool, true, false, List, ◌∷◌, length, drop, get_or, refl, sym, rules, ◌∙◌, ap}
use Rattle.std.proofs.lemmas.List.{at_drop_more, drop_all}
use Rattle.plain.specs.Pattern.{any, or}
use Rattle.reader.specs.Front.{begins}
use Rattle.reader.proofs.failure.begins.Goals as goal

or_grouped : (a b c : Bool) → or (or a b) c ≡ or a (or b c)
or_grouped true b c = refl
or_grouped false b c = refl

-- the first of those that are left is one, or it isn't
one_left : {A : Type 0} (p : A → Bool) (b : Bool) (x : A) (xs : List A) (n : ℕ) → b ≡ any p (drop n (x ∷ xs)) → n < length (x ∷ xs) → p (get_or (x ∷ xs) n x) ≡ true → b ≡ true
one_left p b x xs n e h f = e ∙ (at_drop_more (any p) (x ∷ xs) n x h ∙ ap (λ y. or y (any p (drop (n + 1) (x ∷ xs)))) f)

fewer_left : {A : Type 0} (p : A → Bool) (b : Bool) (x : A) (xs : List A) (n : ℕ) → b ≡ any p (drop n (x ∷ xs)) → n < length (x ∷ xs) → p (get_or (x ∷ xs) n x) ≡ false → b ≡ any p (drop (n + 1) (x ∷ xs))
fewer_left p b x xs n e h f = e ∙ (at_drop_more (any p) (x ∷ xs) n x h ∙ ap (λ y. or y (any p (drop (n + 1) (x ∷ xs)))) f)

none_left : {A : Type 0} (p : A → Bool) (b : Bool) (xs : List A) (n : ℕ) → b ≡ any p (drop n xs) → length xs ≤ n → b ≡ false
none_left p b xs n e h = e ∙ ap (any p) (drop_all n xs h)

pub loop-ending-init : goal.loop-ending-init
unfolding begins
loop-ending-init c = simp or_grouped refl

pub returns-then-branch : goal.returns-then-branch
returns-then-branch c = sym (one_left _ _ _ _ _ c.loop-ending.invariant c.loop-ending-test.true (search rules))

pub loop-ending-preserved : goal.loop-ending-preserved
loop-ending-preserved c = fewer_left _ _ _ _ _ c.loop-ending.invariant c.loop-ending-test.true (search rules)

pub returns : goal.returns
returns c = sym (none_left _ _ _ _ c.loop-ending.invariant c.loop-ending-test.false)
