-- Addresses and ranges, resolved from numbers alone, are what the plain house finds. Assumes nothing.
use Rattle.std.proofs.Common.{◌≡◌, ℕ, zero, suc, ◌+◌, ◌-◌, ◌≤◌, Bool, true, false, ◌&&◌, eqb, leb, List, refl, ap, ◌∙◌, arith}
use Rattle.std.proofs.lemmas.Bool.{and_parts, leb-true, eqb-false}
use Rattle.plain.specs.Pattern.{pick}
use Rattle.plain.specs.Command.{Address, Range, Deed, append, insert, change, delete, join, move, copy, mark, print, number, where_is, swap, go_to, undo, redo, save, edit, load, files, bad, Simple}
use Rattle.plain.specs.House.{Stand, Found, found, lost, how_many, base_of, with_offset, resolve, Both, both_of, both_lost, then_found, at_line, range_at, takes, default_from, default_to, where_of, plain_address, plain_range}
use Rattle.commands.specs.Resolve.{Checked, good, refused, then, check, Bounds, bounds, base_plain, counted, resolve_plain, in_order, resolve_range, default_bounds, command_bounds}

abbrev pub found_of : List ℕ → Checked ℕ → Found
found_of last (good n) = found n last
found_of last (refused k) = lost k

abbrev pub both_from : List ℕ → Checked Bounds → Both
both_from last (good b) = both_of b.first b.last last
both_from last (refused k) = both_lost k

-- no refusal has the number 0
abbrev pub Worded : {A : Type 0} → Checked A → Type 0
Worded (good a) = zero ≡ zero
Worded (refused k) = eqb k 0 ≡ false

pub check_worded : {A : Type 0} (t : Bool) (k : ℕ) (c : Checked A) → eqb k 0 ≡ false → Worded c → Worded (check t k c)
check_worded true k c e h = h
check_worded false k c e h = e

pub then_worded : {A B : Type 0} (c : Checked A) (f : A → Checked B) → Worded c → ((a : A) → Worded (f a)) → Worded (then c f)
then_worded (good a) f h g = g a
then_worded (refused k) f h g = h

pub pick_both : {A : Type 0} (P : A → Type 0) (t : Bool) (x y : A) → P x → P y → P (pick t x y)
pick_both P true x y p q = p
pick_both P false x y p q = q

-- ONE ADDRESS
pub base_same : (s : Stand) (last : List ℕ) (a : Address) → plain_address a ≡ true → base_of s last a ≡ found_of last (base_plain (how_many s) s.at a)
base_same s last a h = go (eqb a.kind 0) refl (eqb a.kind 1) refl (eqb a.kind 2) refl
  where
    go : (x : Bool) → eqb a.kind 0 ≡ x → (y : Bool) → eqb a.kind 1 ≡ y → (z : Bool) → eqb a.kind 2 ≡ z → base_of s last a ≡ found_of last (base_plain (how_many s) s.at a)
    go true e y f z g = rw e
    go false e true f z g = rw (e, f)
    go false e false f true g = rw (e, f, g)
    go false e false f false g = absurd (omega (arith, leb-true a.kind 2 h, eqb-false a.kind 0 e, eqb-false a.kind 1 f, eqb-false a.kind 2 g))

pub base_worded : (count at : ℕ) (a : Address) → Worded (base_plain count at a)
base_worded count at a =
    pick_both Worded (eqb a.kind 0) _ _ refl (pick_both Worded (eqb a.kind 1) _ _ refl (pick_both Worded (eqb a.kind 2) _ _ refl refl))

pub offset_same : (s : Stand) (last : List ℕ) (a : Address) (c : Checked ℕ) → Worded c → with_offset s a (found_of last c) ≡ found_of last (then c (counted (how_many s) a))
offset_same s last a (good n) h = go (leb a.back (n + a.on) && leb (n + a.on - a.back) (how_many s))
  where
    go : (t : Bool) → pick t (found (n + a.on - a.back) last) (lost 4) ≡ found_of last (check t 4 (good (n + a.on - a.back)))
    go true = refl
    go false = refl
offset_same s last a (refused k) h = rw h

pub resolve_same : (s : Stand) (last : List ℕ) (a : Address) → plain_address a ≡ true → resolve s last a ≡ found_of last (resolve_plain (how_many s) s.at a)
unfolding resolve_plain
resolve_same s last a h =
    ap (with_offset s a) (base_same s last a h) ∙ offset_same s last a (base_plain (how_many s) s.at a) (base_worded (how_many s) s.at a)

pub resolve_worded : (count at : ℕ) (a : Address) → Worded (resolve_plain count at a)
unfolding resolve_plain
resolve_worded count at a =
    then_worded (base_plain count at a) (counted count a) (base_worded count at a) (λ n. check_worded (leb a.back (n + a.on) && leb (n + a.on - a.back) count) 4 _ refl refl)

-- what is resolved is there
pub resolve-there : (count at n : ℕ) (a : Address) → resolve_plain count at a ≡ good n → n ≤ count
unfolding resolve_plain
resolve-there count at n a e = go (base_plain count at a) e
  where
    inner : (t : Bool) (m : ℕ) → (t ≡ true → m ≤ count) → check t 4 (good m) ≡ good n → n ≤ count
    inner true m h e = let q : m ≡ n = cc in omega (arith, h refl)
    inner false m h e = let z : ◌≡◌ {A = ℕ} 0 1 = cc in absurd (omega arith)

    go : (c : Checked ℕ) → then c (counted count a) ≡ good n → n ≤ count
    go (good m) e = inner (leb a.back (m + a.on) && leb (m + a.on - a.back) count) (m + a.on - a.back) (λ t. leb-true _ _ (and_parts (leb a.back (m + a.on)) (leb (m + a.on - a.back) count) t).1) e
    go (refused k) e = let z : ◌≡◌ {A = ℕ} 0 1 = cc in absurd (omega arith)

-- A RANGE
pub order_same : (last : List ℕ) (n m : ℕ) → pick (leb n m) (both_of n m last) (both_lost 4) ≡ both_from last (in_order n m)
order_same last n m = go (leb n m)
  where
    go : (t : Bool) → pick t (both_of n m last) (both_lost 4) ≡ both_from last (check t 4 (good (bounds n m)))
    go true = refl
    go false = refl

pub then_same : (last : List ℕ) (c : Checked ℕ) (f : ℕ → List ℕ → Both) (g : ℕ → Checked Bounds) → Worded c → ((n : ℕ) → f n last ≡ both_from last (g n)) →
    then_found (found_of last c) f ≡ both_from last (then c g)
then_same last (good n) f g h e = e n
then_same last (refused k) f g h e = rw h

pub then-resolve : (s : Stand) (last : List ℕ) (a : Address) (f : ℕ → List ℕ → Both) (g : ℕ → Checked Bounds) → plain_address a ≡ true → ((n : ℕ) → f n last ≡ both_from last (g n)) →
    then_found (resolve s last a) f ≡ both_from last (then (resolve_plain (how_many s) s.at a) g)
then-resolve s last a f g h e =
    ap (λ t. then_found t f) (resolve_same s last a h) ∙ then_same last (resolve_plain (how_many s) s.at a) f g (resolve_worded (how_many s) s.at a) e

abbrev ordered : ℕ → ℕ → List ℕ → Both
ordered n m q = pick (leb n m) (both_of n m q) (both_lost 4)

abbrev second : Stand → Address → ℕ → List ℕ → Both
second s a n p = then_found (resolve s p a) (λ m q. ordered n m q)

pub second_same : (s : Stand) (last : List ℕ) (a : Address) (n : ℕ) → plain_address a ≡ true →
    second s a n last ≡ both_from last (then (resolve_plain (how_many s) s.at a) (λ m. in_order n m))
second_same s last a n h = then-resolve s last a (λ m q. ordered n m q) (λ m. in_order n m) h (λ m. order_same last n m)

pub range_same : (s : Stand) (last : List ℕ) (r : Range) (b : Bounds) → plain_range r ≡ true →
    range_at s last r b.first b.last ≡ both_from last (resolve_range (how_many s) s.at r b)
unfolding resolve_range
range_same s last r b h =
    let p = and_parts (plain_address r.first) (plain_address r.second) h in
    let e₁ = then-resolve s last r.first (λ n q. both_of n n q) (λ n. good (bounds n n)) p.0 (λ n. refl) in
    let e₂ = then-resolve s last r.first (λ n q. second s r.second n q) (λ n. then (resolve_plain (how_many s) s.at r.second) (λ m. in_order n m)) p.0
    (λ n. second_same s last r.second n p.1) in
    let e₃ = then-resolve s last r.first (λ n q. second (at_line s n) r.second n q) (λ n. then (resolve_plain (how_many s) n r.second) (λ m. in_order n m)) p.0
    (λ n. second_same (at_line s n) last r.second n p.1) in
    four (eqb r.kind 0) (eqb r.kind 1) (eqb r.kind 2) (eqb r.kind 3) _ _ _ _ _ _ _ _ _ _ refl e₁ e₂ e₃ refl
  where
    four : (x y z u : Bool) (a₀ a₁ a₂ a₃ a₄ : Both) (b₀ b₁ b₂ b₃ b₄ : Checked Bounds) →
        a₀ ≡ both_from last b₀ → a₁ ≡ both_from last b₁ → a₂ ≡ both_from last b₂ → a₃ ≡ both_from last b₃ → a₄ ≡ both_from last b₄ →
        pick x a₀ (pick y a₁ (pick z a₂ (pick u a₃ a₄))) ≡ both_from last (pick x b₀ (pick y b₁ (pick z b₂ (pick u b₃ b₄))))
    four true y z u a₀ a₁ a₂ a₃ a₄ b₀ b₁ b₂ b₃ b₄ e₀ e₁ e₂ e₃ e₄ = e₀
    four false true z u a₀ a₁ a₂ a₃ a₄ b₀ b₁ b₂ b₃ b₄ e₀ e₁ e₂ e₃ e₄ = e₁
    four false false true u a₀ a₁ a₂ a₃ a₄ b₀ b₁ b₂ b₃ b₄ e₀ e₁ e₂ e₃ e₄ = e₂
    four false false false true a₀ a₁ a₂ a₃ a₄ b₀ b₁ b₂ b₃ b₄ e₀ e₁ e₂ e₃ e₄ = e₃
    four false false false false a₀ a₁ a₂ a₃ a₄ b₀ b₁ b₂ b₃ b₄ e₀ e₁ e₂ e₃ e₄ = e₄

pub range_worded : (count at : ℕ) (r : Range) (b : Bounds) → Worded (resolve_range count at r b)
unfolding resolve_range
range_worded count at r b =
    let one = resolve_worded count at r.first in
    let two : (n m : ℕ) → Worded (then (resolve_plain count m r.second) (λ i. in_order n i)) =
    λ n m. then_worded (resolve_plain count m r.second) _ (resolve_worded count m r.second) (λ i. check_worded (leb n i) 4 _ refl refl) in
    pick_both Worded (eqb r.kind 0) _ _ refl
    (pick_both Worded (eqb r.kind 1) _ _ (then_worded (resolve_plain count at r.first) _ one (λ n. refl))
    (pick_both Worded (eqb r.kind 2) _ _ (then_worded (resolve_plain count at r.first) _ one (λ n. two n at))
    (pick_both Worded (eqb r.kind 3) _ _ (then_worded (resolve_plain count at r.first) _ one (λ n. two n n)) refl)))

pub defaults_same : (s : Stand) (d : Deed) → bounds (default_from s (takes d)) (default_to s (takes d)) ≡ default_bounds (how_many s) s.at d
unfolding takes default_bounds
defaults_same s (append ls) = ap (bounds s.at) (omega arith)
defaults_same s (insert ls) = ap (bounds s.at) (omega arith)
defaults_same s (change ls) = ap (bounds s.at) (omega arith)
defaults_same s delete = ap (bounds s.at) (omega arith)
defaults_same s join = refl
defaults_same s (move a) = ap (bounds s.at) (omega arith)
defaults_same s (copy a) = ap (bounds s.at) (omega arith)
defaults_same s (mark c) = ap (bounds s.at) (omega arith)
defaults_same s print = ap (bounds s.at) (omega arith)
defaults_same s number = ap (bounds s.at) (omega arith)
defaults_same s where_is = refl
defaults_same s (swap p r k) = ap (bounds s.at) (omega arith)
defaults_same s go_to = refl
defaults_same s undo = ap (bounds s.at) (omega arith)
defaults_same s redo = ap (bounds s.at) (omega arith)
defaults_same s (save n) = refl
defaults_same s (edit n) = ap (bounds s.at) (omega arith)
defaults_same s (load n) = refl
defaults_same s files = ap (bounds s.at) (omega arith)
defaults_same s bad = ap (bounds s.at) (omega arith)

pub where_same : (s : Stand) (last : List ℕ) (c : Simple) → plain_range c.range ≡ true → where_of s last c ≡ both_from last (command_bounds (how_many s) s.at c)
where_same s last c h =
    range_same s last c.range (bounds (default_from s (takes c.deed)) (default_to s (takes c.deed))) h
    ∙ ap (λ b. both_from last (resolve_range (how_many s) s.at c.range b)) (defaults_same s c.deed)

pub bounds_worded : (count at : ℕ) (c : Simple) → Worded (command_bounds count at c)
bounds_worded count at c = range_worded count at c.range (default_bounds count at c.deed)

-- the first is at most one more than the last
abbrev pub Ordered : Checked Bounds → Type 0
Ordered (good b) = b.first ≤ suc b.last
Ordered (refused k) = zero ≡ zero

order-ordered : (n m : ℕ) → Ordered (in_order n m)
order-ordered n m = go (leb n m) refl
  where
    go : (t : Bool) → leb n m ≡ t → Ordered (check t 4 (good (bounds n m)))
    go true e = omega (arith, leb-true n m e)
    go false e = refl

then-ordered : (c : Checked ℕ) (f : ℕ → Checked Bounds) → ((n : ℕ) → Ordered (f n)) → Ordered (then c f)
then-ordered (good n) f g = g n
then-ordered (refused k) f g = refl

pub range-ordered : (count at : ℕ) (r : Range) (b : Bounds) → b.first ≤ suc b.last → Ordered (resolve_range count at r b)
unfolding resolve_range
range-ordered count at r b h =
    let two : (n m : ℕ) → Ordered (then (resolve_plain count m r.second) (λ i. in_order n i)) = λ n m. then-ordered (resolve_plain count m r.second) _ (λ i. order-ordered n i) in
    let one : (n : ℕ) → n ≤ suc n = λ n. omega arith in
    let all : 1 ≤ suc count = omega arith in
    pick_both Ordered (eqb r.kind 0) _ _ h
    (pick_both Ordered (eqb r.kind 1) _ _ (then-ordered (resolve_plain count at r.first) _ (λ n. one n))
    (pick_both Ordered (eqb r.kind 2) _ _ (then-ordered (resolve_plain count at r.first) _ (λ n. two n at))
    (pick_both Ordered (eqb r.kind 3) _ _ (then-ordered (resolve_plain count at r.first) _ (λ n. two n n)) all)))

pub default_ordered : (count at : ℕ) (d : Deed) → (default_bounds count at d).first ≤ suc (default_bounds count at d).last
unfolding default_bounds
default_ordered count at (append ls) = omega arith
default_ordered count at (insert ls) = omega arith
default_ordered count at (change ls) = omega arith
default_ordered count at delete = omega arith
default_ordered count at join = omega arith
default_ordered count at (move a) = omega arith
default_ordered count at (copy a) = omega arith
default_ordered count at (mark c) = omega arith
default_ordered count at print = omega arith
default_ordered count at number = omega arith
default_ordered count at where_is = omega arith
default_ordered count at (swap p r k) = omega arith
default_ordered count at go_to = omega arith
default_ordered count at undo = omega arith
default_ordered count at redo = omega arith
default_ordered count at (save n) = omega arith
default_ordered count at (edit n) = omega arith
default_ordered count at (load n) = omega arith
default_ordered count at files = omega arith
default_ordered count at bad = omega arith

pub bounds-ordered : (count at : ℕ) (c : Simple) → Ordered (command_bounds count at c)
bounds-ordered count at c = range-ordered count at c.range (default_bounds count at c.deed) (default_ordered count at c.deed)
