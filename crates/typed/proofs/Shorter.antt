-- What is left is never longer than what was there. Assumes nothing.
use Rattle.std.proofs.Common.{◌≡◌, ℕ, zero, suc, ◌+◌, ◌≤◌, Bool, true, false, eqb, ltb, List, [], ◌∷◌, ◌++◌, length, get_or, sym, subst, arith}
use Rattle.plain.specs.Pattern.{pick, or, Got, none, got, with_got, none_of, between, less_one}
use Rattle.plain.specs.Command.{Address, address, digit, after_digits, digits_long, amount, up_to, base, offsets, an_address}
use Rattle.typed.proofs.Steps.{after_shorter}

abbrev pub Within : {A : Type 0} → ℕ → Got ℕ A → Type 0
Within n none = Unit {0}
Within n (got a ds) = length ds ≤ n

pub either : {A : Type 0} (n : ℕ) (b : Bool) (x y : Got ℕ A) → Within n x → Within n y → Within n (pick b x y)
either n true x y h k = h
either n false x y h k = k

pub more : {A : Type 0} (n m : ℕ) (g : Got ℕ A) → n ≤ m → Within n g → Within m g
more n m none h w = tt
more n m (got a ds) h w = omega arith

pub onward : {A B : Type 0} (n : ℕ) (g : Got ℕ A) (f : A → List ℕ → Got ℕ B) → Within n g → ((a : A) (ds : List ℕ) → length ds ≤ n → Within n (f a ds)) → Within n (with_got g f)
onward n none f w h = tt
onward n (got a ds) f w h = h a ds w

pub up-to-within : (d : ℕ) (bs cs : List ℕ) → Within (length cs) (up_to d bs cs)
unfolding up_to
up-to-within d bs [] = tt
up-to-within d bs (c ∷ []) = either 1 (eqb c d) (got bs []) none (omega arith) tt
up-to-within d bs (c ∷ e ∷ cs) =
    let n = suc (suc (length cs)) in
    either n (eqb c d) (got bs (e ∷ cs)) (pick (eqb c 92) (up_to d (bs ++ c ∷ e ∷ []) cs) (up_to d (bs ++ c ∷ []) (e ∷ cs))) (omega arith)
    (either n (eqb c 92) (up_to d (bs ++ c ∷ e ∷ []) cs) (up_to d (bs ++ c ∷ []) (e ∷ cs))
    (more (length cs) n (up_to d (bs ++ c ∷ e ∷ []) cs) (omega arith) (up-to-within d (bs ++ c ∷ e ∷ []) cs))
    (more (suc (length cs)) n (up_to d (bs ++ c ∷ []) (e ∷ cs)) (omega arith) (up-to-within d (bs ++ c ∷ []) (e ∷ cs))))

pub less_within : (cs : List ℕ) → length (less_one cs) ≤ length cs
less_within [] = omega arith
less_within (c ∷ cs) = omega arith

pub base-within : (cs : List ℕ) → Within (length cs) (base cs)
unfolding base
base-within [] = tt
base-within (c ∷ cs) =
    let n = suc (length cs) in
    let short = after_shorter cs in
    let less = less_within cs in
    either n (digit c) _ _ (either n (ltb 9 (digits_long (c ∷ cs))) none _ tt (omega arith))
    (either n (eqb c 46) _ _ (omega arith) (either n (eqb c 36) _ _ (omega arith)
    (either n (eqb c 39) _ _ (either n (pick (none_of cs) false (between 97 122 (get_or cs 0 0))) _ none (omega arith) tt)
    (either n (eqb c 47) _ _ (onward n (up_to 47 [] cs) (λ t ds. got (address 4 0 t) ds) (more (length cs) n (up_to 47 [] cs) (omega arith) (up-to-within 47 [] cs)) (λ t ds h. h))
    (either n (eqb c 63) _ _ (onward n (up_to 63 [] cs) (λ t ds. got (address 5 0 t) ds) (more (length cs) n (up_to 63 [] cs) (omega arith) (up-to-within 63 [] cs)) (λ t ds h. h))
    (either n (or (eqb c 43) (eqb c 45)) _ none (omega arith) tt))))))

offsets-within : (n : ℕ) (a : Address) (cs : List ℕ) → Within (length cs) (offsets n a cs)
unfolding offsets
offsets-within zero a cs = tt
offsets-within (suc n) a [] = omega arith
offsets-within (suc n) a (c ∷ cs) =
    let m = suc (length cs) in
    let short = after_shorter cs in
    let on : Address = record { kind = a.kind; number = a.number; text = a.text; on = a.on + amount cs; back = a.back } in
    let back : Address = record { kind = a.kind; number = a.number; text = a.text; on = a.on; back = a.back + amount cs } in
    either m (ltb 9 (digits_long cs)) none _ tt
    (either m (eqb c 43) (offsets n on (after_digits cs)) _ (more (length (after_digits cs)) m (offsets n on (after_digits cs)) (omega arith) (offsets-within n on (after_digits cs)))
    (either m (eqb c 45) (offsets n back (after_digits cs)) (got a (c ∷ cs)) (more (length (after_digits cs)) m (offsets n back (after_digits cs)) (omega arith) (offsets-within n back (after_digits cs))) (omega arith)))

pub address-within : (cs : List ℕ) → Within (length cs) (an_address cs)
address-within cs =
    onward (length cs) (base cs) (λ a ds. offsets (suc (length ds)) a ds) (base-within cs) (λ a ds h. more (length ds) (length cs) (offsets (suc (length ds)) a ds) h (offsets-within (suc (length ds)) a ds))

-- for what a call gave
pub left_base : (a : Address) (cs ds : List ℕ) → got a ds ≡ base cs → length ds ≤ length cs
left_base a cs ds e = subst (Within (length cs)) (sym e) (base-within cs)

pub left_address : (a : Address) (cs ds : List ℕ) → got a ds ≡ an_address cs → length ds ≤ length cs
left_address a cs ds e = subst (Within (length cs)) (sym e) (address-within cs)

pub left_up-to : (d : ℕ) (t cs ds : List ℕ) → got t ds ≡ up_to d [] cs → length ds ≤ length cs
left_up-to d t cs ds e = subst (Within (length cs)) (sym e) (up-to-within d [] cs)
