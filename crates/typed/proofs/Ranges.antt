-- A range, part by part. Assumes nothing.
use Rattle.std.proofs.Common.{◌≡◌, ℕ, ◌<◌, ◌≤◌, true, false, List, [], ◌∷◌, length, get_or, sym, refl, subst, arith}
use Rattle.std.proofs.lemmas.Bool.{ne_eqb}
use Rattle.plain.specs.Pattern.{pick, or, got, with_got, next_is, less_one}
use Rattle.typed.specs.Answer.{to_second, from_first}
use Rattle.typed.proofs.Shorter.{Within, either, more, onward, less_within, address-within}
use Rattle.plain.specs.Command.{Address, Range, here, range_of, starts_address, an_address, or_here, a_range}

-- no byte d at the front
abbrev pub NotFirst : ℕ → List ℕ → Type 0
NotFirst d cs = 0 < length cs → get_or cs 0 0 ≡ d → ⊥

pub not_next : (d : ℕ) (cs : List ℕ) → NotFirst d cs → next_is d cs ≡ false
not_next d [] n = refl
not_next d (c ∷ cs) n = ne_eqb c d (n (omega arith))

pub percent : (xs : List ℕ) → a_range (37 ∷ xs) ≡ got (range_of 4 here here) xs
unfolding a_range
percent xs = refl

pub comma : (xs : List ℕ) → a_range (44 ∷ xs) ≡ got (range_of 4 here here) xs
unfolding a_range
comma xs = refl

module _ (cs : List ℕ) (not-all : NotFirst 37 cs) (not-comma : NotFirst 44 cs) where
  pub nowhere : false ≡ starts_address cs → a_range cs ≡ got (range_of 0 here here) cs
  unfolding a_range
  nowhere e = rw (not_next 37 cs not-all, sym e, not_next 44 cs not-comma)

  pub somewhere : true ≡ starts_address cs → a_range cs ≡ with_got (an_address cs) from_first
  unfolding a_range
  somewhere e = rw (not_next 37 cs not-all, sym e)

or_here-within : (cs : List ℕ) → Within (length cs) (or_here cs)
or_here-within cs = either (length cs) (starts_address cs) (an_address cs) (got here cs) (address-within cs) (omega arith)

second-within : (k : ℕ) (a : Address) (cs : List ℕ) → Within (length cs) (to_second k a cs)
second-within k a cs = onward (length cs) (or_here cs) (λ b es. got (range_of k a b) es) (or_here-within cs) (λ b es h. h)

first_within : (a : Address) (ds : List ℕ) → Within (length ds) (from_first a ds)
first_within a ds =
    let k = pick (next_is 44 ds) 2 3 in
    either (length ds) (or (next_is 44 ds) (next_is 59 ds)) (to_second k a (less_one ds)) (got (range_of 1 a here) ds)
    (more (length (less_one ds)) (length ds) (to_second k a (less_one ds)) (less_within ds) (second-within k a (less_one ds)))
    (omega arith)

range-within : (cs : List ℕ) → Within (length cs) (a_range cs)
unfolding a_range
range-within cs =
    let n = length cs in
    either n (next_is 37 cs) (got (range_of 4 here here) (less_one cs)) _ (less_within cs)
    (either n (starts_address cs) (with_got (an_address cs) from_first) _
    (onward n (an_address cs) from_first (address-within cs) (λ a ds h. more (length ds) n (from_first a ds) h (first_within a ds)))
    (either n (next_is 44 cs) (got (range_of 4 here here) (less_one cs)) (got (range_of 0 here here) cs) (less_within cs) (omega arith)))

pub left_range : (r : Range) (cs ds : List ℕ) → got r ds ≡ a_range cs → length ds ≤ length cs
left_range r cs ds e = subst (Within (length cs)) (sym e) (range-within cs)
