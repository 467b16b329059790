-- Text in the cells. Assumes nothing.
use Rattle.std.proofs.Common.{◌≡◌, ℕ, zero, suc, ◌+◌, ◌%◌, ◌<◌, ◌≤◌, Bool, true, false, not, cond, eqb, List, [], ◌∷◌, ◌++◌, map, length, get_or, take, drop, set, sym, refl, ap, ◌∙◌, add-one, arith}
use Rattle.std.proofs.lemmas.List.{length-take, length-take-le, length-drop, length-map, drop-map, drop_all, drop_more, get_or-map}
use Rattle.std.proofs.lemmas.List.Sums.{prefix_len-le-length}
use Rattle.std.specs.List.{prefix_len, take_while}
use Rattle.std.proofs.lemmas.Bool.{eq-eqb, ne_eqb}
use Rattle.plain.specs.Pattern.{pick}
use Rattle.memory.specs.Sections.{low, with_low, cells_in, laid_low, newline}
use Rattle.memory.specs.Abstract.{text_of}
use Rattle.memory.proofs.Splicing.{cells_long}

-- BYTES OVER THE LOW BYTES of cells
pub length-laid : (bs cs : List ℕ) → length (laid_low bs cs) ≡ length cs
unfolding laid_low
length-laid [] cs = refl
length-laid (b ∷ bs) [] = refl
length-laid (b ∷ bs) (c ∷ cs) = ap suc (length-laid bs cs)

pub laid_next : (bs cs : List ℕ) (i : ℕ) → get_or (laid_low (take i bs) cs) i 0 ≡ get_or cs i 0
unfolding laid_low
laid_next bs cs zero = refl
laid_next [] cs (suc i) = refl
laid_next (b ∷ bs) [] (suc i) = refl
laid_next (b ∷ bs) (c ∷ cs) (suc i) = laid_next bs cs i

laid-step : (bs cs : List ℕ) (i : ℕ) → i < length bs → i < length cs → set (laid_low (take i bs) cs) i (with_low (get_or cs i 0) (get_or bs i 0)) ≡ laid_low (take (suc i) bs) cs
unfolding laid_low
laid-step [] cs i h k = absurd (omega arith)
laid-step (b ∷ bs) [] i h k = absurd (omega arith)
laid-step (b ∷ bs) (c ∷ cs) zero h k = refl
laid-step (b ∷ bs) (c ∷ cs) (suc i) h k = ap (λ t. with_low c b ∷ t) (laid-step bs cs i (omega arith) (omega arith))

pub laid_one : (bs cs t : List ℕ) (i : ℕ) → i < length bs → i < length cs → t ≡ laid_low (take i bs) cs
    → set t i (with_low (get_or t i 0) (get_or bs i 0)) ≡ laid_low (take (i + 1) bs) cs
laid_one bs cs t i h k e =
    ap (λ u. set u i (with_low (get_or u i 0) (get_or bs i 0))) e
    ∙ ap (λ v. set (laid_low (take i bs) cs) i (with_low v (get_or bs i 0))) (laid_next bs cs i)
    ∙ laid-step bs cs i h k ∙ ap (λ n. laid_low (take n bs) cs) (sym (add-one i))

pub laid_none : (bs cs : List ℕ) → cs ≡ laid_low (take 0 bs) cs
unfolding laid_low
laid_none bs cs = refl

-- over the front of more cells
pub laid_front : (bs cs : List ℕ) → laid_low bs (take (length bs) cs) ++ drop (length bs) cs ≡ laid_low bs cs
unfolding laid_low
laid_front [] cs = refl
laid_front (b ∷ bs) [] = refl
laid_front (b ∷ bs) (c ∷ cs) = ap (λ t. with_low c b ∷ t) (laid_front bs cs)

-- NEWLINES
pub newline-here : (cs : List ℕ) (i : ℕ) → i < length cs → low (get_or cs i 0) ≡ 10 → newline i (drop i (map low cs)) ≡ i
unfolding newline
newline-here cs i h e =
    let l = length-map cs low in
    ap (newline i) (drop_more (map low cs) i 0 (omega arith))
    ∙ ap (λ b. pick b i (newline (suc i) (drop (i + 1) (map low cs)))) (eq-eqb (get_or (map low cs) i 0) 10 (get_or-map low cs i 0 0 h ∙ e))

pub newline_later : (cs : List ℕ) (i : ℕ) → i < length cs → (low (get_or cs i 0) ≡ 10 → ⊥) → newline i (drop i (map low cs)) ≡ newline (i + 1) (drop (i + 1) (map low cs))
unfolding newline
newline_later cs i h e =
    let l = length-map cs low in
    ap (newline i) (drop_more (map low cs) i 0 (omega arith))
    ∙ ap (λ b. pick b i (newline (suc i) (drop (i + 1) (map low cs)))) (ne_eqb (get_or (map low cs) i 0) 10 (λ q. e (sym (get_or-map low cs i 0 0 h) ∙ q)))
    ∙ ap (λ k. newline k (drop (i + 1) (map low cs))) (sym (add-one i))

pub newline_none : (cs : List ℕ) (i : ℕ) → length cs ≤ i → newline i (drop i (map low cs)) ≡ i
unfolding newline
newline_none cs i h = let l = length-map cs low in ap (newline i) (drop_all i (map low cs) (omega arith))

pub text-long : (n : ℕ) (m : List ℕ) → length m ≡ 262144 → n ≤ 65536 → length (text_of n m) ≡ n
unfolding text_of
text-long n m h g = let l = cells_long m h in length-map (take n (cells_in m)) low ∙ length-take n (cells_in m) ∙ omega arith

pub whole-end : (at n : ℕ) (m : List ℕ) → length m ≡ 262144 → n ≤ 65536 → at ≤ n → n ≡ at + length (drop at (text_of n m))
whole-end at n m h g k = let l = text-long n m h g in simp length-drop (omega arith)

-- by how many bytes are no newline
pub newline_by : (k : ℕ) (cs : List ℕ) → k + prefix_len (λ c. not (eqb (c % 256) 10)) cs ≡ newline k (map low cs)
unfolding newline
newline_by k [] = omega arith
newline_by k (c ∷ cs) = by (newline_by (suc k) cs) (eqb (c % 256) 10)
  where
    by : suc k + prefix_len (λ x. not (eqb (x % 256) 10)) cs ≡ newline (suc k) (map low cs) → (b : Bool) →
        k + cond (not b) (1 + prefix_len (λ x. not (eqb (x % 256) 10)) cs) 0 ≡ pick b k (newline (suc k) (map low cs))
    by h true = omega arith
    by h false = (omega arith) ∙ h

pub newline_from : (from n : ℕ) (cs : List ℕ) → n ≡ length (take_while (λ c. not (eqb (c % 256) 10)) (drop from cs)) → from + n ≡ newline from (drop from (map low cs))
newline_from from n cs e =
    let p = prefix_len (λ c. not (eqb (c % 256) 10)) (drop from cs) in
    let l : n ≡ p = e ∙ length-take-le p (drop from cs) (prefix_len-le-length _ (drop from cs)) in
    ap (λ m. from + m) l ∙ newline_by from (drop from cs) ∙ ap (newline from) (sym (drop-map low from cs))
