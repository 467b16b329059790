-- A deed, by its letter. Assumes nothing.
use Rattle.std.proofs.Common.{◌≡◌, ℕ, ◌≤◌, ◌&&◌, eqb, leb, List, [], ◌∷◌, length, get_or, refl, ⊎_elim}
use Rattle.std.proofs.lemmas.Bool.{cases_Bool, and_parts, and_from, eq-eqb, eqb-true, ne_eqb, le-leb, leb-true}
use Rattle.plain.specs.Pattern.{none, got, with_got, between}
use Rattle.plain.specs.Command.{append, insert, change, delete, join, move, copy, mark, print, number, where_is, go_to, undo, redo, save, edit, load, files, given, ended, or_here, a_file, deed}
use Rattle.typed.specs.Answer.{a_swap}

pub at-nothing : deed [] ≡ got go_to []
unfolding deed
at-nothing = refl

pub at_97 : (xs : List ℕ) → deed (97 ∷ xs) ≡ with_got (given xs) (λ ls ds. got (append ls) ds)
unfolding deed
at_97 xs = refl

pub at_105 : (xs : List ℕ) → deed (105 ∷ xs) ≡ with_got (given xs) (λ ls ds. got (insert ls) ds)
unfolding deed
at_105 xs = refl

pub at_99 : (xs : List ℕ) → deed (99 ∷ xs) ≡ with_got (given xs) (λ ls ds. got (change ls) ds)
unfolding deed
at_99 xs = refl

pub at_100 : (xs : List ℕ) → deed (100 ∷ xs) ≡ ended delete xs
unfolding deed
at_100 xs = refl

pub at_106 : (xs : List ℕ) → deed (106 ∷ xs) ≡ ended join xs
unfolding deed
at_106 xs = refl

pub at_112 : (xs : List ℕ) → deed (112 ∷ xs) ≡ ended print xs
unfolding deed
at_112 xs = refl

pub at_110 : (xs : List ℕ) → deed (110 ∷ xs) ≡ ended number xs
unfolding deed
at_110 xs = refl

pub at_61 : (xs : List ℕ) → deed (61 ∷ xs) ≡ ended where_is xs
unfolding deed
at_61 xs = refl

pub at_117 : (xs : List ℕ) → deed (117 ∷ xs) ≡ ended undo xs
unfolding deed
at_117 xs = refl

pub at_85 : (xs : List ℕ) → deed (85 ∷ xs) ≡ ended redo xs
unfolding deed
at_85 xs = refl

pub at_102 : (xs : List ℕ) → deed (102 ∷ xs) ≡ ended files xs
unfolding deed
at_102 xs = refl

pub at_109 : (xs : List ℕ) → deed (109 ∷ xs) ≡ with_got (or_here xs) (λ a ds. ended (move a) ds)
unfolding deed
at_109 xs = refl

pub at_116 : (xs : List ℕ) → deed (116 ∷ xs) ≡ with_got (or_here xs) (λ a ds. ended (copy a) ds)
unfolding deed
at_116 xs = refl

pub at_119 : (xs : List ℕ) → deed (119 ∷ xs) ≡ with_got (a_file xs) (λ n ds. got (save n) ds)
unfolding deed
at_119 xs = refl

pub at_101 : (xs : List ℕ) → deed (101 ∷ xs) ≡ with_got (a_file xs) (λ n ds. got (edit n) ds)
unfolding deed
at_101 xs = refl

pub at_114 : (xs : List ℕ) → deed (114 ∷ xs) ≡ with_got (a_file xs) (λ n ds. got (load n) ds)
unfolding deed
at_114 xs = refl

pub at_115 : (xs : List ℕ) → deed (115 ∷ xs) ≡ a_swap xs
unfolding deed
at_115 xs = refl

pub a_mark : (xs : List ℕ) → length xs ≡ 1 → 97 ≤ get_or xs 0 0 → get_or xs 0 0 ≤ 122 → deed (107 ∷ xs) ≡ got (mark (get_or xs 0 0)) []
unfolding deed
a_mark xs one low high =
    rw (and_from (eqb (length xs) 1) (between 97 122 (get_or xs 0 0)) (eq-eqb (length xs) 1 one) (and_from (leb 97 (get_or xs 0 0)) (leb (get_or xs 0 0) 122) (le-leb 97 (get_or xs 0 0) low) (le-leb (get_or xs 0 0) 122 high)))

pub no_mark : (xs : List ℕ) → (length xs ≡ 1 → 97 ≤ get_or xs 0 0 → get_or xs 0 0 ≤ 122 → ⊥) → deed (107 ∷ xs) ≡ none
unfolding deed
no_mark xs never =
    ⊎_elim
    (λ e.
    let p = and_parts (eqb (length xs) 1) (between 97 122 (get_or xs 0 0)) e in
    let q = and_parts (leb 97 (get_or xs 0 0)) (leb (get_or xs 0 0) 122) p.1 in
    absurd (never (eqb-true (length xs) 1 p.0) (leb-true 97 (get_or xs 0 0) q.0) (leb-true (get_or xs 0 0) 122 q.1)))
    (λ e. rw e)
    (cases_Bool (eqb (length xs) 1 && between 97 122 (get_or xs 0 0)))

-- no letter of a deed
pub record Other (x : ℕ) : Type 0 where
  pub not_97 : x ≡ 97 → ⊥
  pub not_105 : x ≡ 105 → ⊥
  pub not_99 : x ≡ 99 → ⊥
  pub not_100 : x ≡ 100 → ⊥
  pub not_106 : x ≡ 106 → ⊥
  pub not_109 : x ≡ 109 → ⊥
  pub not_116 : x ≡ 116 → ⊥
  pub not_107 : x ≡ 107 → ⊥
  pub not_112 : x ≡ 112 → ⊥
  pub not_110 : x ≡ 110 → ⊥
  pub not_61 : x ≡ 61 → ⊥
  pub not_117 : x ≡ 117 → ⊥
  pub not_85 : x ≡ 85 → ⊥
  pub not_119 : x ≡ 119 → ⊥
  pub not_101 : x ≡ 101 → ⊥
  pub not_114 : x ≡ 114 → ⊥
  pub not_102 : x ≡ 102 → ⊥
  pub not_115 : x ≡ 115 → ⊥

pub at_other : (x : ℕ) (xs : List ℕ) → Other x → deed (x ∷ xs) ≡ none
unfolding deed
at_other x xs o = rw (ne_eqb x 97 o.not_97, ne_eqb x 105 o.not_105, ne_eqb x 99 o.not_99, ne_eqb x 100 o.not_100, ne_eqb x 106 o.not_106, ne_eqb x 109 o.not_109, ne_eqb x 116 o.not_116, ne_eqb x 107 o.not_107, ne_eqb x 112 o.not_112, ne_eqb x 110 o.not_110, ne_eqb x 61 o.not_61, ne_eqb x 117 o.not_117, ne_eqb x 85 o.not_85, ne_eqb x 119 o.not_119, ne_eqb x 101 o.not_101, ne_eqb x 114 o.not_114, ne_eqb x 102 o.not_102, ne_eqb x 115 o.not_115)
