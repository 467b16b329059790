-- A part up to a byte that no backslash escapes. Assumes nothing.
use Rattle.std.proofs.Common.{◌≡◌, ℕ, ◌+◌, ◌<◌, ◌≤◌, true, false, eqb, List, [], ◌∷◌, ◌++◌, length, get_or, take, drop, sym, refl, ap, ◌∙◌, arith, drop-drop, take-add}
use Rattle.std.proofs.lemmas.List.{drop_all, drop_more, take_more}
use Rattle.std.proofs.lemmas.Bool.{eq-eqb, ne_eqb}
use Rattle.plain.specs.Pattern.{none, got}
use Rattle.plain.specs.Command.{up_to}

found : (d c : ℕ) (bs cs : List ℕ) → eqb c d ≡ true → up_to d bs (c ∷ cs) ≡ got bs cs
unfolding up_to
found d c bs [] e = rw e
found d c bs (x ∷ cs) e = rw e

plain : (d c : ℕ) (bs cs : List ℕ) → eqb c d ≡ false → eqb c 92 ≡ false → up_to d bs (c ∷ cs) ≡ up_to d (bs ++ c ∷ []) cs
unfolding up_to
plain d c bs [] e f = rw e
plain d c bs (x ∷ cs) e f = rw (e, f)

escape : (d c : ℕ) (bs cs : List ℕ) → eqb c d ≡ false → eqb c 92 ≡ true → up_to d bs (c ∷ cs) ≡ up_to d (bs ++ take 2 (c ∷ cs)) (drop 1 cs)
unfolding up_to
escape d c bs [] e f = rw e
escape d c bs (x ∷ cs) e f = rw (e, f)

-- the byte at i is the first of what stands from i on
module _ (d i : ℕ) (cs : List ℕ) (within : i < length cs) where
  front : drop i cs ≡ get_or cs i 0 ∷ drop (i + 1) cs
  front = drop_more cs i 0 within

  pub found_at : get_or cs i 0 ≡ d → up_to d (take i cs) (drop i cs) ≡ got (take i cs) (drop (i + 1) cs)
  found_at e = ap (up_to d (take i cs)) front ∙ found d (get_or cs i 0) (take i cs) (drop (i + 1) cs) (eq-eqb (get_or cs i 0) d e)

  pub plain_at : (get_or cs i 0 ≡ d → ⊥) → (get_or cs i 0 ≡ 92 → ⊥) → up_to d (take i cs) (drop i cs) ≡ up_to d (take (i + 1) cs) (drop (i + 1) cs)
  plain_at e f =
      ap (up_to d (take i cs)) front ∙ plain d (get_or cs i 0) (take i cs) (drop (i + 1) cs) (ne_eqb _ d e) (ne_eqb _ 92 f) ∙ ap (λ bs. up_to d bs (drop (i + 1) cs)) (sym (take_more cs i 0 within))

  pub escape_at : (get_or cs i 0 ≡ d → ⊥) → get_or cs i 0 ≡ 92 → up_to d (take i cs) (drop i cs) ≡ up_to d (take (i + 2) cs) (drop (i + 2) cs)
  escape_at e f =
      let both : i + 1 + 1 ≡ i + 2 = omega arith in
      ap (up_to d (take i cs)) front
      ∙ escape d (get_or cs i 0) (take i cs) (drop (i + 1) cs) (ne_eqb _ d e) (eq-eqb _ 92 f)
      ∙ (λ j. up_to d (take i cs ++ take 2 (sym front j)) (drop-drop 1 (i + 1) cs j))
      ∙ (λ j. up_to d (sym (take-add i 2 cs) j) (drop (both j) cs))

at_end : (d : ℕ) (bs : List ℕ) → up_to d bs [] ≡ none
unfolding up_to
at_end d bs = refl

pub never : (d i : ℕ) (cs : List ℕ) → length cs ≤ i → up_to d (take i cs) (drop i cs) ≡ none
never d i cs h = ap (up_to d (take i cs)) (drop_all i cs h) ∙ at_end d (take i cs)
