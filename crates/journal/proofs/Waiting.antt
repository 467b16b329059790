-- Entries of the directory that still lie on the old tape: how many, and a cursor before which there are none. Assumes nothing.
use Rattle.std.proofs.Common.{◌≡◌, ℕ, zero, suc, ◌+◌, ◌<◌, ◌≤◌, eqb, List, [], ◌∷◌, ◌++◌, length, get_or, take, drop, set, sym, refl, ap, ◌∙◌, subst, inl, inr, arith, take-append-drop, length-take, get_or-set_other, get_or-take, get_or-set_same, drop-drop}
use lib.ListN.{get_or-append}
use Rattle.std.proofs.lemmas.Bool.{eq-eqb, ne_eqb, cases_eq}
use Rattle.plain.specs.Pattern.{pick}
use Rattle.journal.specs.Log.{Position, position, hole, Splice, incoming, apply, Packed, pieces_of, positions}

unfoldable pub waiting : ℕ → List Position → ℕ
waiting x [] = 0
waiting x (p ∷ ps) = pick (eqb p.tape x) 1 0 + waiting x ps

module _ (x : ℕ) where
  pub waiting_append : (xs ys : List Position) → waiting x (xs ++ ys) ≡ waiting x xs + waiting x ys
  unfolding waiting
  waiting_append [] ys = omega arith
  waiting_append (p ∷ xs) ys = let e = waiting_append xs ys in omega arith

  pub waiting_split : (n : ℕ) (D : List Position) → waiting x (take n D) + waiting x (drop n D) ≡ waiting x D
  waiting_split n D = sym (waiting_append (take n D) (drop n D)) ∙ ap (waiting x) (take-append-drop n D)

  -- a splice brings no more of them than it is given, or copies
  pub waiting_apply : (c : Splice) (D P : List Position) → waiting x (apply c D P) ≤ waiting x D + waiting x (incoming c.source D P)
  unfolding apply
  waiting_apply c D P =
      let e₁ = waiting_append (take c.from D) (incoming c.source D P ++ drop (c.from + c.gone) D) in
      let e₂ = waiting_append (incoming c.source D P) (drop (c.from + c.gone) D) in
      let e₃ = waiting_split c.from D in
      let e₄ = waiting_split c.gone (drop c.from D) in
      let e₅ = ap (waiting x) (drop-drop c.gone c.from D) in
      omega (arith, e₁, e₂, e₃, e₄, e₅)

  pub waiting_positions : (y k : ℕ) (ls : List Packed) → (y ≡ x → ⊥) → waiting x (positions y k ls) ≡ 0
  unfolding waiting positions
  waiting_positions y k [] n = refl
  waiting_positions y k (l ∷ ls) n = rw (ne_eqb y x n) (let e = waiting_positions y (k + length (pieces_of l)) ls n in omega arith)

  -- carrying one over
  pub waiting_set : (y k i : ℕ) (D : List Position) → (y ≡ x → ⊥) → i < length D → (get_or D i hole).tape ≡ x → suc (waiting x (set D i (position y k))) ≡ waiting x D
  unfolding waiting
  waiting_set y k i [] n l e = absurd (omega arith)
  waiting_set y k zero (p ∷ D) n l e = rw (ne_eqb y x n, eq-eqb p.tape x e) (omega arith)
  waiting_set y k (suc i) (p ∷ D) n l e = let q = waiting_set y k i D n (omega arith) e in omega arith

  -- none is left: what `compaction_ends` asks for
  abbrev pub Behind : ℕ → List Position → Type 0
  Behind n D = (i : ℕ) → i < n → (get_or D i hole).tape ≡ x → ⊥

  pub waiting_none : (D : List Position) → waiting x D ≡ 0 → Behind (length D) D
  unfolding waiting
  waiting_none [] e i l q = omega arith
  waiting_none (p ∷ D) e zero l q = let b = eq-eqb p.tape x q in let z : ◌≡◌ {A = ℕ} (pick (eqb p.tape x) 1 0) 1 = rw b refl in omega arith
  waiting_none (p ∷ D) e (suc i) l q = waiting_none D (omega arith) i (omega arith) q

  -- the cursor: it goes on past an entry that doesn't wait, or was carried; and where a splice begins before it, back to there
  pub behind_next : (n : ℕ) (D : List Position) → Behind n D → ((get_or D n hole).tape ≡ x → ⊥) → Behind (suc n) D
  behind_next n D h g i l q = elim (cases_eq i n) [ inl e ↦ g (subst (λ j. (get_or D j hole).tape ≡ x) e q) | inr e ↦ h i (omega arith) q ]

  pub behind_set : (n y k : ℕ) (D : List Position) → (y ≡ x → ⊥) → n < length D → Behind n D → Behind (suc n) (set D n (position y k))
  behind_set n y k D d l h =
      behind_next n (set D n (position y k))
      (λ i j q. h i j (sym (ap (λ p. p.tape) (get_or-set_other D n i (position y k) hole (λ e. omega arith))) ∙ q))
      (λ q. d (sym (ap (λ p. p.tape) (get_or-set_same D n (position y k) hole l)) ∙ q))

  pub behind_apply : (n : ℕ) (c : Splice) (D P : List Position) → n ≤ c.from → n ≤ length D → Behind n D → Behind n (apply c D P)
  unfolding apply
  behind_apply n c D P a b h i l q =
      let m : i < length (take c.from D) = simp length-take (omega arith) in
      let e = get_or-append (take c.from D) (incoming c.source D P ++ drop (c.from + c.gone) D) hole i m in
      let g = get_or-take c.from D i hole (omega arith) in
      h i l (sym (ap (λ p. p.tape) (e ∙ g)) ∙ q)
