-- A splice that brings only new entries, which lie on the other tape: what it makes of the entries still to be carried, of those before the cursor, and of the
-- records there; and that the tapes don't get full by it. Assumes nothing.
use Rattle.std.proofs.Common.{◌≡◌, ℕ, zero, suc, ◌+◌, ◌-◌, ◌*◌, ◌<◌, ◌≤◌, Bool, true, false, eqb, leb, List, [], ◌∷◌, ◌++◌, length, take, drop, sym, refl, ap, ◌∙◌, arith, length-append, length-drop, length-take, get_or-drop, get_or-take, drop-drop}
use lib.ListN.{get_or-append}
use Rattle.std.proofs.lemmas.Bool.{leb-true, leb-false, eq-eqb}
use Rattle.plain.specs.Pattern.{pick}
use Rattle.journal.specs.Log.{Position, hole, Source, no_entries, new_entries, copied, Splice, incoming, apply, pieces_of, positions}
use Rattle.journal.specs.Room.{Rooms, Carrying}
use Rattle.journal.proofs.Waiting.{waiting, waiting_apply, waiting_positions, waiting_none, Behind}
use Rattle.journal.proofs.Room.{carrying-goes-on}
use Rattle.engine.specs.Packing.{records_of, lines_records, packed, packs, records_on}
use Rattle.engine.specs.Machine.{cursor_after, threshold}
use Rattle.engine.proofs.Pieces.{records_few}
use Rattle.engine.proofs.Shares.{records_on-append}
use Rattle.engine.proofs.PutRecords.{positions-count}

-- no copies of entries; and if nothing is to come, nothing was put on
abbrev pub OnlyNew : Source → List (List ℕ) → Type 0
OnlyNew no_entries new = length new ≡ 0
OnlyNew new_entries new = Unit {0}
OnlyNew (copied a b) new = ⊥

no_list : {A : Type 0} (xs : List A) → length xs ≡ 0 → [] ≡ xs
no_list [] e = refl
no_list (x ∷ xs) e = absurd (omega arith)

incoming_new : {A : Type 0} (s : Source) (new : List (List ℕ)) (D P : List A) → OnlyNew s new → length P ≡ length new → incoming s D P ≡ P
incoming_new no_entries new D P h e = no_list P (e ∙ h)
incoming_new new_entries new D P h e = refl
incoming_new (copied a b) new D P h e = absurd h

pub apply_new : {A : Type 0} (c : Splice) (new : List (List ℕ)) (D P : List A) → OnlyNew c.source new → length P ≡ length new →
    apply c D P ≡ take c.from D ++ (P ++ drop (c.from + c.gone) D)
unfolding apply
apply_new c new D P h e = ap (λ z. take c.from D ++ (z ++ drop (c.from + c.gone) D)) (incoming_new c.source new D P h e)

-- THE CURSOR
module _ (x : ℕ) where
  behind_append : (xs ys : List Position) (m : ℕ) → Behind x (length xs) xs → Behind x m ys → Behind x (length xs + m) (xs ++ ys)
  behind_append [] ys m h k i l q = k i (omega arith) q
  behind_append (p ∷ xs) ys m h k zero l q = h 0 (omega arith) q
  behind_append (p ∷ xs) ys m h k (suc i) l q = behind_append xs ys m (λ j b. h (suc j) (omega arith)) k i (omega arith) q

  behind_take : (n k : ℕ) (D : List Position) → Behind x n D → k ≤ n → k ≤ length D → Behind x (length (take k D)) (take k D)
  behind_take n k D h a b i l q =
      let e = length-take k D in
      let m : i < k = omega (arith, e) in
      h i (omega arith) (sym (ap (λ p. p.tape) (get_or-take k D i hole m)) ∙ q)

  behind_drop : (n k : ℕ) (D : List Position) → Behind x n D → Behind x (n - k) (drop k D)
  behind_drop n k D h i l q = h (k + i) (omega arith) (sym (ap (λ p. p.tape) (get_or-drop k D i hole)) ∙ q)

  -- up to it no entry waits, wherever it was
  pub behind_after : (n from gone : ℕ) (D P : List Position) → Behind x n D → n ≤ length D → Behind x (length P) P →
      Behind x (cursor_after n from gone (length P)) (take from D ++ (P ++ drop (from + gone) D))
  behind_after n from gone D P h b p = go (leb n from) (leb n (from + gone)) refl refl
    where
      rest : List Position
      rest = P ++ drop (from + gone) D

      go : (s t : Bool) → leb n from ≡ s → leb n (from + gone) ≡ t → Behind x (pick s n (pick t (from + length P) (n - gone + length P))) (take from D ++ rest)
      go true t e f i l q =
          let m : i < length (take from D) = let z = leb-true n from e in simp length-take (omega arith) in
          let a = get_or-append (take from D) rest hole i m in
          let g = get_or-take from D i hole (let z = length-take from D in omega (arith, z)) in
          h i l (sym (ap (λ p. p.tape) (a ∙ g)) ∙ q)
      go false true e f i l q =
          let z = leb-false n from e in
          let a = length-take from D in
          behind_append (take from D) rest (length P + 0) (behind_take n from D h (omega arith) (omega arith)) (behind_append P (drop (from + gone) D) 0 p (λ j b₁ q₁. omega arith)) i (omega (arith, a)) q
      go false false e f i l q =
          let z = leb-false n (from + gone) f in
          let a = length-take from D in
          behind_append (take from D) rest (length P + (n - (from + gone))) (behind_take n from D h (omega arith) (omega arith))
          (behind_append P (drop (from + gone) D) (n - (from + gone)) p (behind_drop n (from + gone) D h)) i (omega (arith, a)) q

pub cursor-below : (n from gone : ℕ) (D P : List Position) → n ≤ length D → cursor_after n from gone (length P) ≤ length (take from D ++ (P ++ drop (from + gone) D))
cursor-below n from gone D P b = go (leb n from) (leb n (from + gone)) refl refl
  where
    long : length (take from D ++ (P ++ drop (from + gone) D)) ≡ length (take from D) + (length P + length (drop (from + gone) D))
    long = length-append (take from D) (P ++ drop (from + gone) D) ∙ ap (λ m. length (take from D) + m) (length-append P (drop (from + gone) D))

    go : (s t : Bool) → leb n from ≡ s → leb n (from + gone) ≡ t → pick s n (pick t (from + length P) (n - gone + length P)) ≤ length (take from D ++ (P ++ drop (from + gone) D))
    go true t e f = let z = leb-true n from e in let a = length-take from D in let c = long in omega (arith, a, c)
    go false true e f = let z = leb-false n from e in let a = length-take from D in let c = long in omega (arith, a, c)
    go false false e f = let z = leb-false n (from + gone) f in let a = length-take from D in let g = length-drop (from + gone) D in let c = long in omega (arith, a, c, g)

pub positions_behind : (x y k : ℕ) (new : List (List ℕ)) → (y ≡ x → ⊥) → Behind x (length (positions y k (packs new))) (positions y k (packs new))
positions_behind x y k new d = waiting_none x (positions y k (packs new)) (waiting_positions x y k (packs new) d)

-- RECORDS THERE
module _ (y : ℕ) where
  records_none : (D : List Position) → records_on y D [] ≡ 0
  unfolding records_on
  records_none [] = refl
  records_none (p ∷ D) = refl

  records_split : (n : ℕ) (D : List Position) (ls : List (List ℕ)) → records_on y (take n D) (take n ls) + records_on y (drop n D) (drop n ls) ≡ records_on y D ls
  unfolding records_on
  records_split zero D ls = omega arith
  records_split (suc n) [] [] = omega arith
  records_split (suc n) [] (l ∷ ls) = omega arith
  records_split (suc n) (p ∷ D) [] = let e = records_none (drop n D) in omega (arith, e)
  records_split (suc n) (p ∷ D) (l ∷ ls) = let r = records_split n D ls in omega arith

  records_most : (D : List Position) (ls : List (List ℕ)) → records_on y D ls ≤ 3 * length D
  unfolding records_on
  records_most [] ls = omega arith
  records_most (p ∷ D) [] = omega arith
  records_most (p ∷ D) (l ∷ ls) = one (eqb p.tape y) (records_most D ls) (records_few (length l)).1
    where
      one : (b : Bool) → records_on y D ls ≤ 3 * length D → records_of (length l) ≤ 3 → pick b (records_of (length l)) 0 + records_on y D ls ≤ 3 * suc (length D)
      one true r q = omega arith
      one false r q = omega arith

  pub records_new : (k : ℕ) (new : List (List ℕ)) → records_on y (positions y k (packs new)) new ≡ lines_records new
  unfolding records_on positions
  records_new k [] = refl
  records_new k (l ∷ ls) = let r = records_new (k + length (pieces_of (packed l))) ls in rw (eq-eqb y y refl) (omega (arith, r))

  -- what goes out of the directory took at most 3 records a line
  pub records_after : (c : Splice) (k : ℕ) (D : List Position) (ls new : List (List ℕ)) → length D ≡ length ls → OnlyNew c.source new →
      records_on y D ls + lines_records new ≤ records_on y (apply c D (positions y k (packs new))) (apply c ls new) + 3 * c.gone
  records_after c k D ls new e h =
      let from : ℕ = c.from in
      let P : List Position = positions y k (packs new) in
      let p : length P ≡ length new = positions-count y k new in
      let a = ap (λ z. records_on y z (apply c ls new)) (apply_new c new D P h p) ∙ ap (records_on y (take from D ++ (P ++ drop (from + c.gone) D))) (apply_new c new ls new h refl) in
      let t : length (take from D) ≡ length (take from ls) = simp length-take (omega arith) in
      let b = records_on-append y (take from D) (P ++ drop (from + c.gone) D) (take from ls) (new ++ drop (from + c.gone) ls) t in
      let b₁ = records_on-append y P (drop (from + c.gone) D) new (drop (from + c.gone) ls) p in
      let n = records_new k new in
      let s = records_split from D ls in
      let s₁ = records_split c.gone (drop from D) (drop from ls) in
      let q = ap (λ z. records_on y z (drop c.gone (drop from ls))) (drop-drop c.gone from D) ∙ ap (records_on y (drop (from + c.gone) D)) (drop-drop c.gone from ls) in
      let m = records_most (take c.gone (drop from D)) (take c.gone (drop from ls)) in
      let g = length-take c.gone (drop from D) in
      omega (arith, a, b, b₁, n, s, s₁, q, m, g)

pub waiting_after : (x y : ℕ) (c : Splice) (k : ℕ) (D : List Position) (new : List (List ℕ)) → (y ≡ x → ⊥) → OnlyNew c.source new →
    waiting x (apply c D (positions y k (packs new))) ≤ waiting x D
waiting_after x y c k D new d h =
    let P : List Position = positions y k (packs new) in
    let a = waiting_apply x c D P in
    let b = ap (waiting x) (incoming_new c.source new D P h (positions-count y k new)) in
    let e = waiting_positions x y k (packs new) d in
    omega (arith, a, b, e)

-- ROOM
pub lines_most : (ls : List (List ℕ)) → lines_records ls ≤ 3 * length ls
lines_most [] = omega arith
lines_most (l ∷ ls) = let r = lines_most ls in let q = (records_few (length l)).1 in omega arith

pub rooms_here : (R : ℕ) → 1024 ≤ R → Rooms R (threshold R)
rooms_here R h = record { enough = h; below = omega arith; above = omega arith }

-- what keeps the tapes from getting full, after a command of size s. The numbers are those when it has carried its share: n records on the other tape, and J
-- entries waited before that
pub rest_after :
    {R T m n S J : ℕ} (x y s : ℕ) (c : Splice) (D : List Position) (ls new : List (List ℕ)) → Rooms R T → (y ≡ x → ⊥) → length D ≡ length ls → OnlyNew c.source new →
    Carrying R T m n (records_on y D ls) S J → waiting x D + 16 * s ≤ J → lines_records new + 1 ≤ 3 * s → 3 * c.gone + 1 ≤ 3 * s →
    Carrying R T (m + suc (lines_records new)) (n + suc (lines_records new)) (records_on y (apply c D (positions y n (packs new))) (apply c ls new)) (S + s) (waiting x (apply c D (positions y n (packs new))))
rest_after {R} {T} {m} {n} {S} {J} x y s c D ls new r d e h k j p g =
    let D₁ : List Position = apply c D (positions y n (packs new)) in
    let a = records_after y c n D ls new e h in
    let b = waiting_after x y c n D new d h in
    let z = carrying-goes-on s (lines_records new) 0 (3 * c.gone) (records_on y D₁ (apply c ls new)) (waiting x D₁) r k (omega (arith, b)) p g (omega (arith, a)) in
    record { old = let q = z.old in omega arith; new = let q = z.new in omega arith; slow = z.slow }
