-- How many records of the lines lie on which tape, and what they weigh. Assumes nothing.
use Rattle.std.proofs.Common.{◌≡◌, ℕ, zero, suc, ◌+◌, ◌*◌, ◌<◌, ◌≤◌, Bool, true, false, eqb, ltb, ◌⊎◌, List, [], ◌∷◌, ◌++◌, length, get_or, set, sym, refl, ◌∙◌, inl, inr, arith}
use Rattle.std.proofs.lemmas.Bool.{eq-eqb, ne_eqb, ltb-true}
use Rattle.plain.specs.Pattern.{pick, added_up}
use Rattle.plain.specs.House.{File}
use Rattle.plain.proofs.Basics.{added_append}
use Rattle.journal.specs.Log.{Position, hole, Rec, Packed, Alike, none, more, On}
use Rattle.journal.proofs.Compaction.{Either}
use Rattle.journal.proofs.Waiting.{waiting, Behind}
use Rattle.commands.specs.Kept.{Kept, kept_weight, lines_size, file_size, file_lines, directory}
use Rattle.engine.specs.Packing.{records_of, lines_records, records_on}
use Rattle.engine.proofs.Pieces.{records_few, line_of}

-- WEIGHTS: 64 for each record of a line
pub records-weigh : (n : ℕ) → 64 * records_of n ≤ 64 + n
records-weigh n = go (ltb 1006 n) (ltb 503 n) refl refl
  where
    go : (a b : Bool) → ltb 1006 n ≡ a → ltb 503 n ≡ b → 64 * pick a 3 (pick b 2 1) ≤ 64 + n
    go true b e f = omega (arith, ltb-true 1006 n e)
    go false true e f = omega (arith, ltb-true 503 n f)
    go false false e f = omega arith

pub lines-weigh : (ls : List (List ℕ)) → 64 * lines_records ls ≤ lines_size ls
lines-weigh [] = omega arith
lines-weigh (l ∷ ls) = let a = lines-weigh ls in let b = records-weigh (length l) in omega arith

pub lines_records-append : (ls ms : List (List ℕ)) → lines_records (ls ++ ms) ≡ lines_records ls + lines_records ms
lines_records-append ls ms = added_append (λ l. records_of (length l)) ls ms

pub files-weigh : (fs : List File) → 64 * lines_records (file_lines fs) ≤ added_up file_size fs
files-weigh [] = omega arith
files-weigh (f ∷ fs) = let a = files-weigh fs in let b = lines-weigh f.lines in let e = lines_records-append f.lines (file_lines fs) in omega arith

pub directory_weighs : (k : Kept) → 64 * lines_records (directory k) ≤ kept_weight k
directory_weighs k = let a = files-weigh k.files in let b = lines-weigh k.text in let e = lines_records-append (file_lines k.files) k.text in omega arith

pub lines_few : (ls : List (List ℕ)) → length ls ≤ lines_records ls
lines_few [] = omega arith
lines_few (l ∷ ls) = let a = lines_few ls in let b = records_few (length l) in omega arith

-- ONE TAPE's share
module _ (t : ℕ) where
  pub records_on_most : (D : List Position) (ls : List (List ℕ)) → records_on t D ls ≤ lines_records ls
  unfolding records_on
  records_on_most [] ls = omega arith
  records_on_most (p ∷ D) [] = omega arith
  records_on_most (p ∷ D) (l ∷ ls) = let a = records_on_most D ls in go (eqb p.tape t) a
    where
      go : (b : Bool) → records_on t D ls ≤ lines_records ls → pick b (records_of (length l)) 0 + records_on t D ls ≤ records_of (length l) + lines_records ls
      go true h = omega arith
      go false h = omega arith

  -- as long as the lines: each entry that waits has a record, and at most three
  pub records_on_waiting : (D : List Position) (ls : List (List ℕ)) → length D ≡ length ls → (waiting t D ≤ records_on t D ls) × (records_on t D ls ≤ 3 * waiting t D)
  unfolding records_on waiting
  records_on_waiting [] ls e = omega arith
  records_on_waiting (p ∷ D) [] e = absurd (omega arith)
  records_on_waiting (p ∷ D) (l ∷ ls) e = let a = records_on_waiting D ls (omega arith) in let b = records_few (length l) in go (eqb p.tape t) a b
    where
      go : (b : Bool) → (waiting t D ≤ records_on t D ls) × (records_on t D ls ≤ 3 * waiting t D) → (1 ≤ records_of (length l)) × (records_of (length l) ≤ 3) →
          (pick b 1 0 + waiting t D ≤ pick b (records_of (length l)) 0 + records_on t D ls) × (pick b (records_of (length l)) 0 + records_on t D ls ≤ 3 * (pick b 1 0 + waiting t D))
      go true h k = omega arith
      go false h k = omega arith

  pub records_on-append : (D E : List Position) (ls ms : List (List ℕ)) → length D ≡ length ls → records_on t (D ++ E) (ls ++ ms) ≡ records_on t D ls + records_on t E ms
  unfolding records_on
  records_on-append [] E [] ms e = omega arith
  records_on-append [] E (l ∷ ls) ms e = absurd (omega arith)
  records_on-append (p ∷ D) E [] ms e = absurd (omega arith)
  records_on-append (p ∷ D) E (l ∷ ls) ms e = let a = records_on-append D E ls ms (omega arith) in omega arith

  -- an entry that goes to another tape, or comes from one
  pub records_on-gone : (D : List Position) (ls : List (List ℕ)) (i : ℕ) (p : Position) → i < length D → length D ≡ length ls → (get_or D i hole).tape ≡ t → (p.tape ≡ t → ⊥) →
      records_on t (set D i p) ls + records_of (length (line_of ls i)) ≡ records_on t D ls
  unfolding records_on
  records_on-gone [] ls i p h e a b = absurd (omega arith)
  records_on-gone (q ∷ D) [] i p h e a b = absurd (omega arith)
  records_on-gone (q ∷ D) (l ∷ ls) zero p h e a b = rw (eq-eqb q.tape t a, ne_eqb p.tape t b) (omega arith)
  records_on-gone (q ∷ D) (l ∷ ls) (suc i) p h e a b = let r = records_on-gone D ls i p (omega arith) (omega arith) a b in omega arith

  pub records_on-came : (D : List Position) (ls : List (List ℕ)) (i : ℕ) (p : Position) → i < length D → length D ≡ length ls → ((get_or D i hole).tape ≡ t → ⊥) → p.tape ≡ t →
      records_on t (set D i p) ls ≡ records_on t D ls + records_of (length (line_of ls i))
  unfolding records_on
  records_on-came [] ls i p h e a b = absurd (omega arith)
  records_on-came (q ∷ D) [] i p h e a b = absurd (omega arith)
  records_on-came (q ∷ D) (l ∷ ls) zero p h e a b = rw (ne_eqb q.tape t a, eq-eqb p.tape t b) (omega arith)
  records_on-came (q ∷ D) (l ∷ ls) (suc i) p h e a b = let r = records_on-came D ls i p (omega arith) (omega arith) a b in omega arith

  -- none of them there
  pub records_on_none : (D : List Position) (ls : List (List ℕ)) → Behind t (length D) D → records_on t D ls ≡ 0
  unfolding records_on
  records_on_none [] ls h = refl
  records_on_none (p ∷ D) [] h = refl
  records_on_none (p ∷ D) (l ∷ ls) h =
      rw (ne_eqb p.tape t (λ e. h 0 (omega arith) e)) (let r = records_on_none D ls (λ i l. h (suc i) (omega arith)) in omega arith)

  pub waiting_most : (D : List Position) → waiting t D ≤ length D
  unfolding waiting
  waiting_most [] = omega arith
  waiting_most (p ∷ D) = let a = waiting_most D in go (eqb p.tape t) a
    where
      go : (b : Bool) → waiting t D ≤ length D → pick b 1 0 + waiting t D ≤ suc (length D)
      go true h = omega arith
      go false h = omega arith

-- BOTH TAPES
-- each entry lies on one of two tapes
pub data Lies (x y : ℕ) : List Position → Type 0 where
  nowhere : Lies x y []
  somewhere : {p : Position} {ps : List Position} → (p.tape ≡ x) ⊎ (p.tape ≡ y) → Lies x y ps → Lies x y (p ∷ ps)

pub either_lies : {K : Type 0} {x y : ℕ} {X Y : List (Rec K)} {D : List Position} {ls : List Packed} → Alike (Either x X y Y) D ls → Lies x y D
either_lies none = nowhere
either_lies (more (inl h) k) = somewhere (inl h.on) (either_lies k)
either_lies (more (inr h) k) = somewhere (inr h.on) (either_lies k)

pub on_lies : {K : Type 0} {t : ℕ} {T : List (Rec K)} {D : List Position} {ls : List Packed} → Alike (On T t) D ls → Lies t t D
on_lies none = nowhere
on_lies (more h k) = somewhere (inl h.on) (on_lies k)

pub records-both : {x y : ℕ} {D : List Position} → (y ≡ x → ⊥) → Lies x y D → (ls : List (List ℕ)) → length D ≡ length ls → records_on x D ls + records_on y D ls ≡ lines_records ls
unfolding records_on
records-both n nowhere [] e = refl
records-both n nowhere (l ∷ ls) e = absurd (omega arith)
records-both n (somewhere h k) [] e = absurd (omega arith)
records-both {x} {y} n (somewhere {p = p} (inl h) k) (l ∷ ls) e =
    let r = records-both n k ls (omega arith) in
    rw (eq-eqb p.tape x h, ne_eqb p.tape y (λ g. n (sym g ∙ h))) (omega arith)
records-both {x} {y} n (somewhere {p = p} (inr h) k) (l ∷ ls) e =
    let r = records-both n k ls (omega arith) in
    rw (eq-eqb p.tape y h, ne_eqb p.tape x (λ g. n (sym h ∙ g))) (omega arith)

-- all of them on one tape
pub all_wait : {x y : ℕ} {D : List Position} → (y ≡ x → ⊥) → Lies x x D → (waiting x D ≡ length D) × ((ls : List (List ℕ)) → records_on y D ls ≡ 0)
unfolding waiting records_on
all_wait n nowhere = (refl, λ ls. refl)
all_wait {x} {y} n (somewhere {p = p} {ps = ps} h k) =
    let e : p.tape ≡ x = elim h [ inl a ↦ a | inr a ↦ a ] in
    let r = all_wait {y = y} n k in
    (rw (eq-eqb p.tape x e) (let q = r.0 in omega arith), rest e r.1)
  where
    rest : p.tape ≡ x → ((ls : List (List ℕ)) → records_on y ps ls ≡ 0) → (ls : List (List ℕ)) → records_on y (p ∷ ps) ls ≡ 0
    rest e f [] = refl
    rest e f (l ∷ ls) = rw (ne_eqb p.tape y (λ g. n (sym g ∙ e))) (let q = f ls in omega arith)
