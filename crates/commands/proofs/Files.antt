-- Looking a file up in the table: what it tells of the files, of putting one there, and of where its lines are. Assumes nothing.
use Rattle.std.proofs.Common.{◌≡◌, ℕ, suc, ◌+◌, Bool, true, false, not, ◌&&◌, eqb, ◌⊎◌, List, [], ◌∷◌, ◌++◌, length, sym, refl, ap, ◌∙◌, subst, inl, inr, arith}
use Rattle.std.proofs.lemmas.Bool.{and_parts, and_from, not-true, eqb-true, cases_Bool}
use Rattle.plain.specs.Pattern.{or, any, those, same}
use Rattle.plain.specs.House.{File, put_file}
use Rattle.commands.specs.Kept.{lines_size, offset, other_names}
use Rattle.commands.specs.Plan.{table, Slot, slot_of, look_up}
use Rattle.commands.specs.Turn.{with_file_at}

abbrev pub file : List ℕ → List (List ℕ) → File
file n ls = record { name = n; lines = ls }

-- the file is there, behind P and before R
pub record There (n : List ℕ) (fs : List File) (x : Slot) (at from : ℕ) : Type 0 where
  pub P : List File
  pub f : File
  pub R : List File
  pub more : List File
  pub split : fs ≡ P ++ (f ∷ R)
  pub named : same f.name n ≡ true
  pub those_are : those (λ g. same g.name n) fs ≡ f ∷ more
  pub puts : (ls : List (List ℕ)) → put_file n ls fs ≡ P ++ (file n ls ∷ R)
  pub slot : x ≡ slot_of true (at + length P) (from + offset P) (length f.lines) (lines_size f.lines)

-- no such file
pub record Missing (n : List ℕ) (fs : List File) (x : Slot) (at from : ℕ) : Type 0 where
  pub those_are : those (λ g. same g.name n) fs ≡ []
  pub none_such : any (λ g. same g.name n) fs ≡ false
  pub puts : (ls : List (List ℕ)) → put_file n ls fs ≡ fs ++ (file n ls ∷ [])
  pub slot : x ≡ slot_of false (at + length fs) (from + offset fs) 0 0

slot_moves : (t : Bool) (a b c d l s : ℕ) → a ≡ b → c ≡ d → slot_of t a c l s ≡ slot_of t b d l s
slot_moves t a b c d l s e f = λ i. slot_of t (e i) (f i) l s

there-more : (n : List ℕ) (g : File) (fs : List File) (at from : ℕ) → same g.name n ≡ false →
    There n fs (look_up n (suc at) (from + length g.lines) (table fs)) (suc at) (from + length g.lines) →
    There n (g ∷ fs) (look_up n at from (table (g ∷ fs))) at from
unfolding look_up put_file
there-more n g fs at from e t =
    record {
      P = g ∷ t.P;
      f = t.f;
      R = t.R;
      more = t.more;
      split = ap (λ z. g ∷ z) t.split;
      named = t.named;
      those_are = rw e t.those_are;
      puts = λ ls. rw e (ap (λ z. g ∷ z) (t.puts ls));
      slot = rw e (t.slot ∙ slot_moves true _ _ _ _ _ _ (omega arith) (omega arith));
    }

missing_more : (n : List ℕ) (g : File) (fs : List File) (at from : ℕ) → same g.name n ≡ false →
    Missing n fs (look_up n (suc at) (from + length g.lines) (table fs)) (suc at) (from + length g.lines) →
    Missing n (g ∷ fs) (look_up n at from (table (g ∷ fs))) at from
unfolding look_up put_file
missing_more n g fs at from e t =
    record {
      those_are = rw e t.those_are;
      none_such = rw e t.none_such;
      puts = λ ls. rw e (ap (λ z. g ∷ z) (t.puts ls));
      slot = rw e (t.slot ∙ slot_moves false _ _ _ _ _ _ (omega arith) (omega arith));
    }

here-there : (n : List ℕ) (g : File) (fs : List File) (at from : ℕ) → same g.name n ≡ true → There n (g ∷ fs) (look_up n at from (table (g ∷ fs))) at from
unfolding look_up put_file
here-there n g fs at from e =
    record {
      P = [];
      f = g;
      R = fs;
      more = those (λ h. same h.name n) fs;
      split = refl;
      named = e;
      those_are = rw e;
      puts = λ ls. rw e;
      slot = rw e (slot_moves true _ _ _ _ _ _ (omega arith) (omega arith));
    }

pub looked : (n : List ℕ) (fs : List File) (at from : ℕ) → There n fs (look_up n at from (table fs)) at from ⊎ Missing n fs (look_up n at from (table fs)) at from
unfolding look_up put_file
looked n [] at from =
    inr (record { those_are = refl; none_such = refl; puts = λ ls. refl; slot = slot_moves false _ _ _ _ _ _ (omega arith) (omega arith) })
looked n (g ∷ fs) at from =
    elim (cases_Bool (same g.name n)) [
      | inl e ↦ inl (here-there n g fs at from e)
      | inr e ↦
          elim (looked n fs (suc at) (from + length g.lines)) [
            | inl t ↦ inl (there-more n g fs at from e t)
            | inr t ↦ inr (missing_more n g fs at from e t)
          ]
    ]

-- putting a file in its place
pub at_place : (P : List File) (f g : File) (R : List File) → with_file_at (length P) g (P ++ (f ∷ R)) ≡ P ++ (g ∷ R)
at_place [] f g R = refl
at_place (p ∷ P) f g R = ap (λ z. p ∷ z) (at_place P f g R)

pub at_end : (fs : List File) (g : File) → with_file_at (length fs) g fs ≡ fs ++ (g ∷ [])
at_end [] g = refl
at_end (f ∷ fs) g = ap (λ z. f ∷ z) (at_end fs g)

-- names
pub same_true : (xs ys : List ℕ) → same xs ys ≡ true → xs ≡ ys
unfolding same
same_true [] [] e = refl
same_true [] (y ∷ ys) e = let z : ◌≡◌ {A = Bool} true false = cc in absurd (grind arith)
same_true (x ∷ xs) [] e = let z : ◌≡◌ {A = Bool} true false = cc in absurd (grind arith)
same_true (x ∷ xs) (y ∷ ys) e =
    let p = and_parts (eqb x y) (same xs ys) e in
    let a = eqb-true x y p.0 in
    let b = same_true xs ys p.1 in
    λ i. a i ∷ b i

pub any_append : {A : Type 0} (p : A → Bool) (xs ys : List A) → any p (xs ++ ys) ≡ or (any p xs) (any p ys)
any_append p [] ys = refl
any_append p (x ∷ xs) ys = rw (any_append p xs ys) (grind arith)

or_none : (x y : Bool) → or x y ≡ false → (x ≡ false) × (y ≡ false)
or_none true y e = let z : ◌≡◌ {A = Bool} true false = e in absurd (grind arith)
or_none false y e = (refl, e)

none_or : (x y : Bool) → x ≡ false → y ≡ false → or x y ≡ false
none_or x y e f = rw e f

-- another file with the same name in its place
pub names_place : (P : List File) (f g : File) (R : List File) → f.name ≡ g.name → other_names (P ++ (f ∷ R)) ≡ true → other_names (P ++ (g ∷ R)) ≡ true
unfolding other_names
names_place [] f g R e h = subst (λ m. (not (any (λ x. same x.name m) R) && other_names R) ≡ true) e h
names_place (p ∷ P) f g R e h =
    let q = and_parts (not (any (λ x. same x.name p.name) (P ++ (f ∷ R)))) (other_names (P ++ (f ∷ R))) h in
    let t = λ (x : File). same x.name p.name in
    let s : any t (P ++ (f ∷ R)) ≡ any t (P ++ (g ∷ R)) =
    any_append t P (f ∷ R) ∙ ap (λ m. or (any t P) (or (same m p.name) (any t R))) e ∙ sym (any_append t P (g ∷ R)) in
    and_from (not (any t (P ++ (g ∷ R)))) (other_names (P ++ (g ∷ R))) (ap not (sym s) ∙ q.0) (names_place P f g R e q.1)

-- a new file behind the others
pub same_turns : (xs ys : List ℕ) → same xs ys ≡ same ys xs
unfolding same
same_turns [] [] = refl
same_turns [] (y ∷ ys) = refl
same_turns (x ∷ xs) [] = refl
same_turns (x ∷ xs) (y ∷ ys) = rw (same_turns xs ys) (ap (λ t. t && same ys xs) (turns x y))
  where
    turns : (a b : ℕ) → eqb a b ≡ eqb b a
    turns a b = grind arith

pub names_more : (fs : List File) (g : File) → any (λ x. same x.name g.name) fs ≡ false → other_names fs ≡ true → other_names (fs ++ (g ∷ [])) ≡ true
unfolding other_names
names_more [] g e h = refl
names_more (f ∷ fs) g e h =
    let p = or_none (same f.name g.name) (any (λ x. same x.name g.name) fs) e in
    let t = λ (x : File). same x.name f.name in
    let q = and_parts (not (any t fs)) (other_names fs) h in
    let u : any t (fs ++ (g ∷ [])) ≡ false =
    any_append t fs (g ∷ []) ∙ none_or (any t fs) (or (same g.name f.name) false) (not-true (any t fs) q.0) (none_or (same g.name f.name) false (same_turns g.name f.name ∙ p.0) refl) in
    and_from (not (any t (fs ++ (g ∷ [])))) (other_names (fs ++ (g ∷ []))) (ap not u) (names_more fs g p.1 q.1)
