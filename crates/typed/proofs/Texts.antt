-- Laws of `lines_of`: a text's lines, walked from the front by offsets. Assumes nothing.
use Rattle.std.proofs.Common.{◌≡◌, ℕ, zero, suc, ◌+◌, ◌-◌, ◌<◌, ◌≤◌, Bool, true, false, eqb, ltb, List, [], ◌∷◌, ◌++◌, length, get_or, take, drop, sym, refl, ap, ◌∙◌, subst, inl, inr, ⊎_elim, arith}
use Rattle.std.proofs.lemmas.List.{append-nil, append_assoc, length-append, length-drop, drop-drop, drop_all, drop_more, take_more, take_all, get_or-drop}
use Rattle.std.proofs.lemmas.List.Quantifiers.{position-Some}
use Rattle.std.proofs.lemmas.List.Sums.{fails_before_first}
use Rattle.std.specs.List.{position, position_or_len}
use Rattle.std.proofs.Common.{Some, None, cond, ltb-false}
use Rattle.std.proofs.lemmas.Option.{none-some}
use Rattle.std.proofs.lemmas.Bool.{true≢false, cases_Bool, eq-eqb, ne_eqb, eqb-true, and_parts, and_from}
use Rattle.plain.specs.Pattern.{pick, or, every, any, added_up, all_bytes, part}
use Rattle.plain.specs.Command.{lines_of}
use Rattle.plain.proofs.Basics.{In, every_append}

-- one byte after the other; l is what was read of a line so far
pub at_end : (l : List ℕ) → lines_of l [] ≡ l ∷ []
unfolding lines_of
at_end l = refl

pub at-newline : (l cs : List ℕ) → lines_of l (10 ∷ cs) ≡ l ∷ lines_of [] cs
unfolding lines_of
at-newline l cs = refl

pub at_byte : (c : ℕ) (l cs : List ℕ) → (c ≡ 10 → ⊥) → lines_of l (c ∷ cs) ≡ lines_of (l ++ c ∷ []) cs
unfolding lines_of
at_byte c l cs n = rw (ne_eqb c 10 n)

-- no newline in these bytes
abbrev pub Unbroken : List ℕ → Type 0
Unbroken bs = any (eqb 10) bs ≡ false

split_or : (x y : Bool) → or x y ≡ false → (x ≡ false) × (y ≡ false)
split_or true y e = absurd (true≢false e)
split_or false y e = (refl, e)

pub unbroken_parts : (c : ℕ) (bs : List ℕ) → Unbroken (c ∷ bs) → (c ≡ 10 → ⊥) × Unbroken bs
unbroken_parts c bs h =
    let p = split_or (eqb 10 c) (any (eqb 10) bs) h in
    ((λ e. true≢false (sym (eq-eqb 10 c (sym e)) ∙ p.0)), p.1)

-- bytes without a newline go to the line that was begun
pub run_on : (l bs cs : List ℕ) → Unbroken bs → lines_of l (bs ++ cs) ≡ lines_of (l ++ bs) cs
run_on l [] cs h = ap (λ m. lines_of m cs) (sym (append-nil l))
run_on l (c ∷ bs) cs h =
    let p = unbroken_parts c bs h in
    at_byte c l (bs ++ cs) p.0 ∙ run_on (l ++ c ∷ []) bs cs p.1 ∙ ap (λ m. lines_of m cs) (append_assoc l (c ∷ []) bs)

-- a text without a newline is one line
pub one_line : (bs : List ℕ) → Unbroken bs → lines_of [] bs ≡ bs ∷ []
one_line bs h = ap (lines_of []) (sym (append-nil bs)) ∙ run_on [] bs [] h ∙ at_end bs

-- the bytes up to the first newline are the first line, and those behind it are the other lines
pub first_line : (bs cs : List ℕ) → Unbroken bs → lines_of [] (bs ++ 10 ∷ cs) ≡ bs ∷ lines_of [] cs
first_line bs cs h = run_on [] bs (10 ∷ cs) h ∙ at-newline bs cs

-- The line that begins at p, looked at up to i: one byte on, at its newline, and at the end of the text.
pub walk_start : (p : ℕ) (cs : List ℕ) → lines_of (part cs p p) (drop p cs) ≡ lines_of [] (drop p cs)
walk_start p cs = let none : p - p ≡ 0 = omega arith in ap (λ k. lines_of (take k (drop p cs)) (drop p cs)) none

pub part-on : (p i : ℕ) (cs : List ℕ) → p ≤ i → i < length cs → part cs p (i + 1) ≡ part cs p i ++ get_or cs i 0 ∷ []
part-on p i cs behind within =
    let k : i + 1 - p ≡ i - p + 1 = omega arith in
    let n : p + (i - p) ≡ i = omega arith in
    let h : i - p < length (drop p cs) = simp length-drop (omega arith) in
    ap (λ j. take j (drop p cs)) k ∙ take_more (drop p cs) (i - p) 0 h ∙ ap (λ x. part cs p i ++ x ∷ []) (get_or-drop p cs (i - p) 0 ∙ ap (λ j. get_or cs j 0) n)

module _ (p i : ℕ) (cs : List ℕ) where
  pub walk_on : p ≤ i → i < length cs → (get_or cs i 0 ≡ 10 → ⊥) → lines_of (part cs p i) (drop i cs) ≡ lines_of (part cs p (i + 1)) (drop (i + 1) cs)
  walk_on behind within other =
      ap (lines_of (part cs p i)) (drop_more cs i 0 within) ∙ at_byte (get_or cs i 0) (part cs p i) (drop (i + 1) cs) other ∙ ap (λ l. lines_of l (drop (i + 1) cs)) (sym (part-on p i cs behind within))

  pub walk-newline : i < length cs → get_or cs i 0 ≡ 10 → lines_of (part cs p i) (drop i cs) ≡ part cs p i ∷ lines_of [] (drop (i + 1) cs)
  walk-newline within is =
      ap (lines_of (part cs p i)) (drop_more cs i 0 within ∙ ap (λ c. c ∷ drop (i + 1) cs) is) ∙ at-newline (part cs p i) (drop (i + 1) cs)

  pub walk_end : length cs ≤ i → lines_of (part cs p i) (drop i cs) ≡ drop p cs ∷ []
  walk_end past =
      let h : length (drop p cs) ≤ i - p = simp length-drop (omega arith) in
      ap (lines_of (part cs p i)) (drop_all i cs past) ∙ at_end (part cs p i) ∙ ap (λ l. l ∷ []) (take_all (i - p) (drop p cs) h)

-- from p on to n bytes further, if there is no newline on the way
walk-to : (p n : ℕ) (cs : List ℕ) → p + n ≤ length cs → ((k : ℕ) → k < n → get_or cs (p + k) 0 ≡ 10 → ⊥) → lines_of [] (drop p cs) ≡ lines_of (part cs p (p + n)) (drop (p + n) cs)
walk-to p zero cs fits none = let e : p ≡ p + 0 = omega arith in sym (walk_start p cs) ∙ ap (λ i. lines_of (part cs p i) (drop i cs)) e
walk-to p (suc n) cs fits none =
    let e : p + n + 1 ≡ p + suc n = omega arith in
    walk-to p n cs (omega arith) (λ k h. none k (omega arith)) ∙ walk_on p (p + n) cs (omega arith) (omega arith) (none n (omega arith)) ∙ ap (λ i. lines_of (part cs p i) (drop i cs)) e

-- no newline from p up to q
abbrev pub Clear : List ℕ → ℕ → ℕ → Type 0
Clear cs p q = (k : ℕ) → p ≤ k → k < q → get_or cs k 0 ≡ 10 → ⊥

clear_to : (p q : ℕ) (cs : List ℕ) → p ≤ q → q ≤ length cs → Clear cs p q → lines_of [] (drop p cs) ≡ lines_of (part cs p q) (drop q cs)
clear_to p q cs behind fits none =
    let e : p + (q - p) ≡ q = omega arith in
    walk-to p (q - p) cs (omega arith) (λ k h. none (p + k) (omega arith) (omega arith)) ∙ ap (λ i. lines_of (part cs p i) (drop i cs)) e

-- the line from p to the newline at q, and the lines from q + 1 on
pub next_line : (p q : ℕ) (cs : List ℕ) → p ≤ q → q < length cs → Clear cs p q → get_or cs q 0 ≡ 10 → lines_of [] (drop p cs) ≡ part cs p q ∷ lines_of [] (drop (q + 1) cs)
next_line p q cs behind within none is = clear_to p q cs behind (omega arith) none ∙ walk-newline p q cs within is

-- the last line
pub last_line : (p : ℕ) (cs : List ℕ) → p ≤ length cs → Clear cs p (length cs) → lines_of [] (drop p cs) ≡ drop p cs ∷ []
last_line p cs within none = clear_to p (length cs) cs within (omega arith) none ∙ walk_end p (length cs) cs (omega arith)

-- the same by the place of the first newline
pub split_at : (cs : List ℕ) (i : ℕ) → position (λ b. eqb b 10) cs ≡ Some i → take i cs ∷ lines_of [] (drop (i + 1) cs) ≡ lines_of [] cs
split_at cs i e =
    let p = position-Some (λ b. eqb b 10) cs i 0 e in
    let n : i - 0 ≡ i = omega arith in
    sym
    (next_line 0 i cs (omega arith) p.0 (λ k a b h. true≢false (sym (eq-eqb (get_or cs k 0) 10 h) ∙ p.2 k b)) (eqb-true (get_or cs i 0) 10 p.1)
    ∙ ap (λ j. take j cs ∷ lines_of [] (drop (i + 1) cs)) n)

pub unsplit : (cs : List ℕ) → position (λ b. eqb b 10) cs ≡ None → cs ∷ [] ≡ lines_of [] cs
unsplit cs e = by (ltb (position_or_len (λ b. eqb b 10) cs) (length cs)) refl e
  where
    by : (b : Bool) → ltb (position_or_len (λ b. eqb b 10) cs) (length cs) ≡ b → cond b (Some (position_or_len (λ b. eqb b 10) cs)) None ≡ None → cs ∷ [] ≡ lines_of [] cs
    by true q r = absurd (none-some _ (sym r))
    by false q r =
        let far = ltb-false _ _ q in
        sym (last_line 0 cs (omega arith) (λ k a b h. true≢false (sym (eq-eqb (get_or cs k 0) 10 h) ∙ fails_before_first (λ b. eqb b 10) cs k 0 (omega arith))))

-- there is always a line, and each but the last stands before a newline
pub some_line : (l cs : List ℕ) → 1 ≤ length (lines_of l cs)
unfolding lines_of
some_line l [] = omega arith
some_line l (c ∷ cs) = ⊎_elim (λ e. rw e (omega arith)) (λ e. rw e (some_line (l ++ c ∷ []) cs)) (cases_Bool (eqb c 10))

pub lines_long : (l cs : List ℕ) → added_up length (lines_of l cs) + length (lines_of l cs) ≡ suc (length l + length cs)
unfolding lines_of
lines_long l [] = omega arith
lines_long l (c ∷ cs) =
    ⊎_elim
    (λ e. rw e (omega (arith, lines_long [] cs)))
    (λ e. rw e (lines_long (l ++ c ∷ []) cs ∙ simp length-append (omega arith)))
    (cases_Bool (eqb c 10))

-- of all lines
pub lines_total : (cs : List ℕ) → added_up length (lines_of [] cs) + length (lines_of [] cs) ≡ suc (length cs)
lines_total cs = lines_long [] cs ∙ omega arith

pub lines_few : (cs : List ℕ) → length (lines_of [] cs) ≤ suc (length cs)
lines_few cs = omega (arith, lines_total cs)

-- what holds of each byte of the text holds of each byte of each line, whatever the test
pub lines_every : (f : ℕ → Bool) (l cs : List ℕ) → every f l ≡ true → every f cs ≡ true → every (every f) (lines_of l cs) ≡ true
unfolding lines_of
lines_every f l [] h k = rw h
lines_every f l (c ∷ cs) h k =
    let p = and_parts (f c) (every f cs) k in
    ⊎_elim
    (λ e. rw e (and_from (every f l) (every (every f) (lines_of [] cs)) h (lines_every f [] cs refl p.1)))
    (λ e. rw e (lines_every f (l ++ c ∷ []) cs (every_append f l (c ∷ []) ∙ and_from (every f l) (every f (c ∷ [])) h (and_from (f c) true p.0 refl)) p.1))
    (cases_Bool (eqb c 10))

pub lines-bytes : (cs : List ℕ) → all_bytes cs ≡ true → every all_bytes (lines_of [] cs) ≡ true
lines-bytes cs h = lines_every (λ b. ltb b 256) [] cs refl h

-- a line has no newline
any_append : (f : ℕ → Bool) (l : List ℕ) (c : ℕ) → any f l ≡ false → f c ≡ false → any f (l ++ c ∷ []) ≡ false
any_append f [] c h k = rw k
any_append f (x ∷ l) c h k = let p = split_or (f x) (any f l) h in rw p.0 (any_append f l c p.1 k)

pub lines_unbroken : (l cs : List ℕ) → Unbroken l → (m : List ℕ) → In m (lines_of l cs) → Unbroken m
unfolding lines_of
lines_unbroken l [] h m (inl e) = subst Unbroken e h
lines_unbroken l [] h m (inr i) = absurd i
lines_unbroken l (c ∷ cs) h m i =
    ⊎_elim
    (λ e.
    let j : In m (l ∷ lines_of [] cs) = subst (λ (b : Bool). In m (pick b (l ∷ lines_of [] cs) (lines_of (l ++ c ∷ []) cs))) e i in
    elim j [ inl q ↦ subst Unbroken q h | inr k ↦ lines_unbroken [] cs refl m k ])
    (λ e.
    lines_unbroken (l ++ c ∷ []) cs (any_append (eqb 10) l c h (ne_eqb 10 c (λ q. let t = eq-eqb c 10 (sym q) in absurd (true≢false (sym t ∙ e))))) m
    (subst (λ (b : Bool). In m (pick b (l ∷ lines_of [] cs) (lines_of (l ++ c ∷ []) cs))) e i))
    (cases_Bool (eqb c 10))

-- the lines with a newline behind each but the last are the text
abbrev pub rejoined : List ℕ → List (List ℕ) → List ℕ
rejoined l [] = l
rejoined l (m ∷ ms) = l ++ 10 ∷ rejoined m ms

abbrev pub whole-text : List (List ℕ) → List ℕ
whole-text [] = []
whole-text (l ∷ ls) = rejoined l ls

text-more : (l : List ℕ) (ls : List (List ℕ)) → 1 ≤ length ls → whole-text (l ∷ ls) ≡ l ++ 10 ∷ whole-text ls
text-more l [] h = absurd (omega arith)
text-more l (m ∷ ms) h = refl

pub text-back : (l cs : List ℕ) → whole-text (lines_of l cs) ≡ l ++ cs
unfolding lines_of
text-back l [] = sym (append-nil l)
text-back l (c ∷ cs) =
    ⊎_elim
    (λ e. rw e (text-more l (lines_of [] cs) (some_line [] cs) ∙ (λ i. l ++ sym (eqb-true c 10 e) i ∷ text-back [] cs i)))
    (λ e. rw e (text-back (l ++ c ∷ []) cs ∙ append_assoc l (c ∷ []) cs))
    (cases_Bool (eqb c 10))

-- how many lines there are does not hang on what was read of the first
pub lines-count : (l m cs : List ℕ) → length (lines_of l cs) ≡ length (lines_of m cs)
unfolding lines_of
lines-count l m [] = refl
lines-count l m (c ∷ cs) = ⊎_elim (λ e. rw e) (λ e. rw e (lines-count (l ++ c ∷ []) (m ++ c ∷ []) cs)) (cases_Bool (eqb c 10))

-- one byte on, counted
module _ (i : ℕ) (cs : List ℕ) (within : i < length cs) where
  pub count-newline : get_or cs i 0 ≡ 10 → length (lines_of [] (drop i cs)) ≡ suc (length (lines_of [] (drop (i + 1) cs)))
  count-newline is = ap (λ ds. length (lines_of [] ds)) (drop_more cs i 0 within ∙ ap (λ c. c ∷ drop (i + 1) cs) is) ∙ ap length (at-newline [] (drop (i + 1) cs))

  pub count-byte : (get_or cs i 0 ≡ 10 → ⊥) → length (lines_of [] (drop i cs)) ≡ length (lines_of [] (drop (i + 1) cs))
  count-byte other =
      ap (λ ds. length (lines_of [] ds)) (drop_more cs i 0 within) ∙ ap length (at_byte (get_or cs i 0) [] (drop (i + 1) cs) other) ∙ lines-count (get_or cs i 0 ∷ []) [] (drop (i + 1) cs)

pub count-end : (i : ℕ) (cs : List ℕ) → length cs ≤ i → length (lines_of [] (drop i cs)) ≡ 1
count-end i cs past = ap (λ ds. length (lines_of [] ds)) (drop_all i cs past) ∙ ap length (at_end [])

-- one item on in a list, and past its end
pub on_by_one : {A : Type 0} (xs ys : List A) (y : A) (k : ℕ) → drop k xs ≡ y ∷ ys → drop (k + 1) xs ≡ ys
on_by_one xs ys y k e = sym (drop-drop 1 k xs) ∙ ap (drop 1) e

pub past_end : {A : Type 0} (xs : List A) (k n : ℕ) → k ≤ n → drop k xs ≡ [] → [] ≡ take 1 (drop n xs)
past_end xs k n h e = let z : length xs - k ≡ 0 = sym (length-drop k xs) ∙ ap length e in sym (ap (take 1) (drop_all n xs (omega arith)))
