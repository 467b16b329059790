-- What text in the cells means, and the lines that are left of it. Assumes nothing.
use Rattle.std.proofs.Common.{◌≡◌, ℕ, suc, ◌+◌, ◌-◌, ◌/◌, ◌%◌, ◌≤◌, Bool, true, false, eqb, ltb, leb, List, [], ◌∷◌, ◌++◌, map, length, take, drop, sym, refl, ap, ◌∙◌, inl, inr, append_assoc, arith}
use Rattle.std.proofs.lemmas.List.{length-take, length-drop, length-append, map-append, take-map, drop-map, take-take, take_all, drop-drop, drop-take, take-append-drop, append-nil}
use Rattle.std.proofs.lemmas.Bool.{le-leb, le-ltb, lt-ltb, ltb-true, and_parts, cases_lt}
use Rattle.plain.specs.Pattern.{pick, all_bytes}
use Rattle.plain.specs.Command.{lines_of}
use Rattle.memory.specs.declared.job.Lines.{Lines}
use Rattle.memory.specs.declared.job.Lines.TheVariants.{Nothing, Given, Joined}
use Rattle.memory.specs.Sections.{low, high, with_low, name_in, cells_in, with_cells, laid_low, extended, newline}
use Rattle.memory.specs.Abstract.{text_of, name_of, job_lines, left_of, line_end, some_lines}
use Rattle.memory.proofs.Parted as parted
use Rattle.memory.proofs.Frames.{BesideText, beside-low}
use Rattle.memory.proofs.Splicing.{cells_long}
use Rattle.memory.proofs.Texting.{length-laid}
use Rattle.memory.proofs.Committing.{pick_yes, pick_no}

-- MORE TEXT
low-laid : (bs cs : List ℕ) → length bs ≤ length cs → all_bytes bs ≡ true → map low (take (length bs) (laid_low bs cs)) ≡ bs
unfolding laid_low
low-laid [] cs h b = refl
low-laid (x ∷ bs) [] h b = absurd (omega arith)
low-laid (x ∷ bs) (c ∷ cs) h b =
    let a = and_parts (ltb x 256) (all_bytes bs) b in
    let hx = ltb-true x 256 a.0 in
    let e : low (with_low c x) ≡ x = omega arith in
    λ i. e i ∷ low-laid bs cs (omega arith) a.1 i

high-laid : (bs cs : List ℕ) → map high (laid_low bs cs) ≡ map high cs
unfolding laid_low
high-laid [] cs = refl
high-laid (x ∷ bs) [] = refl
high-laid (x ∷ bs) (c ∷ cs) =
    let q : with_low c x / 256 ≡ c / 256 = omega arith in
    λ i. (q i % 2097152) ∷ high-laid bs cs i

take-add : (xs ys : List ℕ) (a n : ℕ) → length xs ≡ a → take (a + n) (xs ++ ys) ≡ xs ++ take n ys
take-add [] ys a n h = ap (λ k. take k ys) (omega arith)
take-add (x ∷ xs) ys a n h =
    let e : a + n ≡ suc (length xs + n) = omega arith in
    ap (λ k. take k (x ∷ (xs ++ ys))) e ∙ ap (λ t. x ∷ t) (take-add xs ys (length xs) n refl)

module _ (at : ℕ) (bs m : List ℕ) (h : length m ≡ 262144) (g : at + length bs ≤ 65536) where
  abbrev more : List ℕ
  more = take at (cells_in m) ++ laid_low bs (drop at (cells_in m))

  front : length (take at (cells_in m)) ≡ at
  front = let l = cells_long m h in length-take at (cells_in m) ∙ omega arith

  rest : length (drop at (cells_in m)) ≡ 65536 - at
  rest = let l = cells_long m h in length-drop at (cells_in m) ∙ omega arith

  long : length more ≡ 65536
  long =
      let f = front in let r = rest in
      length-append (take at (cells_in m)) (laid_low bs (drop at (cells_in m))) ∙ omega (arith, length-laid bs (drop at (cells_in m)))

  is_more : extended at bs m ≡ with_cells m more
  unfolding extended
  is_more = pick_yes (leb (at + length bs) 65536) (with_cells m more) m (le-leb (at + length bs) 65536 g)

  pub text-more : all_bytes bs ≡ true → text_of (at + length bs) (extended at bs m) ≡ text_of at m ++ bs
  unfolding text_of
  text-more b =
      let r = rest in
      ap (λ t. map low (take (at + length bs) (cells_in t))) is_more
      ∙ ap (λ t. map low (take (at + length bs) t)) (parted.part_with 4480 65536 m more (omega arith) long)
      ∙ ap (map low) (take-add (take at (cells_in m)) (laid_low bs (drop at (cells_in m))) at (length bs) front)
      ∙ map-append low (take at (cells_in m)) (take (length bs) (laid_low bs (drop at (cells_in m))))
      ∙ ap (λ t. map low (take at (cells_in m)) ++ t) (low-laid bs (drop at (cells_in m)) (omega arith) b)

  high_same : map high more ≡ map high (cells_in m)
  high_same =
      map-append high (take at (cells_in m)) (laid_low bs (drop at (cells_in m)))
      ∙ ap (λ t. map high (take at (cells_in m)) ++ t) (high-laid bs (drop at (cells_in m)))
      ∙ sym (map-append high (take at (cells_in m)) (drop at (cells_in m))) ∙ ap (map high) (take-append-drop at (cells_in m))

  pub beside_extended : BesideText m (extended at bs m)
  beside_extended = subst-beside (beside-low m more h long high_same)
    where
      subst-beside : BesideText m (with_cells m more) → BesideText m (extended at bs m)
      subst-beside q = rw is_more q

-- all of the text anew
no_text : (m : List ℕ) → text_of 0 m ≡ []
unfolding text_of
no_text m = refl

pub text-kept : (bs m : List ℕ) → length m ≡ 262144 → length bs ≤ 65536 → all_bytes bs ≡ true → text_of (length bs) (extended 0 bs m) ≡ bs
text-kept bs m h g b =
    let e : 0 + length bs ≡ length bs = omega arith in
    ap (λ n. text_of n (extended 0 bs m)) (sym e) ∙ text-more 0 bs m h (omega arith) b ∙ ap (λ t. t ++ bs) (no_text m)

-- CELLS THAT ARE HANDED OUT
pub cells_text : (from n len : ℕ) (m : List ℕ) → from + n ≤ len → map low (take n (drop from (cells_in m))) ≡ take n (drop from (text_of len m))
unfolding text_of
cells_text from n len m h =
    let e : from + (len - from) ≡ len = omega arith in
    let inner : drop from (take len (cells_in m)) ≡ take (len - from) (drop from (cells_in m)) =
    ap (λ k. drop from (take k (cells_in m))) (sym e) ∙ drop-take from (len - from) (cells_in m) in
    sym (ap (take n) (drop-map low from (take len (cells_in m))) ∙ take-map low n (drop from (take len (cells_in m)))
    ∙ ap (λ t. map low (take n t)) inner ∙ ap (map low) (take-take n (len - from) (drop from (cells_in m)) (omega arith)))

pub cells_name : (n : ℕ) (m : List ℕ) → map low (take n (name_in m)) ≡ name_of n m
unfolding name_of
cells_name n m = refl

-- LINES
newline_from : (k : ℕ) (s : List ℕ) → newline k s ≡ k + newline 0 s
unfolding newline
newline_from k [] = omega arith
newline_from k (b ∷ s) = by_byte (eqb b 10) (newline_from (suc k) s) (newline_from 1 s)
  where
    by_byte : (t : Bool) → newline (suc k) s ≡ suc k + newline 0 s → newline 1 s ≡ 1 + newline 0 s → pick t k (newline (suc k) s) ≡ k + pick t 0 (newline 1 s)
    by_byte true e f = omega arith
    by_byte false e f = omega arith

newline-within : (s : List ℕ) → newline 0 s ≤ length s
unfolding newline
newline-within [] = omega arith
newline-within (b ∷ s) = by_byte (eqb b 10) (newline-within s) (newline_from 1 s)
  where
    by_byte : (t : Bool) → newline 0 s ≤ length s → newline 1 s ≡ 1 + newline 0 s → pick t 0 (newline 1 s) ≤ suc (length s)
    by_byte true e f = omega arith
    by_byte false e f = omega arith

ltb-suc : (a b : ℕ) → ltb (suc a) (suc b) ≡ ltb a b
ltb-suc a b = elim (cases_lt a b) [
  | inl h ↦ lt-ltb (suc a) (suc b) (omega arith) ∙ sym (lt-ltb a b h)
  | inr h ↦ le-ltb (suc a) (suc b) (omega arith) ∙ sym (le-ltb a b h)
]

-- the first line, and what is left behind it
abbrev left_behind : ℕ → List ℕ → List (List ℕ)
left_behind n s = pick (ltb n (length s)) (lines_of [] (drop (n + 1) s)) []

behind_next : (n c : ℕ) (s : List ℕ) → left_behind (suc n) (c ∷ s) ≡ left_behind n s
behind_next n c s =
    let e : suc n + 1 ≡ suc (n + 1) = omega arith in
    λ i. pick (ltb-suc n (length s) i) (lines_of [] (ap (λ k. drop k (c ∷ s)) e i)) []

first_given : (l s : List ℕ) → lines_of l s ≡ (l ++ take (newline 0 s) s) ∷ left_behind (newline 0 s) s
unfolding lines_of newline
first_given l [] = ap (λ t. t ∷ []) (sym (append-nil l))
first_given l (c ∷ s) = by_byte (eqb c 10) (first_given (l ++ c ∷ []) s) (newline_from 1 s)
  where
    by_byte : (t : Bool) → lines_of (l ++ c ∷ []) s ≡ ((l ++ c ∷ []) ++ take (newline 0 s) s) ∷ left_behind (newline 0 s) s
        → newline 1 s ≡ 1 + newline 0 s
        → pick t (l ∷ lines_of [] s) (lines_of (l ++ c ∷ []) s) ≡ (l ++ take (pick t 0 (newline 1 s)) (c ∷ s)) ∷ left_behind (pick t 0 (newline 1 s)) (c ∷ s)
    by_byte true ih f =
        (λ i. sym (append-nil l) i ∷ sym (pick_yes (ltb 0 (suc (length s))) (lines_of [] s) [] (lt-ltb 0 (suc (length s)) (omega arith))) i)
    by_byte false ih f =
        let n : newline 1 s ≡ suc (newline 0 s) = omega arith in
        ih ∙ (λ i. append_assoc l (c ∷ []) (take (newline 0 s) s) i ∷ sym (behind_next (newline 0 s) c s) i)
        ∙ ap (λ k. (l ++ take k (c ∷ s)) ∷ left_behind k (c ∷ s)) (sym n)

pub record Ends (ls : Lines) (at : ℕ) (t : List ℕ) : Type 0 where
  pub behind : at ≤ line_end ls at t
  pub within : line_end ls at t ≤ length t

pub line-ends : (ls : Lines) (at : ℕ) (t : List ℕ) → at ≤ length t → Ends ls at t
line-ends Nothing at t h = let l = length-drop at t in record { behind = omega arith; within = omega arith }
line-ends Given at t h =
    let l = length-drop at t in
    let n = newline_from at (drop at t) in
    let w = newline-within (drop at t) in
    record { behind = omega arith; within = omega arith }
line-ends Joined at t h = let l = length-drop at t in record { behind = omega arith; within = omega arith }

whole-line : (at : ℕ) (t : List ℕ) (f : List ℕ → List (List ℕ)) → at ≤ length t
    → drop at t ∷ [] ≡ take (at + length (drop at t) - at) (drop at t) ∷ pick (ltb (at + length (drop at t)) (length t)) (f (drop (at + length (drop at t) + 1) t)) []
whole-line at t f h =
    let l = length-drop at t in
    let e : at + length (drop at t) - at ≡ length (drop at t) = omega arith in
    (λ i. sym (ap (λ n. take n (drop at t)) e ∙ take_all (length (drop at t)) (drop at t) (omega arith)) i
    ∷ sym (pick_no (ltb (at + length (drop at t)) (length t)) (f (drop (at + length (drop at t) + 1) t)) [] (le-ltb (at + length (drop at t)) (length t) (omega arith))) i)

shifted : (at n : ℕ) (s t : List ℕ) → at + length s ≡ length t → ltb n (length s) ≡ ltb (at + n) (length t)
shifted at n s t h = elim (cases_lt n (length s)) [
  | inl g ↦ lt-ltb n (length s) g ∙ sym (lt-ltb (at + n) (length t) (omega arith))
  | inr g ↦ le-ltb n (length s) g ∙ sym (le-ltb (at + n) (length t) (omega arith))
]

pub left_first : (ls : Lines) (at : ℕ) (t : List ℕ) → at ≤ length t
    → left_of true ls (drop at t) ≡ take (line_end ls at t - at) (drop at t) ∷ left_of (ltb (line_end ls at t) (length t)) ls (drop (line_end ls at t + 1) t)
left_first Nothing at t h = whole-line at t (λ s. s ∷ []) h
left_first Joined at t h = whole-line at t (λ s. s ∷ []) h
left_first Given at t h =
    let l = length-drop at t in
    let n = newline 0 (drop at t) in
    let e : newline at (drop at t) ≡ at + n = newline_from at (drop at t) in
    let w = newline-within (drop at t) in
    let k : at + n - at ≡ n = omega arith in
    let d : drop (n + 1) (drop at t) ≡ drop (at + n + 1) t = drop-drop (n + 1) at t ∙ ap (λ j. drop j t) (omega arith) in
    let b : ltb n (length (drop at t)) ≡ ltb (at + n) (length t) = shifted at n (drop at t) t (omega arith) in
    first_given [] (drop at t)
    ∙ (λ i. take (sym k i) (drop at t) ∷ pick (b i) (lines_of [] (d i)) [])
    ∙ ap (λ j. take (j - at) (drop at t) ∷ left_of (ltb j (length t)) Given (drop (j + 1) t)) (sym e)

-- at the beginning all lines are left
pub left_start : (ls : Lines) (t : List ℕ) → left_of (some_lines ls) ls (drop 0 t) ≡ job_lines ls t
left_start Nothing t = refl
left_start Given t = refl
left_start Joined t = refl
