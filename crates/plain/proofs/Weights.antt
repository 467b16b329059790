-- What a stand weighs beside the one that comes of it by putting lines in place of others. Assumes nothing.
use Rattle.std.proofs.Common.{◌≡◌, ℕ, suc, ◌+◌, ◌-◌, ◌*◌, ◌<◌, ◌≤◌, Bool, true, false, not, ◌&&◌, eqb, ltb, leb, ◌⊎◌, List, [], ◌∷◌, ◌++◌, length, take, drop, sym, refl, ap, ◌∙◌, subst, inl, inr, arith}
use Rattle.std.proofs.lemmas.List.{append_assoc, length-append, length-take, length-drop}
use Rattle.std.proofs.lemmas.Bool.{ltb-true, leb-true, and_from, and_parts, and_left, ne_eqb, eq-eqb, eqb-true, cases_Bool}
use Rattle.plain.specs.Pattern.{pick, every, any, those, added_up, same}
use Rattle.plain.specs.House.{Line, Stand, how_many, put_lines, line_weight, in_text, NextTo, neighbours, breaks, stand_weight}
use Rattle.plain.specs.Promise.{distinct, ids}
use Rattle.plain.specs.Weight.{extra_break, PutWeight, PutWeightBack, ZeroDiffers}
use Rattle.plain.proofs.Basics.{In, in_left, in_right, in_cases, in_each, in_each_from, any_in, any_from, any_none, every_in, every_append, those_append, those_all, those_none, each_append, added_append, added_same, added_none, Apart, distinct-parts, distinct_cons}
use Rattle.plain.proofs.Moved.{split_three}

-- lines in a text
pub same_refl : (xs : List ℕ) → same xs xs ≡ true
unfolding same
same_refl [] = refl
same_refl (x ∷ xs) = and_from (eqb x x) (same xs xs) (eq-eqb x x refl) (same_refl xs)

pub in_text_in : (l : Line) (ls : List Line) → In l ls → in_text ls l ≡ true
in_text_in l ls h = any_in _ l ls h (and_from (eqb l.id l.id) (same l.bytes l.bytes) (eq-eqb l.id l.id refl) (same_refl l.bytes))

pub in_text-not : (l : Line) (ls : List Line) → (In l.id (ids ls) → ⊥) → in_text ls l ≡ false
in_text-not l ls h =
    any_none _ ls (λ m k. and_left (eqb m.id l.id) (same m.bytes l.bytes)
    (ne_eqb m.id l.id (λ e. h (subst (λ i. In i (ids ls)) e (in_each (λ x. x.id) m ls k)))))

-- neighbours
pub last_id : ℕ → List Line → ℕ
last_id i [] = i
last_id i (l ∷ ls) = last_id l.id ls

pub neighbours-append : (i : ℕ) (xs ys : List Line) → neighbours i (xs ++ ys) ≡ neighbours i xs ++ neighbours (last_id i xs) ys
unfolding neighbours last_id
neighbours-append i [] ys = refl
neighbours-append i (x ∷ xs) ys = ap (λ t. record { first = i; second = x.id } ∷ t) (neighbours-append x.id xs ys)

pub length-neighbours : (i : ℕ) (xs : List Line) → length (neighbours i xs) ≡ length xs
unfolding neighbours
length-neighbours i [] = refl
length-neighbours i (x ∷ xs) = ap suc (length-neighbours x.id xs)

pub neighbour_second : (i : ℕ) (xs : List Line) (p : NextTo) → In p (neighbours i xs) → In p.second (ids xs)
unfolding neighbours
neighbour_second i [] p h = absurd h
neighbour_second i (x ∷ xs) p (inl e) = inl (ap (λ q. q.second) e)
neighbour_second i (x ∷ xs) p (inr h) = inr (neighbour_second x.id xs p h)

pub last_id_in : (i : ℕ) (x : Line) (xs : List Line) → In (last_id i (x ∷ xs)) (ids (x ∷ xs))
unfolding last_id
last_id_in i x [] = inl refl
last_id_in i x (y ∷ xs) = inr (last_id_in x.id y xs)

pub last_id-append : (i : ℕ) (xs ys : List Line) → last_id i (xs ++ ys) ≡ last_id (last_id i xs) ys
unfolding last_id
last_id-append i [] ys = refl
last_id-append i (x ∷ xs) ys = last_id-append x.id xs ys

abbrev pub pair_is : NextTo → NextTo → Bool
pair_is p q = eqb p.first q.first && eqb p.second q.second

pub pair_in : (p : NextTo) (qs : List NextTo) → In p qs → any (pair_is p) qs ≡ true
pair_in p qs h = any_in (pair_is p) p qs h (and_from (eqb p.first p.first) (eqb p.second p.second) (eq-eqb p.first p.first refl) (eq-eqb p.second p.second refl))

pub pair_not : (p : NextTo) (qs : List NextTo) → ((q : NextTo) → In q qs → (p.second ≡ q.second) → (p.first ≡ q.first) → ⊥) → any (pair_is p) qs ≡ false
pair_not p qs h =
    elim (cases_Bool (any (pair_is p) qs)) [
      | inl e ↦
          (let r = any_from (pair_is p) qs e in
          let t = and_parts (eqb p.first r.0.first) (eqb p.second r.0.second) r.2 in
          absurd (h r.0 r.1 (eqb-true p.second r.0.second t.1) (eqb-true p.first r.0.first t.0)))
      | inr e ↦ e
    ]

-- a text P, M, R, in which N stands in M's place
pub record Cut (P M N R : List Line) : Type 0 where
  pub pm : Apart (ids P) (ids M)
  pub pn : Apart (ids P) (ids N)
  pub pr : Apart (ids P) (ids R)
  pub mn : Apart (ids M) (ids N)
  pub mr : Apart (ids M) (ids R)
  pub nr : Apart (ids N) (ids R)
  pub rest : distinct (ids R) ≡ true
  pub one_m : (i : ℕ) → In i (ids M) → 1 ≤ i
  pub one_n : (i : ℕ) → In i (ids N) → 1 ≤ i

pub cut_flip : (P M N R : List Line) → Cut P M N R → Cut P N M R
cut_flip P M N R c =
    record { pm = c.pn; pn = c.pm; pr = c.pr; mn = λ i h k. c.mn i k h; mr = c.nr; nr = c.mr; rest = c.rest; one_m = c.one_n; one_n = c.one_m }

abbrev pub one_break : List Line → List Line → List Line → ℕ
one_break M N [] = 0
one_break [] [] (r ∷ R) = 0
one_break [] (x ∷ N) (r ∷ R) = 1
one_break (m ∷ M) N (r ∷ R) = 1

-- who stands before the rest
pub last_differs : (P : List Line) (m : Line) (M N R : List Line) → Cut P (m ∷ M) N R → last_id (last_id 0 P) (m ∷ M) ≡ last_id (last_id 0 P) N → ⊥
unfolding last_id
last_differs [] m M [] R c e = omega (arith, c.one_m _ (last_id_in 0 m M))
last_differs (p ∷ P) m M [] R c e = c.pm _ (last_id_in 0 p P) (subst (λ i. In i (ids (m ∷ M))) e (last_id_in (last_id 0 (p ∷ P)) m M))
last_differs P m M (x ∷ N) R c e = c.mn _ (last_id_in (last_id 0 P) m M) (subst (λ i. In i (ids (x ∷ N))) (sym e) (last_id_in (last_id 0 P) x N))

-- the lines that are gone
pub sum_cut : (P M N R : List Line) → Cut P M N R →
    added_up (λ l. pick (in_text (P ++ (N ++ R)) l) 0 (line_weight l)) (P ++ (M ++ R)) ≡ added_up line_weight M
sum_cut P M N R c =
    let f : Line → ℕ = λ l. pick (in_text (P ++ (N ++ R)) l) 0 (line_weight l) in
    let p : added_up f P ≡ 0 = added_none f P (λ l h. ap (λ t. pick t 0 (line_weight l)) (in_text_in l (P ++ (N ++ R)) (in_left l P (N ++ R) h))) in
    let r : added_up f R ≡ 0 = added_none f R (λ l h. ap (λ t. pick t 0 (line_weight l)) (in_text_in l (P ++ (N ++ R)) (in_right l P (N ++ R) (in_right l N R h)))) in
    let m : added_up f M ≡ added_up line_weight M = added_same f line_weight M (λ l h. ap (λ t. pick t 0 (line_weight l)) (in_text-not l (P ++ (N ++ R)) (gone l h))) in
    let e₁ = added_append f P (M ++ R) in
    let e₂ = added_append f M R in
    omega (arith, e₁, e₂, p, r, m)
  where
    gone : (l : Line) → In l M → In l.id (ids (P ++ (N ++ R))) → ⊥
    gone l h k =
        let i = in_each (λ x. x.id) l M h in
        let k₁ : In l.id (ids P ++ (ids N ++ ids R)) = simp each_append at k in
        elim (in_cases l.id (ids P) (ids N ++ ids R) k₁) [
          | inl g ↦ c.pm l.id g i
          | inr g ↦ elim (in_cases l.id (ids N) (ids R) g) [ inl q ↦ c.mn l.id i q | inr q ↦ c.mr l.id i q ]
        ]

-- the places that don't go on alike
module _ (P M N : List Line) where
  new_pairs : List Line → List NextTo
  new_pairs R = neighbours 0 P ++ (neighbours (last_id 0 P) N ++ neighbours (last_id (last_id 0 P) N) R)

  test : List Line → NextTo → Bool
  test R p = not (any (pair_is p) (new_pairs R))

  breaks_p : (R : List Line) → those (test R) (neighbours 0 P) ≡ []
  unfolding new_pairs test
  breaks_p R = those_none (test R) (neighbours 0 P) (λ p h. ap not (pair_in p (new_pairs R) (in_left p (neighbours 0 P) _ h)))

  second_of : (R : List Line) (q : NextTo) → In q (new_pairs R) → In q.second (ids P) ⊎ (In q.second (ids N) ⊎ In q (neighbours (last_id (last_id 0 P) N) R))
  unfolding new_pairs
  second_of R q h =
      elim (in_cases q (neighbours 0 P) _ h) [
        | inl g ↦ inl (neighbour_second 0 P q g)
        | inr g ↦ elim (in_cases q (neighbours (last_id 0 P) N) _ g) [ inl k ↦ inr (inl (neighbour_second (last_id 0 P) N q k)) | inr k ↦ inr (inr k) ]
      ]

  breaks_m : (R : List Line) → Cut P M N R → those (test R) (neighbours (last_id 0 P) M) ≡ neighbours (last_id 0 P) M
  unfolding test
  breaks_m R c =
      those_all (test R) (neighbours (last_id 0 P) M) (λ p h.
      let i = neighbour_second (last_id 0 P) M p h in
      ap not (pair_not p (new_pairs R) (λ q k e _.
      let j : In q.second (ids M) = subst (λ t. In t (ids M)) e i in
      elim (second_of R q k) [
        | inl g ↦ c.pm q.second g j
        | inr g ↦ elim g [ inl u ↦ c.mn q.second j u | inr u ↦ c.mr q.second j (neighbour_second _ R q u) ]
      ])))

  tail_none : (r : Line) (R : List Line) → those (test (r ∷ R)) (neighbours r.id R) ≡ []
  unfolding new_pairs test neighbours
  tail_none r R =
      those_none (test (r ∷ R)) (neighbours r.id R) (λ p h.
      ap not (pair_in p (new_pairs (r ∷ R)) (in_right p (neighbours 0 P) _ (in_right p (neighbours (last_id 0 P) N) (neighbours (last_id (last_id 0 P) N) (r ∷ R)) (inr h)))))

  head_same : (r : Line) (R : List Line) (j : ℕ) → j ≡ last_id (last_id 0 P) N → test (r ∷ R) (record { first = j; second = r.id }) ≡ false
  unfolding new_pairs test neighbours
  head_same r R j e =
      ap not (pair_in (record { first = j; second = r.id }) (new_pairs (r ∷ R))
      (in_right _ (neighbours 0 P) _ (in_right _ (neighbours (last_id 0 P) N) (neighbours (last_id (last_id 0 P) N) (r ∷ R)) (inl (ap (λ t. record { first = t; second = r.id }) (sym e))))))

  head_differs : (r : Line) (R : List Line) (j : ℕ) → Cut P M N (r ∷ R) → (j ≡ last_id (last_id 0 P) N → ⊥) → test (r ∷ R) (record { first = j; second = r.id }) ≡ true
  unfolding test neighbours
  head_differs r R j c d =
      ap not (pair_not (record { first = j; second = r.id }) (new_pairs (r ∷ R)) (λ q k e f.
      elim (second_of (r ∷ R) q k) [
        | inl g ↦ c.pr q.second g (inl e)
        | inr g ↦ elim g [
          | inl u ↦ c.nr q.second u (inl e)
          | inr u ↦ elim u [
            | inl v ↦ d (f ∙ sym (ap (λ t. t.first) v))
            | inr v ↦ (distinct_cons r.id (ids R) c.rest).0 (subst (λ t. In t (ids R)) (sym e) (neighbour_second r.id R q v))
          ]
        ]
      ]))

breaks_r : (P M N R : List Line) → Cut P M N R → length (those (test P M N R) (neighbours (last_id (last_id 0 P) M) R)) ≡ one_break M N R
unfolding neighbours last_id
breaks_r P M N [] c = refl
breaks_r P [] [] (r ∷ R) c = rw (head_same P [] [] r R (last_id 0 P) refl) (ap length (tail_none P [] [] r R))
breaks_r P [] (x ∷ N) (r ∷ R) c =
    rw (head_differs P [] (x ∷ N) r R (last_id 0 P) c (λ e. last_differs P x N [] (r ∷ R) (cut_flip P [] (x ∷ N) (r ∷ R) c) (sym e))) (ap (λ t. suc (length t)) (tail_none P [] (x ∷ N) r R))
breaks_r P (m ∷ M) N (r ∷ R) c =
    rw (head_differs P (m ∷ M) N r R (last_id (last_id 0 P) (m ∷ M)) c (last_differs P m M N (r ∷ R) c)) (ap (λ t. suc (length t)) (tail_none P (m ∷ M) N r R))

pub breaks_cut : (P M N R : List Line) → Cut P M N R → breaks (P ++ (M ++ R)) (P ++ (N ++ R)) ≡ length M + one_break M N R
unfolding test new_pairs
breaks_cut P M N R c =
    let new = neighbours-append 0 P (N ++ R) ∙ ap (λ t. neighbours 0 P ++ t) (neighbours-append (last_id 0 P) N R) in
    let old = neighbours-append 0 P (M ++ R) ∙ ap (λ t. neighbours 0 P ++ t) (neighbours-append (last_id 0 P) M R) in
    rw (new, old) (simp (those_append, length-append, breaks_p P M N R, breaks_m P M N R c, breaks_r P M N R c, length-neighbours))

pub weight_cut : (P M N R : List Line) (s t : Stand) → Cut P M N R → t.lines ≡ P ++ (M ++ R) → s.lines ≡ P ++ (N ++ R) →
    stand_weight s t ≡ 256 + added_up line_weight M + 64 * (length M + one_break M N R)
weight_cut P M N R s t c e f = rw (e, f) (omega (arith, sum_cut P M N R c, breaks_cut P M N R c))

pub old_ids : (n : ℕ) (ls : List Line) → every (λ l. leb 1 l.id && ltb l.id n) ls ≡ true → (i : ℕ) → In i (ids ls) → (1 ≤ i) × (i < n)
old_ids n ls e i h =
    let r = in_each_from (λ l. l.id) i ls h in
    let t = and_parts (leb 1 r.0.id) (ltb r.0.id n) (every_in _ r.0 ls e r.1) in
    omega (arith, leb-true 1 r.0.id t.0, ltb-true r.0.id n t.1, r.2)

pub new_ids : (n : ℕ) (ls : List Line) → every (λ l. leb n l.id) ls ≡ true → (i : ℕ) → In i (ids ls) → n ≤ i
new_ids n ls e i h =
    let r = in_each_from (λ l. l.id) i ls h in
    omega (arith, leb-true n r.0.id (every_in _ r.0 ls e r.1), r.2)

pub cut_of : (P M N R : List Line) (n : ℕ) → distinct (ids (P ++ (M ++ R))) ≡ true → every (λ l. leb 1 l.id && ltb l.id n) (P ++ (M ++ R)) ≡ true →
    every (λ l. leb n l.id) N ≡ true → 1 ≤ n → Cut P M N R
cut_of P M N R n d o e one =
    let d₀ : distinct (ids P ++ (ids M ++ ids R)) ≡ true = simp each_append at d in
    let d₁ = distinct-parts (ids P) (ids M ++ ids R) d₀ in
    let d₂ = distinct-parts (ids M) (ids R) d₁.second in
    let t : Line → Bool = λ l. leb 1 l.id && ltb l.id n in
    let o₁ = and_parts (every t P) (every t (M ++ R)) (rw (every_append t P (M ++ R)) at o) in
    let o₂ = and_parts (every t M) (every t R) (rw (every_append t M R) at o₁.1) in
    let new = new_ids n N e in
    record {
      pm = λ i h k. d₁.apart i h (in_left i (ids M) (ids R) k);
      pn = λ i h k. omega (arith, old_ids n P o₁.0 i h, new i k);
      pr = λ i h k. d₁.apart i h (in_right i (ids M) (ids R) k);
      mn = λ i h k. omega (arith, old_ids n M o₂.0 i h, new i k);
      mr = d₂.apart;
      nr = λ i h k. omega (arith, old_ids n R o₂.1 i k, new i h);
      rest = d₂.second;
      one_m = λ i h. (old_ids n M o₂.0 i h).0;
      one_n = λ i h. omega (arith, new i h);
    }

pub extra_same : (M N R : List Line) (n a b : ℕ) → length M ≡ b - a → length R ≡ n - b → a ≤ b → b ≤ n → one_break M N R ≡ extra_break n a b N
extra_same M N [] n a b p q h k = grind arith
extra_same [] [] (r ∷ R) n a b p q h k = grind arith
extra_same [] (x ∷ N) (r ∷ R) n a b p q h k = grind arith
extra_same (m ∷ M) N (r ∷ R) n a b p q h k = grind arith

-- n is at least 1 if there is a line, and without one there is nothing to cut
pub one_or_none : (n : ℕ) (ls : List Line) → every (λ l. leb 1 l.id && ltb l.id n) ls ≡ true → (1 ≤ n) ⊎ (ls ≡ [])
one_or_none n [] e = inr refl
one_or_none n (l ∷ ls) e = inl (omega (arith, old_ids n (l ∷ ls) e l.id (inl refl)))

pub break_flip : (M N R : List Line) → one_break N M R ≡ one_break M N R
break_flip M N [] = refl
break_flip [] [] (r ∷ R) = refl
break_flip [] (x ∷ N) (r ∷ R) = refl
break_flip (m ∷ M) [] (r ∷ R) = refl
break_flip (m ∷ M) (x ∷ N) (r ∷ R) = refl

pub put_weight_one : (s s₁ : Stand) (n a b : ℕ) (ls : List Line) → 1 ≤ n → a ≤ b → b ≤ how_many s →
    distinct (ids s.lines) ≡ true → every (λ l. leb 1 l.id && ltb l.id n) s.lines ≡ true → every (λ l. leb n l.id) ls ≡ true →
    s₁.lines ≡ put_lines s a b ls →
    (stand_weight s₁ s ≡ 256 + added_up line_weight (take (b - a) (drop a s.lines)) + 64 * ((b - a) + extra_break (how_many s) a b ls))
    × (stand_weight s s₁ ≡ 256 + added_up line_weight ls + 64 * (length ls + extra_break (how_many s) a b ls))
put_weight_one s s₁ n a b ls one ab bn dist old new e =
    let P = take a s.lines in
    let M = take (b - a) (drop a s.lines) in
    let R = drop b s.lines in
    let whole : P ++ (M ++ R) ≡ s.lines = split_three a b s.lines ab in
    let e₁ : s₁.lines ≡ P ++ (ls ++ R) = e ∙ append_assoc P ls R in
    let c : Cut P M ls R = cut_of P M ls R n (rw (← whole) at dist) (rw (← whole) at old) new one in
    let lm : length M ≡ b - a = simp (length-take, length-drop) (omega arith) in
    let lr : length R ≡ how_many s - b = length-drop b s.lines in
    let x : one_break M ls R ≡ extra_break (how_many s) a b ls = extra_same M ls R (how_many s) a b lm lr ab bn in
    let y : one_break ls M R ≡ one_break M ls R = break_flip M ls R in (
      weight_cut P M ls R s₁ s c (sym whole) e₁ ∙ ap (λ t. 256 + added_up line_weight M + 64 * t) (omega (arith, lm, x)),
      weight_cut P ls M R s s₁ (cut_flip P M ls R c) e₁ (sym whole) ∙ ap (λ t. 256 + added_up line_weight ls + 64 * (length ls + t)) (y ∙ x),
    )

pub put_weight-back : PutWeightBack
unfolding PutWeightBack
put_weight-back s s₁ n a b ls one ab bn dist old new e = (put_weight_one s s₁ n a b ls one ab bn dist old new e).1

pub put_weight : PutWeight
unfolding PutWeight neighbours
put_weight s s₁ n a b ls ab bn dist old new e =
    elim (one_or_none n s.lines old) [
      | inl one ↦ (put_weight_one s s₁ n a b ls one ab bn dist old new e).0
      | inr nil ↦
          (let z : how_many s ≡ 0 = ap length nil in
          let b0 : b ≡ 0 = omega arith in
          let a0 : a ≡ 0 = omega arith in
          rw (nil, a0, b0))
    ]

pub zero_differs : ZeroDiffers
unfolding ZeroDiffers neighbours same
zero_differs m = refl
