-- A stand is good from o to n: its ids are distinct, at least o and below n, and the current line is one that it has. What keeps it so. Assumes nothing.
use Rattle.std.proofs.Common.{◌≡◌, ℕ, suc, ◌+◌, ◌-◌, ◌<◌, ◌≤◌, Bool, true, false, ◌&&◌, ltb, leb, ◌⊎◌, List, [], ◌∷◌, ◌++◌, length, take, drop, sym, refl, ap, ◌∙◌, inl, inr, arith}
use Rattle.std.proofs.lemmas.List.{append_assoc, length-append, length-take, length-drop, take-append-drop, take-take}
use Rattle.std.proofs.lemmas.Bool.{and_parts, and_from, leb-true, le-leb, ltb-true, lt-ltb}
use Rattle.plain.specs.Pattern.{pick, every, each, none_of, Pattern}
use Rattle.plain.specs.House.{Line, Stand, Both, real, how_many, put_lines, with_text, new_lines, moved_to, lines_from, after_gone, place_of, swapped}
use Rattle.plain.specs.Promise.{distinct, ids}
use Rattle.plain.proofs.Basics.{In, in_left, in_right, in_cases, in_each, in_each_from, every_in, every_by, each_append, length_each, distinct-parts, distinct_more, distinct-join}
use Rattle.plain.proofs.Moved.{split_three, split_drop}

pub record Good (o n : ℕ) (s : Stand) : Type 0 where
  pub apart : distinct (ids s.lines) ≡ true
  pub below : (i : ℕ) → In i (ids s.lines) → (o ≤ i) × (i < n)
  pub within : s.at ≤ how_many s

abbrev pub stand_test : ℕ → Stand → Bool
stand_test n s = (distinct (each (λ l. l.id) s.lines) && every (λ l. ltb l.id n) s.lines) && leb s.at (how_many s)

pub good_from : {o : ℕ} (n : ℕ) (s : Stand) → stand_test n s ≡ true → ((l : Line) → In l s.lines → o ≤ l.id) → Good o n s
good_from n s e low =
    let p = and_parts (distinct (ids s.lines) && every (λ l. ltb l.id n) s.lines) (leb s.at (how_many s)) e in
    let q = and_parts (distinct (ids s.lines)) (every (λ l. ltb l.id n) s.lines) p.0 in
    record {
      apart = q.0;
      below = λ i h. (let r = in_each_from (λ l. l.id) i s.lines h in omega (arith, ltb-true r.0.id n (every_in (λ l. ltb l.id n) r.0 s.lines q.1 r.1), low r.0 r.1, r.2));
      within = leb-true s.at (how_many s) p.1;
    }

pub good_test : {o : ℕ} (n : ℕ) (s : Stand) → Good o n s → stand_test n s ≡ true
good_test n s g =
    and_from _ _ (and_from _ _ g.apart (every_by (λ l. ltb l.id n) s.lines (λ l h. lt-ltb l.id n (g.below l.id (in_each (λ x. x.id) l s.lines h)).1)))
    (le-leb s.at (how_many s) g.within)

pub good_more : {o : ℕ} (n k : ℕ) (s : Stand) → n ≤ k → Good o n s → Good o k s
good_more n k s h g = record { apart = g.apart; below = λ i m. omega (arith, g.below i m); within = g.within }

-- new lines
pub new_low : (n : ℕ) (bs : List (List ℕ)) (i : ℕ) → In i (ids (new_lines n bs)) → (n ≤ i) × (i < n + length bs)
unfolding new_lines
new_low n [] i h = absurd h
new_low n (b ∷ bs) i (inl e) = omega arith
new_low n (b ∷ bs) i (inr h) = let r = new_low (suc n) bs i h in omega arith

pub new_distinct : (n : ℕ) (bs : List (List ℕ)) → distinct (ids (new_lines n bs)) ≡ true
unfolding new_lines distinct
new_distinct n [] = refl
new_distinct n (b ∷ bs) = distinct_more n (ids (new_lines (suc n) bs)) (λ h. omega (arith, new_low (suc n) bs n h)) (new_distinct (suc n) bs)

pub length_new : (n : ℕ) (bs : List (List ℕ)) → length (new_lines n bs) ≡ length bs
unfolding new_lines
length_new n [] = refl
length_new n (b ∷ bs) = ap suc (length_new (suc n) bs)

-- lines put in place of others
pub length_put : (s : Stand) (a b : ℕ) (ls : List Line) → a ≤ b → b ≤ how_many s → length (put_lines s a b ls) ≡ a + length ls + (how_many s - b)
length_put s a b ls h k = simp (length-append, length-take, length-drop) (omega arith)

pub put_good : {o : ℕ} (s : Stand) (n k a b at : ℕ) (ls : List Line) → Good o n s → o ≤ n → n ≤ k → a ≤ b → b ≤ how_many s →
    distinct (ids ls) ≡ true → ((i : ℕ) → In i (ids ls) → (n ≤ i) × (i < k)) → at ≤ a + length ls + (how_many s - b) → Good o k (with_text s (put_lines s a b ls) at)
put_good {o} s n k a b at ls g on nk ab bs dl new al =
    let P = take a s.lines in
    let M = take (b - a) (drop a s.lines) in
    let R = drop b s.lines in
    let e : ids s.lines ≡ ids P ++ (ids M ++ ids R) = ap ids (sym (split_three a b s.lines ab)) ∙ simp each_append in
    let f : ids (put_lines s a b ls) ≡ ids P ++ (ids ls ++ ids R) = simp (each_append, append_assoc) in
    let d₁ = distinct-parts (ids P) (ids M ++ ids R) (rw e at g.apart) in
    let d₂ = distinct-parts (ids M) (ids R) d₁.second in
    let old-p : (i : ℕ) → In i (ids P) → (o ≤ i) × (i < n) = λ i h. g.below i (rw e (in_left i (ids P) (ids M ++ ids R) h)) in
    let old-r : (i : ℕ) → In i (ids R) → (o ≤ i) × (i < n) = λ i h. g.below i (rw e (in_right i (ids P) (ids M ++ ids R) (in_right i (ids M) (ids R) h))) in
    record {
      apart = rw f (distinct-join (ids P) (ids ls ++ ids R) d₁.first
          (distinct-join (ids ls) (ids R) dl d₂.second (λ i h q. omega (arith, new i h, old-r i q)))
          (λ i h q. elim (in_cases i (ids ls) (ids R) q) [ inl u ↦ omega (arith, new i u, old-p i h) | inr u ↦ d₁.apart i h (in_right i (ids M) (ids R) u) ]));
      below = λ i h. (let h₁ : In i (ids P ++ (ids ls ++ ids R)) = rw f at h in
          elim (in_cases i (ids P) (ids ls ++ ids R) h₁) [
            | inl u ↦ omega (arith, old-p i u)
            | inr u ↦ elim (in_cases i (ids ls) (ids R) u) [ inl v ↦ omega (arith, new i v) | inr v ↦ omega (arith, old-r i v) ]
          ]);
      within = omega (arith, length_put s a b ls ab bs);
    }

pub put_new : {o : ℕ} (s : Stand) (n a b at : ℕ) (bs : List (List ℕ)) → Good o n s → o ≤ n → a ≤ b → b ≤ how_many s → at ≤ a + length bs + (how_many s - b) →
    Good o (n + length bs) (with_text s (put_lines s a b (new_lines n bs)) at)
put_new s n a b at bs g on ab bn al =
    put_good s n (n + length bs) a b at (new_lines n bs) g on (omega arith) ab bn (new_distinct n bs) (λ i h. new_low n bs i h) (omega (arith, length_new n bs))

-- the same lines in other places
pub record Blocks (old new : List Line) : Type 0 where
  pub p : List Line
  pub q : List Line
  pub m : List Line
  pub r : List Line
  pub old_is : old ≡ p ++ (q ++ (m ++ r))
  pub new_is : new ≡ p ++ (m ++ (q ++ r))

pub in_swap : (i : ℕ) (a b c : List ℕ) → In i (a ++ (b ++ c)) → In i (b ++ (a ++ c))
in_swap i a b c h =
    elim (in_cases i a (b ++ c) h) [
      | inl u ↦ in_right i b (a ++ c) (in_left i a c u)
      | inr u ↦ elim (in_cases i b c u) [ inl v ↦ in_left i b (a ++ c) v | inr v ↦ in_right i b (a ++ c) (in_right i a c v) ]
    ]

pub distinct-swap : (a b c : List ℕ) → distinct (a ++ (b ++ c)) ≡ true → distinct (b ++ (a ++ c)) ≡ true
distinct-swap a b c d =
    let d₁ = distinct-parts a (b ++ c) d in
    let d₂ = distinct-parts b c d₁.second in
    distinct-join b (a ++ c) d₂.first (distinct-join a c d₁.first d₂.second (λ i h k. d₁.apart i h (in_right i b c k)))
    (λ i h k. elim (in_cases i a c k) [ inl u ↦ d₁.apart i u (in_left i b c h) | inr u ↦ d₂.apart i h u ])

pub blocks_good : {o : ℕ} (n at : ℕ) (s : Stand) (ls : List Line) → Blocks s.lines ls → Good o n s → at ≤ how_many s → Good o n (with_text s ls at)
blocks_good n at s ls b g h =
    let e : ids s.lines ≡ ids b.p ++ (ids b.q ++ (ids b.m ++ ids b.r)) = ap ids b.old_is ∙ simp each_append in
    let f : ids ls ≡ ids b.p ++ (ids b.m ++ (ids b.q ++ ids b.r)) = ap ids b.new_is ∙ simp each_append in
    let d = distinct-parts (ids b.p) (ids b.q ++ (ids b.m ++ ids b.r)) (rw e at g.apart) in
    let back : (i : ℕ) → In i (ids b.m ++ (ids b.q ++ ids b.r)) → In i (ids b.q ++ (ids b.m ++ ids b.r)) = λ i k. in_swap i (ids b.m) (ids b.q) (ids b.r) k in
    record {
      apart = rw f (distinct-join (ids b.p) (ids b.m ++ (ids b.q ++ ids b.r)) d.first (distinct-swap (ids b.q) (ids b.m) (ids b.r) d.second) (λ i u k. d.apart i u (back i k)));
      below = λ i u. (let u₁ : In i (ids b.p ++ (ids b.m ++ (ids b.q ++ ids b.r))) = rw f at u in
          g.below i (rw e (elim (in_cases i (ids b.p) _ u₁) [ inl v ↦ in_left i (ids b.p) _ v | inr v ↦ in_right i (ids b.p) _ (back i v) ])));
      within = omega (arith, simp length-append at (ap length b.old_is), simp length-append at (ap length b.new_is));
    }

pub moved_blocks : (s : Stand) (a b d : ℕ) → 1 ≤ a → a ≤ b → ((d < a) ⊎ (b ≤ d)) → Blocks s.lines (moved_to s a b d)
moved_blocks s a b d a1 ab (inl h) =
    let L = s.lines in
    let ms : suc b - a ≡ b - (a - 1) = omega arith in
    let whole : L ≡ take (a - 1) L ++ (lines_from s a b ++ drop b L) = rw ms (sym (split_three (a - 1) b L (omega arith))) in
    let h₁ : d ≤ a - 1 = omega arith in
    let f : take (a - 1) L ≡ take d L ++ drop d (take (a - 1) L) = sym (take-append-drop d (take (a - 1) L)) ∙ ap (λ t. t ++ drop d (take (a - 1) L)) (take-take d (a - 1) L h₁) in
    record {
      p = take d L;
      q = drop d (take (a - 1) L);
      m = lines_from s a b;
      r = drop b L;
      old_is = whole ∙ ap (λ t. t ++ (lines_from s a b ++ drop b L)) f ∙ simp append_assoc;
      new_is = rw (lt-ltb d a h) (simp append_assoc);
    }
moved_blocks s a b d a1 ab (inr h) =
    let L = s.lines in
    let ms : suc b - a ≡ b - (a - 1) = omega arith in
    let whole : L ≡ take (a - 1) L ++ (lines_from s a b ++ drop b L) = rw ms (sym (split_three (a - 1) b L (omega arith))) in
    let n : ltb d a ≡ false = grind arith in
    record {
      p = take (a - 1) L;
      q = lines_from s a b;
      m = take (d - b) (drop b L);
      r = drop d L;
      old_is = whole ∙ ap (λ t. take (a - 1) L ++ (lines_from s a b ++ t)) (split_drop b d L h);
      new_is = rw n (simp append_assoc);
    }

-- the same ids
pub ids-good : {o : ℕ} (n at : ℕ) (s : Stand) (ls : List Line) → ids ls ≡ ids s.lines → Good o n s → at ≤ how_many s → Good o n (with_text s ls at)
ids-good n at s ls e g h =
    record {
      apart = rw e g.apart;
      below = λ i u. g.below i (rw e at u);
      within = omega (arith, length_each (λ l. l.id) ls, length_each (λ l. l.id) s.lines, ap length e);
    }

pub swapped-ids : (k : ℕ) (p : Pattern) (r : List ℕ) (n : ℕ) (ls : List Line) → ids (swapped k p r n ls).lines ≡ ids ls
unfolding swapped
swapped-ids k p r n [] = refl
swapped-ids k p r n (l ∷ ls) = ap (λ t. l.id ∷ t) (swapped-ids k p r (suc n) ls)

pub swapped_last : (k : ℕ) (p : Pattern) (r : List ℕ) (n : ℕ) (ls : List Line) → (swapped k p r n ls).last ≤ (n + length ls) - 1
unfolding swapped
swapped_last k p r n [] = omega arith
swapped_last k p r n (l ∷ ls) = let h = swapped_last k p r (suc n) ls in grind arith

pub place-le : (i : ℕ) (ls : List Line) (n : ℕ) → place_of i ls n ≤ n + length ls
unfolding place_of
place-le i [] n = omega arith
place-le i (l ∷ ls) n = let h = place-le i ls (suc n) in grind arith

-- where one is afterwards
pub at-insert : (bs : List (List ℕ)) (t n : ℕ) → t ≤ n → pick (none_of bs) t (t - 1 + length bs) ≤ t - 1 + length bs + (n - (t - 1))
at-insert [] t n h = omega arith
at-insert (b ∷ bs) t n h = omega arith

pub at_gone : (f t n : ℕ) → 1 ≤ f → f ≤ t → t ≤ n → after_gone f (n - (suc t - f)) ≤ f - 1 + 0 + (n - t)
at_gone f t n a b c = grind arith

pub at-change : (bs : List (List ℕ)) (f t n : ℕ) → 1 ≤ f → f ≤ t → t ≤ n → pick (none_of bs) (after_gone f (n - (suc t - f))) (f - 1 + length bs) ≤ f - 1 + length bs + (n - t)
at-change [] f t n a b c = at_gone f t n a b c
at-change (x ∷ bs) f t n a b c = omega arith

pub record Real (s : Stand) (b : Both) : Type 0 where
  pub one : 1 ≤ b.from
  pub order : b.from ≤ b.to
  pub there : b.to ≤ how_many s

pub real_from : (s : Stand) (b : Both) → real s b ≡ true → Real s b
real_from s b e =
    let p = and_parts (leb 1 b.from && leb b.from b.to) (leb b.to (how_many s)) e in
    let q = and_parts (leb 1 b.from) (leb b.from b.to) p.0 in
    record { one = leb-true _ _ q.0; order = leb-true _ _ q.1; there = leb-true _ _ p.1 }
