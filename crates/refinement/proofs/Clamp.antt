-- A splice held inside the directory does the same, and the memory can do it. Assumes nothing.
use Rattle.std.proofs.Common.{◌≡◌, ℕ, zero, suc, ◌+◌, ◌-◌, ◌<◌, ◌≤◌, true, ltb, ◌⊎◌, List, [], ◌++◌, length, take, drop, sym, refl, ap, ◌∙◌, subst, inl, inr, arith, length-append, length-drop, length-take}
use Rattle.std.proofs.lemmas.List.{take_all, drop_all}
use Rattle.std.proofs.lemmas.Bool.{cases_lt, lt-ltb, le-ltb, and_from}
use Rattle.plain.specs.Pattern.{pick}
use Rattle.plain.specs.Device.{lesser}
use Rattle.journal.specs.Log.{Source, no_entries, new_entries, copied, Splice, incoming, apply}
use Rattle.journal.specs.Small.{News}
use Rattle.memory.specs.declared.kept.Kept.{Kept}
use Rattle.memory.specs.Registers.{TameKept}
use Rattle.memory.specs.Abstract.{dir_of, pending_of}
use Rattle.memory.specs.Commit.{can_by, can_note, can_apply}
use Rattle.memory.proofs.Splicing.{there_can, put_can, there-copy}
use Rattle.commits.specs.News.{within, clamped}
use Rattle.refinement.proofs.Same.{dir-long, pending-many}

-- THE LESSER of two
pub data Lesser (a b : ℕ) : ℕ → Type 0 where
  first : a < b → Lesser a b a
  second : b ≤ a → Lesser a b b

pub lesser_is : (a b : ℕ) → Lesser a b (lesser a b)
lesser_is a b = elim (cases_lt a b) [
  | inl h ↦ rw (lt-ltb a b h) (first h)
  | inr h ↦ rw (le-ltb a b h) (second h)
]

-- copied entries lie beside those that go
abbrev pub Apart : ℕ → ℕ → Source → Type 0
Apart p q no_entries = Unit {0}
Apart p q new_entries = Unit {0}
Apart p q (copied x y) = (y ≤ p) ⊎ (p + q ≤ x)

-- THE SAME LIST
module _ {A : Type 0} (D : List A) where
  front : (p : ℕ) → take p D ≡ take (lesser p (length D)) D
  front p = go (lesser_is p (length D))
    where
      go : {l : ℕ} → Lesser p (length D) l → take p D ≡ take l D
      go (first h) = refl
      go (second h) = take_all p D h ∙ sym (take_all (length D) D (omega arith))

  behind : (p q : ℕ) → drop (p + q) D ≡ drop (lesser p (length D) + lesser q (length D - lesser p (length D))) D
  behind p q = go (lesser_is p (length D))
    where
      go : {l : ℕ} → Lesser p (length D) l → drop (p + q) D ≡ drop (l + lesser q (length D - l)) D
      go (first h) = by (lesser_is q (length D - p))
        where
          by : {k : ℕ} → Lesser q (length D - p) k → drop (p + q) D ≡ drop (p + k) D
          by (first g) = refl
          by (second g) = drop_all (p + q) D (omega arith) ∙ sym (drop_all (p + (length D - p)) D (omega arith))
      go (second h) = drop_all (p + q) D (omega arith) ∙ sym (drop_all (length D + lesser q (length D - length D)) D (omega arith))

  middle : (s : Source) (P : List A) → incoming s D P ≡ incoming (within (length D) s) D P
  middle no_entries P = refl
  middle new_entries P = refl
  middle (copied x y) P = go (lesser_is y (length D))
    where
      go : {l : ℕ} → Lesser y (length D) l → take (y - x) (drop x D) ≡ incoming (pick (ltb x l) (copied x l) no_entries) D P
      go {l} e = elim (cases_lt x l) [
        | inl h ↦ rw (lt-ltb x l h) (inside e h)
        | inr h ↦ rw (le-ltb x l h) (outside e h)
      ]
        where
          inside : {l : ℕ} → Lesser y (length D) l → x < l → take (y - x) (drop x D) ≡ take (l - x) (drop x D)
          inside (first g) h = refl
          inside (second g) h = let z = length-drop x D in take_all (y - x) (drop x D) (omega arith) ∙ sym (take_all (length D - x) (drop x D) (omega arith))

          outside : {l : ℕ} → Lesser y (length D) l → l ≤ x → take (y - x) (drop x D) ≡ []
          outside (first g) h = ap (λ n. take n (drop x D)) (let z : y - x ≡ 0 = omega arith in z)
          outside (second g) h = ap (take (y - x)) (drop_all x D h) ∙ empty (y - x)
            where
              empty : (n : ℕ) → ◌≡◌ {A = List A} (take n []) []
              empty zero = refl
              empty (suc n) = refl

  pub apply-clamped : (c : Splice) (P : List A) → apply c D P ≡ apply (clamped (length D) c) D P
  unfolding apply
  apply-clamped c P = λ i. front c.from i ++ (middle c.source P i ++ behind c.from c.gone i)

-- THE MEMORY CAN DO IT, if the directory is not too long then
-- the place of a splice inside so many entries
place : (p q n : ℕ) → lesser p n + lesser q (n - lesser p n) ≤ n
place p q n = go (lesser_is p n)
  where
    go : {l : ℕ} → Lesser p n l → l + lesser q (n - l) ≤ n
    go {l} e = by e (lesser_is q (n - l))
      where
        by : {l k : ℕ} → Lesser p n l → Lesser q (n - l) k → l + k ≤ n
        by (first g) (first h) = omega arith
        by (first g) (second h) = omega arith
        by (second g) (first h) = omega arith
        by (second g) (second h) = omega arith

apart-place : (p q x y n : ℕ) → x < lesser y n → (y ≤ p) ⊎ (p + q ≤ x) → (lesser y n ≤ lesser p n) ⊎ ((lesser p n + lesser q (n - lesser p n) ≤ x) × (lesser y n ≤ n))
apart-place p q x y n = go (lesser_is y n) (lesser_is p n)
  where
    go : {a b : ℕ} → Lesser y n a → Lesser p n b → x < a → (y ≤ p) ⊎ (p + q ≤ x) → (a ≤ b) ⊎ ((b + lesser q (n - b) ≤ x) × (a ≤ n))
    go {a} {b} u v h (inl g) = inl (by u v)
      where
        by : {a b : ℕ} → Lesser y n a → Lesser p n b → a ≤ b
        by (first i) (first j) = omega arith
        by (first i) (second j) = omega arith
        by (second i) (first j) = omega arith
        by (second i) (second j) = omega arith
    go {a} {b} u v h (inr g) = inr (by u v h (lesser_is q (n - b)), few u)
      where
        by : {a b k : ℕ} → Lesser y n a → Lesser p n b → x < a → Lesser q (n - b) k → b + k ≤ x
        by (first i) (first j) h (first k) = omega arith
        by (first i) (first j) h (second k) = omega arith
        by (first i) (second j) h (first k) = omega arith
        by (first i) (second j) h (second k) = omega arith
        by (second i) (first j) h (first k) = omega arith
        by (second i) (first j) h (second k) = omega arith
        by (second i) (second j) h (first k) = omega arith
        by (second i) (second j) h (second k) = omega arith

        few : {a : ℕ} → Lesser y n a → a ≤ n
        few (first i) = omega arith
        few (second i) = omega arith

-- what a splice leaves, in numbers
module _ {A : Type 0} (D P : List A) (p q : ℕ) (there : p + q ≤ length D) where
  long_by : (s : List A) → length (take p D ++ (s ++ drop (p + q) D)) ≡ length D - q + length s
  long_by s =
      length-append (take p D) (s ++ drop (p + q) D) ∙ (let a = length-append s (drop (p + q) D) in let b = length-take p D in let c = length-drop (p + q) D in let z : length (take p D) + length (s ++ drop (p + q) D) ≡ length D - q + length s = omega arith in z)

can_source : {A : Type 0} (s : Source) (n k p q : ℕ) (D P : List A) → length D ≡ n → length P ≡ k → n ≤ 524289 → k ≤ 65536 → Apart p q s →
    length (take (lesser p n) D ++ (incoming (within n s) D P ++ drop (lesser p n + lesser q (n - lesser p n)) D)) ≤ 524288 →
    can_by (within n s) n (lesser p n) (lesser q (n - lesser p n)) k ≡ true
can_source {A} no_entries n k p q D P e f g h a l =
    let t = place p q n in
    let z = long_by D P (lesser p n) (lesser q (n - lesser p n)) (omega arith) [] in
    there_can n (lesser p n) (lesser q (n - lesser p n)) 0 (record { there = t; held = g; fits = omega arith })
can_source {A} new_entries n k p q D P e f g h a l =
    let t = place p q n in
    let z = long_by D P (lesser p n) (lesser q (n - lesser p n)) (omega arith) P in
    put_can n (lesser p n) (lesser q (n - lesser p n)) k h (record { there = t; held = g; fits = omega arith })
can_source {A} (copied x y) n k p q D P e f g h a l = elim (cases_lt x (lesser y n)) [
  | inl i ↦ inside i (subst (λ b. length (take (lesser p n) D ++ (incoming (pick b (copied x (lesser y n)) no_entries) D P ++ drop (lesser p n + lesser q (n - lesser p n)) D)) ≤ 524288) (lt-ltb x (lesser y n) i) l)
  | inr i ↦ outside i (subst (λ b. length (take (lesser p n) D ++ (incoming (pick b (copied x (lesser y n)) no_entries) D P ++ drop (lesser p n + lesser q (n - lesser p n)) D)) ≤ 524288) (le-ltb x (lesser y n) i) l)
]
  where
    inside : x < lesser y n → length (take (lesser p n) D ++ (take (lesser y n - x) (drop x D) ++ drop (lesser p n + lesser q (n - lesser p n)) D)) ≤ 524288 →
        can_by (pick (ltb x (lesser y n)) (copied x (lesser y n)) no_entries) n (lesser p n) (lesser q (n - lesser p n)) k ≡ true
    inside i l =
        let t = place p q n in
        let w = few (lesser_is y n) in
        let r = length-take (lesser y n - x) (drop x D) in
        let s = length-drop x D in
        let z = long_by D P (lesser p n) (lesser q (n - lesser p n)) (omega arith) (take (lesser y n - x) (drop x D)) in
        ap (λ b. can_by (pick b (copied x (lesser y n)) no_entries) n (lesser p n) (lesser q (n - lesser p n)) k) (lt-ltb x (lesser y n) i)
        ∙ there-copy n (lesser p n) (lesser q (n - lesser p n)) x (lesser y n)
        (record { splices = record { there = t; held = g; fits = omega arith }; ordered = omega arith; apart = apart-place p q x y n i a })
      where
        few : {a : ℕ} → Lesser y n a → a ≤ n
        few (first i) = omega arith
        few (second i) = omega arith

    outside : lesser y n ≤ x → length (take (lesser p n) D ++ ([] ++ drop (lesser p n + lesser q (n - lesser p n)) D)) ≤ 524288 →
        can_by (pick (ltb x (lesser y n)) (copied x (lesser y n)) no_entries) n (lesser p n) (lesser q (n - lesser p n)) k ≡ true
    outside i l =
        let t = place p q n in
        let z = long_by D P (lesser p n) (lesser q (n - lesser p n)) (omega arith) [] in
        ap (λ b. can_by (pick b (copied x (lesser y n)) no_entries) n (lesser p n) (lesser q (n - lesser p n)) k) (le-ltb x (lesser y n) i)
        ∙ there_can n (lesser p n) (lesser q (n - lesser p n)) 0 (record { there = t; held = g; fits = omega arith })

pub can_clamped : (k : Kept) (c : Splice) (u : News) (m : List ℕ) → length m ≡ 262144 → TameKept k → Apart c.from c.gone c.source → can_note u.also k.files ≡ true →
    length (apply c (dir_of k.entries m) (pending_of k.pending m)) ≤ 524288 → can_apply k (clamped k.entries c) u ≡ true
unfolding can_apply apply
can_clamped k c u m h t a n l =
    let d = dir-long k.entries m h t.entries in
    let p = pending-many k.pending m h t.pending in
    let same : apply c (dir_of k.entries m) (pending_of k.pending m) ≡ apply (clamped k.entries c) (dir_of k.entries m) (pending_of k.pending m) =
    apply-clamped (dir_of k.entries m) c (pending_of k.pending m) ∙ ap (λ j. apply (clamped j c) (dir_of k.entries m) (pending_of k.pending m)) d in
    and_from _ _ n (can_source c.source k.entries k.pending c.from c.gone (dir_of k.entries m) (pending_of k.pending m) d p t.entries t.pending a
    (subst (λ xs. length xs ≤ 524288) same l))
