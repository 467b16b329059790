-- Entries put in place of others: the list after it, place by place.
use Rattle.std.proofs.Common.{◌≡◌, ℕ, ◌+◌, ◌-◌, ◌<◌, ◌≤◌, List, [], ◌∷◌, ◌++◌, map, length, get_or, take, drop, set, sym, ap, ◌∙◌, add-zero, arith, take-append-drop}
use Rattle.lines.specs.Moves.{Splices, spliced, copied, edited}
use Rattle.lines.specs.Slots.{entry}
use Rattle.lines.proofs.Copies.{length-copied, copied_outside, copied-within}
use Rattle.std.proofs.lemmas.List.{places, same_lists, get_or-set_same, get_or-set_other, get_or-take, get_or-drop, length-set, length-append, length-take, length-drop, length-map, length-take-le, take_more, take_all, take_at, drop_at, drop-drop, map-append}
use Rattle.std.proofs.lemmas.Bool.{cases_eq}

-- new ones in place of q from p on
module _ (p q : ℕ) (new xs : List ℕ) (h : p + q ≤ length xs) where
  pub length_spliced : length (spliced p q new xs) ≡ length xs - q + length new
  unfolding spliced
  length_spliced = simp (length-append, length-take, length-drop) (omega arith)

  pub spliced_below : (k d : ℕ) → k < p → get_or (spliced p q new xs) k d ≡ get_or xs k d
  unfolding spliced
  spliced_below k d g = grind (arith, places)

  pub spliced_new : (k d : ℕ) → p ≤ k → k < p + length new → get_or (spliced p q new xs) k d ≡ get_or new (k - p) d
  unfolding spliced
  spliced_new k d g l = grind (arith, places)

  pub spliced_behind : (k d : ℕ) → p + length new ≤ k → get_or (spliced p q new xs) k d ≡ get_or xs (k - length new + q) d
  unfolding spliced
  spliced_behind k d g = grind (arith, places)

-- to fill nothing in is to leave all
pub filled_none : (p : ℕ) (new xs : List ℕ) → p ≤ length xs → spliced p 0 (map entry (take 0 new)) xs ≡ xs
unfolding spliced
filled_none p new xs h = rw add-zero (take-append-drop p xs)

-- one more is filled in
pub filled_one : (p i v : ℕ) (ys xs : List ℕ) → length ys ≡ i → p + i < length xs → set (spliced p i ys xs) (p + i) v ≡ spliced p (i + 1) (ys ++ v ∷ []) xs
filled_one p i v ys xs e h =
    let low : p + i ≤ length xs = omega arith in
    let high : p + (i + 1) ≤ length xs = omega arith in
    let one = length_spliced p i ys xs low in
    let two = length_spliced p (i + 1) (ys ++ v ∷ []) xs high in
    let l : length (ys ++ v ∷ []) ≡ length ys + 1 = length-append ys (v ∷ []) in
    let both : length (spliced p i ys xs) ≡ length (spliced p (i + 1) (ys ++ v ∷ []) xs) = omega arith in
    same_lists _ _ (length-set _ _ _ ∙ both)
    (λ k d t. grind (arith, places, get_or-set_same, get_or-set_other, length-set, spliced_below, spliced_new, spliced_behind, cases_eq k (p + i)))

pub filled_more : (p i : ℕ) (new xs : List ℕ) → i < length new → p + i < length xs
    → set (spliced p i (map entry (take i new)) xs) (p + i) (entry (get_or new i 0)) ≡ spliced p (i + 1) (map entry (take (i + 1) new)) xs
filled_more p i new xs g h =
    filled_one p i (entry (get_or new i 0)) (map entry (take i new)) xs (simp (length-map, length-take) (omega arith)) h
    ∙ ap (λ ys. spliced p (i + 1) ys xs) (sym (ap (map entry) (take_more new i 0 g) ∙ map-append entry (take i new) (get_or new i 0 ∷ [])))

-- all are
pub filled_all : (p i : ℕ) (new xs : List ℕ) → i ≡ length new → spliced p i (map entry (take i new)) xs ≡ spliced p (length new) (map entry new) xs
filled_all p i new xs e = rw (e, take_all (length new) new (omega arith))

-- the whole list of entries after a splice
module _ (c p q n : ℕ) (new xs : List ℕ) (e : length new ≡ n) (s : Splices (length xs) c p q n) where
  pub length-edited : length (edited c p q new xs) ≡ length xs
  unfolding edited spliced
  length-edited = simp (length-append, length-take, length-drop, e) (omega (arith, s.there, s.held, s.fits))

  pub edited-below : (k d : ℕ) → k < p → get_or (edited c p q new xs) k d ≡ get_or xs k d
  unfolding edited spliced
  edited-below k d g = grind (arith, places, s.there, s.held, s.fits)

  pub edited_new : (k d : ℕ) → p ≤ k → k < p + n → get_or (edited c p q new xs) k d ≡ get_or new (k - p) d
  unfolding edited spliced
  edited_new k d g l = grind (arith, places, s.there, s.held, s.fits)

  pub edited-moved : (k d : ℕ) → p + n ≤ k → k < c - q + n → get_or (edited c p q new xs) k d ≡ get_or xs (p + q + (k - (p + n))) d
  unfolding edited spliced
  edited-moved k d g l = grind (arith, places, s.there, s.held, s.fits)

  pub edited_behind : (k d : ℕ) → c - q + n ≤ k → get_or (edited c p q new xs) k d ≡ get_or xs k d
  unfolding edited spliced
  edited_behind k d g = grind (arith, places, s.there, s.held, s.fits)

-- room made, and new ones filled in
pub splice_is : (c p q n : ℕ) (new xs : List ℕ) → length new ≡ n → Splices (length xs) c p q n
    → spliced p n new (copied (p + q) (c - (p + q)) (p + n) xs) ≡ edited c p q new xs
splice_is c p q n new xs e s =
    let there = s.there in let held = s.held in let fits = s.fits in
    let low : p + q + (c - (p + q)) ≤ length xs = omega arith in
    let high : p + n + (c - (p + q)) ≤ length xs = omega arith in
    let same = length-copied (p + q) (c - (p + q)) (p + n) xs low high in
    let in-it : p + n ≤ length (copied (p + q) (c - (p + q)) (p + n) xs) = omega arith in
    let one = length_spliced p n new (copied (p + q) (c - (p + q)) (p + n) xs) in-it in
    let two = length-edited c p q n new xs e s in
    let both : length (spliced p n new (copied (p + q) (c - (p + q)) (p + n) xs)) ≡ length (edited c p q new xs) = omega arith in
    same_lists _ _ both
    (λ k d t. grind (arith, spliced_below, spliced_new, spliced_behind, copied_outside, copied-within, edited-below c p q n new xs e s k d, edited_new c p q n new xs e s k d, edited-moved c p q n new xs e s k d, edited_behind c p q n new xs e s k d))

-- room made, and a copy of entries before it put there
pub before_is : (c p q n x : ℕ) (xs : List ℕ) → Splices (length xs) c p q n → x + n ≤ p
    → copied x n p (copied (p + q) (c - (p + q)) (p + n) xs) ≡ edited c p q (take n (drop x xs)) xs
before_is c p q n x xs s h =
    let there = s.there in let held = s.held in let fits = s.fits in
    let low : p + q + (c - (p + q)) ≤ length xs = omega arith in
    let high : p + n + (c - (p + q)) ≤ length xs = omega arith in
    let same = length-copied (p + q) (c - (p + q)) (p + n) xs low high in
    let low₁ : x + n ≤ length (copied (p + q) (c - (p + q)) (p + n) xs) = omega arith in
    let high₁ : p + n ≤ length (copied (p + q) (c - (p + q)) (p + n) xs) = omega arith in
    let one = length-copied x n p (copied (p + q) (c - (p + q)) (p + n) xs) low₁ high₁ in
    let e : length (take n (drop x xs)) ≡ n = simp (length-take, length-drop) (omega arith) in
    let two = length-edited c p q n (take n (drop x xs)) xs e s in
    same_lists _ _ (one ∙ same ∙ sym two)
    (λ k d t. grind (arith, get_or-take, get_or-drop, copied_outside, copied-within, edited-below c p q n (take n (drop x xs)) xs e s k d, edited_new c p q n (take n (drop x xs)) xs e s k d, edited-moved c p q n (take n (drop x xs)) xs e s k d, edited_behind c p q n (take n (drop x xs)) xs e s k d))

-- the same for entries behind it, which moved
pub behind_is : (c p q n x : ℕ) (xs : List ℕ) → Splices (length xs) c p q n → p + q ≤ x → x + n ≤ c
    → copied (x - q + n) n p (copied (p + q) (c - (p + q)) (p + n) xs) ≡ edited c p q (take n (drop x xs)) xs
behind_is c p q n x xs s h g =
    let there = s.there in let held = s.held in let fits = s.fits in
    let low : p + q + (c - (p + q)) ≤ length xs = omega arith in
    let high : p + n + (c - (p + q)) ≤ length xs = omega arith in
    let same = length-copied (p + q) (c - (p + q)) (p + n) xs low high in
    let low₁ : x - q + n + n ≤ length (copied (p + q) (c - (p + q)) (p + n) xs) = omega arith in
    let high₁ : p + n ≤ length (copied (p + q) (c - (p + q)) (p + n) xs) = omega arith in
    let one = length-copied (x - q + n) n p (copied (p + q) (c - (p + q)) (p + n) xs) low₁ high₁ in
    let e : length (take n (drop x xs)) ≡ n = simp (length-take, length-drop) (omega arith) in
    let two = length-edited c p q n (take n (drop x xs)) xs e s in
    same_lists _ _ (one ∙ same ∙ sym two)
    (λ k d t. grind (arith, get_or-take, get_or-drop, copied_outside, copied-within, edited-below c p q n (take n (drop x xs)) xs e s k d, edited_new c p q n (take n (drop x xs)) xs e s k d, edited-moved c p q n (take n (drop x xs)) xs e s k d, edited_behind c p q n (take n (drop x xs)) xs e s k d))

-- how many entries are in use after a splice
pub spliced_long : (c p q n : ℕ) (new xs : List ℕ) → length new ≡ n → Splices (length xs) c p q n → length (spliced p q new (take c xs)) ≡ c - q + n
spliced_long c p q n new xs e s =
    let there = s.there in let held = s.held in
    let l : length (take c xs) ≡ c = length-take-le c xs held in
    let in-it : p + q ≤ length (take c xs) = omega arith in
    let r = length_spliced p q new (take c xs) in-it in omega arith

-- what is in use then, and what is behind it
pub take-edited : (c p q n : ℕ) (new xs : List ℕ) → length new ≡ n → Splices (length xs) c p q n → take (c - q + n) (edited c p q new xs) ≡ spliced p q new (take c xs)
unfolding edited
take-edited c p q n new xs e s = take_at _ _ _ (spliced_long c p q n new xs e s)

pub drop-edited : (c p q n : ℕ) (new xs : List ℕ) → length new ≡ n → Splices (length xs) c p q n → drop (c - q + n) (edited c p q new xs) ≡ drop (c - q + n) xs
unfolding edited
drop-edited c p q n new xs e s =
    let l = spliced_long c p q n new xs e s in drop_at _ _ _ l ∙ ap (λ k. drop k xs) l

-- entries that stand there already
pub copied_same : (from n at : ℕ) (xs : List ℕ) → at ≡ from → xs ≡ copied from n at xs
unfolding copied
copied_same from n at xs e =
    sym (ap (λ a. take a xs ++ (take n (drop from xs) ++ drop (a + n) xs)) e
    ∙ ap (λ t. take from xs ++ (take n (drop from xs) ++ t)) (sym (drop-drop n from xs))
    ∙ ap (λ t. take from xs ++ t) (take-append-drop n (drop from xs)) ∙ take-append-drop from xs)
