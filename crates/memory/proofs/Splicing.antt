-- Splices of the directory in the memory. Assumes nothing.
use Rattle.std.proofs.Common.{◌≡◌, ℕ, ◌+◌, ◌-◌, ◌*◌, ◌/◌, ◌<◌, ◌≤◌, Bool, true, false, ◌&&◌, leb, List, [], ◌∷◌, ◌++◌, map, length, get_or, take, set, Some, None, Option, sym, refl, ap, ◌∙◌, subst, inl, inr, arith, lit≤}
use Rattle.std.proofs.lemmas.List.{length-take, length-map, map_more}
use Rattle.std.proofs.lemmas.Bool.{le-leb, leb-true, lt-leb, and_from, and_parts, both_ways}
use Rattle.plain.specs.Pattern.{pick, or}
use Rattle.plain.proofs.Basics.{or_true}
use Rattle.commands.specs.Code.{when}
use Rattle.lines.specs.Slots.{entry, slots, spares, with_slots}
use Rattle.lines.specs.Moves.{spliced, copied, edited, Splices, Duplicates}
use Rattle.lines.proofs.Packing.{length-slots}
use Rattle.lines.proofs.Words.{words_are, with_spares, length_with}
use Rattle.lines.proofs.Words as words
use Rattle.lines.proofs.Splices.{length_spliced, filled_none, filled_one, splice_is}
use Rattle.memory.specs.Sections.{words_in, cells_in, entries_in, with_words, with_entries, high, pending_entries, pending_filled, with_splice, can_splice, can_put, can_copy}
use Rattle.memory.proofs.Parted as parted
use Rattle.memory.proofs.Entries.{Whole, whole-slots, whole-high, whole_spliced, slots_with}

pub words_long : (m : List ℕ) → length m ≡ 262144 → length (words_in m) ≡ 174763
words_long m h = parted.length_part 70016 174763 m (omega arith)

pub cells_long : (m : List ℕ) → length m ≡ 262144 → length (cells_in m) ≡ 65536
cells_long m h = parted.length_part 4480 65536 m (omega arith)

pub entries-long : (m : List ℕ) → length m ≡ 262144 → length (entries_in m) ≡ 524289
entries-long m h = let l = words_long m h in length-slots (words_in m) ∙ ap (λ n. 3 * n) l

-- words with these entries, and the top bits of the memory's
pub entries_are : (m w xs : List ℕ) → slots w ≡ xs → spares w ≡ spares (words_in m) → with_words m w ≡ with_entries xs m
unfolding with_entries
entries_are m w xs e s = ap (with_words m) (words_are w (words_in m) xs e s)

pub same_entries : (m : List ℕ) → with_entries (entries_in m) m ≡ m
unfolding with_entries
same_entries m = ap (with_words m) (words.with_own (words_in m)) ∙ parted.with_own 70016 174763 m

-- CAN IT BE DONE
pub can_there : (c p q k : ℕ) → can_splice c p q k ≡ true → Splices 524289 c p q k
can_there c p q k h =
    let a = and_parts (leb (p + q) c) (leb c 524289 && leb (c - q + k) 524289) h in
    let b = and_parts (leb c 524289) (leb (c - q + k) 524289) a.1 in
    record { there = leb-true _ _ a.0; held = leb-true _ _ b.0; fits = leb-true _ _ b.1 }

pub there_can : (c p q k : ℕ) → Splices 524289 c p q k → can_splice c p q k ≡ true
there_can c p q k s = and_from _ _ (le-leb _ _ s.there) (and_from _ _ (le-leb _ _ s.held) (le-leb _ _ s.fits))

pub copy-there : (c p q x y : ℕ) → can_copy c p q x y ≡ true → Duplicates 524289 c p q x y
copy-there c p q x y h =
    let a = and_parts (leb x y) (can_splice c p q (y - x) && or (leb y p) (leb (p + q) x && leb y c)) h in
    let b = and_parts (can_splice c p q (y - x)) (or (leb y p) (leb (p + q) x && leb y c)) a.1 in
    record {
      splices = can_there c p q (y - x) b.0;
      ordered = leb-true _ _ a.0;
      apart = elim (or_true (leb y p) (leb (p + q) x && leb y c) b.1) [
        | inl e ↦ inl (leb-true _ _ e)
        | inr e ↦ inr (let d = and_parts (leb (p + q) x) (leb y c) e in (leb-true _ _ d.0, leb-true _ _ d.1))
      ];
    }

or_left : (a b : Bool) → a ≡ true → or a b ≡ true
or_left true b h = refl
or_left false b h = absurd (both_ways false refl h)

or_right : (a b : Bool) → b ≡ true → or a b ≡ true
or_right true b h = refl
or_right false b h = h

pub there-copy : (c p q x y : ℕ) → Duplicates 524289 c p q x y → can_copy c p q x y ≡ true
there-copy c p q x y s =
    and_from _ _ (le-leb _ _ s.ordered) (and_from _ _ (there_can c p q (y - x) s.splices)
    (elim s.apart [ inl h ↦ or_left (leb y p) _ (le-leb _ _ h) | inr h ↦ or_right (leb y p) _ (and_from _ _ (le-leb _ _ h.0) (le-leb _ _ h.1)) ]))

-- WHAT A CALL LEAVES: either it can be done, or all stays
pub record Left (b : Bool) (n : ℕ) (o : Option ℕ) (new m m₁ : List ℕ) : Type 0 where
  pub count : o ≡ when b n
  pub memory : m₁ ≡ pick b new m

left_by : (b : Bool) (P : Type 0) → (b ≡ true → P) → (P → b ≡ true) → (n : ℕ) (o : Option ℕ) (m w new xs : List ℕ)
    → (P → (o ≡ Some n) × (slots w ≡ xs)) → ((P → ⊥) → (o ≡ None) × (w ≡ words_in m)) → spares w ≡ spares (words_in m)
    → with_entries xs m ≡ new → Left b n o new m (with_words m w)
left_by true P f g n o m w new xs done refused spare e =
    let d = done (f refl) in record { count = d.0; memory = entries_are m w xs d.1 spare ∙ e }
left_by false P f g n o m w new xs done refused spare e =
    let r = refused (λ p. both_ways false refl (g p)) in
    record { count = r.0; memory = ap (with_words m) r.1 ∙ parted.with_own 70016 174763 m }

pub splice_left : (c p q k : ℕ) (o : Option ℕ) (m w xs new : List ℕ) → length m ≡ 262144
    → (Splices (length (entries_in m)) c p q k → (o ≡ Some (c - q + k)) × (slots w ≡ xs))
    → ((Splices (length (entries_in m)) c p q k → ⊥) → (o ≡ None) × (w ≡ words_in m)) → spares w ≡ spares (words_in m)
    → with_entries xs m ≡ new → Left (can_splice c p q k) (c - q + k) o new m (with_words m w)
splice_left c p q k o m w xs new h done refused spare e =
    let l = entries-long m h in
    left_by (can_splice c p q k) (Splices (length (entries_in m)) c p q k)
    (λ t. subst (λ n. Splices n c p q k) (sym l) (can_there c p q k t)) (λ s. there_can c p q k (subst (λ n. Splices n c p q k) l s))
    (c - q + k) o m w new xs done refused spare e

pub copy_left : (c p q x y : ℕ) (o : Option ℕ) (m w xs new : List ℕ) → length m ≡ 262144
    → (Duplicates (length (entries_in m)) c p q x y → (o ≡ Some (c - q + (y - x))) × (slots w ≡ xs))
    → ((Duplicates (length (entries_in m)) c p q x y → ⊥) → (o ≡ None) × (w ≡ words_in m)) → spares w ≡ spares (words_in m)
    → with_entries xs m ≡ new → Left (can_copy c p q x y) (c - q + (y - x)) o new m (with_words m w)
copy_left c p q x y o m w xs new h done refused spare e =
    let l = entries-long m h in
    left_by (can_copy c p q x y) (Duplicates (length (entries_in m)) c p q x y)
    (λ t. subst (λ n. Duplicates n c p q x y) (sym l) (copy-there c p q x y t)) (λ s. there-copy c p q x y (subst (λ n. Duplicates n c p q x y) l s))
    (c - q + (y - x)) o m w new xs done refused spare e

-- PENDING LINES filled in one by one
pub fill_none : (p : ℕ) (m : List ℕ) → length m ≡ 262144 → p ≤ 524289 → m ≡ pending_filled p 0 m
unfolding pending_filled pending_entries
fill_none p m h g =
    let l = entries-long m h in
    sym (ap (λ xs. with_entries xs m) (filled_none p [] (entries_in m) (omega arith)) ∙ same_entries m)

-- entries change nothing of the cells
cells_same : (m ws : List ℕ) → length m ≡ 262144 → cells_in (with_words m ws) ≡ cells_in m
cells_same m ws h = parted.part-before 70016 174763 m ws (omega arith) 4480 65536 (lit≤ tt)

-- what a memory with other entries has
module _ (m xs : List ℕ) (h : length m ≡ 262144) (l : length xs ≡ 524289) (w : Whole xs) where
  new_long : length (with_slots (words_in m) xs) ≡ 174763
  new_long = length_with (words_in m) xs ∙ words_long m h

  pub words_with : words_in (with_entries xs m) ≡ with_slots (words_in m) xs
  unfolding with_entries
  words_with = parted.part_with 70016 174763 m (with_slots (words_in m) xs) (omega arith) new_long

  pub entries_with : entries_in (with_entries xs m) ≡ xs
  entries_with = let k = words_long m h in ap slots words_with ∙ slots_with (words_in m) xs (omega arith) w

  pub spares_same : spares (words_in (with_entries xs m)) ≡ spares (words_in m)
  spares_same = ap spares words_with ∙ words.spares_with (words_in m) xs

  pub cells_with : cells_in (with_entries xs m) ≡ cells_in m
  unfolding with_entries
  cells_with = cells_same m (with_slots (words_in m) xs) h

  pub with_again : (ws : List ℕ) → with_words (with_entries xs m) ws ≡ with_words m ws
  unfolding with_entries
  with_again ws = parted.with_twice 70016 174763 m (with_slots (words_in m) xs) (omega arith) ws new_long

  pub long_with : length (with_entries xs m) ≡ 262144
  unfolding with_entries
  long_with = parted.length_with 70016 174763 m (with_slots (words_in m) xs) (omega arith) new_long ∙ h

-- one more
pub fill_one : (p i v : ℕ) (m n w : List ℕ) → length m ≡ 262144 → i < 65536 → p + i < 524289 → n ≡ pending_filled p i m
    → v ≡ get_or n (4480 + i) 0 / 256 → slots w ≡ set (entries_in n) (p + i) (entry v) → spares w ≡ spares (words_in n) → with_words n w ≡ pending_filled p (i + 1) m
unfolding pending_filled pending_entries
fill_one p i v m n w h g g₁ e ve se pe =
    let lc = cells_long m h in
    let le = entries-long m h in
    let ys : List ℕ = map high (take i (cells_in m)) in
    let ly : length ys ≡ i = length-map _ _ ∙ length-take i (cells_in m) ∙ omega arith in
    let xs : List ℕ = spliced p i ys (entries_in m) in
    let lx : length xs ≡ 524289 = length_spliced p i ys (entries_in m) (omega arith) ∙ omega arith in
    let wx : Whole xs = whole_spliced p i ys (entries_in m) (whole-high (take i (cells_in m))) (whole-slots (words_in m)) in
    let cell : get_or n (4480 + i) 0 ≡ get_or (cells_in m) i 0 =
    sym (parted.get_d_part 4480 65536 i 0 n g) ∙ ap (λ t. get_or (cells_in t) i 0) e ∙ ap (λ t. get_or t i 0) (cells_with m xs h lx wx) in
    let val : entry v ≡ high (get_or (cells_in m) i 0) = ap entry (ve ∙ ap (λ t. t / 256) cell) in
    let more : map high (take (i + 1) (cells_in m)) ≡ ys ++ entry v ∷ [] = map_more high (cells_in m) i 0 (omega arith) ∙ ap (λ t. ys ++ t ∷ []) (sym val) in
    let slots-are : slots w ≡ spliced p (i + 1) (map high (take (i + 1) (cells_in m))) (entries_in m) =
    se ∙ ap (λ t. set (entries_in t) (p + i) (entry v)) e ∙ ap (λ t. set t (p + i) (entry v)) (entries_with m xs h lx wx)
    ∙ filled_one p i (entry v) ys (entries_in m) ly (omega arith) ∙ ap (λ t. spliced p (i + 1) t (entries_in m)) (sym more) in
    ap (λ t. with_words t w) e ∙ with_again m xs h lx wx w
    ∙ entries_are m w _ slots-are (pe ∙ ap (λ t. spares (words_in t)) e ∙ spares_same m xs h lx wx)

-- ROOM MADE, AND PENDING LINES FILLED IN
pub room_can : (c p q k n : ℕ) (m : List ℕ) (P : Type 0) → length m ≡ 262144 → ((Splices (length (entries_in m)) c p q k → ⊥) → (◌≡◌ {A = Option ℕ} (Some n) None) × P)
    → Splices 524289 c p q k
room_can c p q k n m P h refused = by_cases (can_splice c p q k) refl
  where
    l : length (entries_in m) ≡ 524289
    l = entries-long m h

    by_cases : (b : Bool) → can_splice c p q k ≡ b → Splices 524289 c p q k
    by_cases true e = can_there c p q k e
    by_cases false e =
        let r = refused (λ s. both_ways (can_splice c p q k) e (there_can c p q k (subst (λ j. Splices j c p q k) l s))) in
        let z : ◌≡◌ {A = ℕ} 0 1 = ap (λ o. elim o [ Some x ↦ 0 | None ↦ 1 ]) r.0 in absurd (omega arith)

pub put_can : (c p q k : ℕ) → k ≤ 65536 → Splices 524289 c p q k → can_put c p q k ≡ true
put_can c p q k h s = and_from _ _ (le-leb _ _ h) (there_can c p q k s)

pub put_many : (c p q k : ℕ) → 65536 < k → can_put c p q k ≡ false
put_many c p q k h = ap (λ b. b && can_splice c p q k) (lt-leb k 65536 h)

pub put_small : (c p q k : ℕ) → k ≤ 65536 → can_put c p q k ≡ can_splice c p q k
put_small c p q k h = ap (λ b. b && can_splice c p q k) (le-leb k 65536 h)

-- nothing could be done
pub put_none : (c p q k : ℕ) (m w : List ℕ) → length m ≡ 262144 → k ≤ 65536
    → (Splices (length (entries_in m)) c p q k → (◌≡◌ {A = Option ℕ} None (Some (c - q + k))) × (slots w ≡ copied (p + q) (c - (p + q)) (p + k) (entries_in m)))
    → ((Splices (length (entries_in m)) c p q k → ⊥) → (◌≡◌ {A = Option ℕ} None None) × (w ≡ words_in m))
    → Left (can_put c p q k) (c - q + k) None (with_splice c p q (pending_entries k m) m) m (with_words m w)
put_none c p q k m w h g done refused = by_cases (can_splice c p q k) refl
  where
    l : length (entries_in m) ≡ 524289
    l = entries-long m h

    by_cases : (b : Bool) → can_splice c p q k ≡ b → Left (can_put c p q k) (c - q + k) None (with_splice c p q (pending_entries k m) m) m (with_words m w)
    by_cases true e =
        let d = done (subst (λ n. Splices n c p q k) (sym l) (can_there c p q k e)) in
        let z : ◌≡◌ {A = ℕ} 1 0 = ap (λ o. elim o [ Some x ↦ 0 | None ↦ 1 ]) d.0 in absurd (omega arith)
    by_cases false e =
        let r = refused (λ s. both_ways (can_splice c p q k) e (there_can c p q k (subst (λ j. Splices j c p q k) l s))) in
        rw (put_small c p q k g ∙ e) record { count = refl; memory = ap (with_words m) r.1 ∙ parted.with_own 70016 174763 m }

-- all is done
pub put_all : (c p q k n : ℕ) (m w m₂ : List ℕ) → length m ≡ 262144 → k ≤ 65536 → length w ≡ 174763
    → (Splices (length (entries_in m)) c p q k → (◌≡◌ {A = Option ℕ} (Some n) (Some (c - q + k))) × (slots w ≡ copied (p + q) (c - (p + q)) (p + k) (entries_in m)))
    → Splices 524289 c p q k → spares w ≡ spares (words_in m) → m₂ ≡ pending_filled p k (with_words m w)
    → Left (can_put c p q k) (c - q + k) (Some n) (with_splice c p q (pending_entries k m) m) m m₂
unfolding with_splice pending_filled pending_entries with_entries
put_all c p q k n m w m₂ h g lw done s spare e =
    let l = entries-long m h in
    let lc = cells_long m h in
    let sp : Splices (length (entries_in m)) c p q k = subst (λ j. Splices j c p q k) (sym l) s in
    let d = done sp in
    let new : List ℕ = map high (take k (cells_in m)) in
    let ln : length new ≡ k = length-map _ _ ∙ length-take k (cells_in m) ∙ omega arith in
    let ws : words_in (with_words m w) ≡ w = parted.part_with 70016 174763 m w (omega arith) lw in
    let cs : cells_in (with_words m w) ≡ cells_in m = cells_same m w h in
    let xs : spliced p k new (slots w) ≡ edited c p q new (entries_in m) = ap (spliced p k new) d.1 ∙ splice_is c p q k new (entries_in m) ln sp in
    rw (put_can c p q k g s) record {
      count = d.0;
      memory = e
          ∙ (λ i. with_words (with_words m w) (with_slots (ws i) (spliced p k (map high (take k (cs i))) (slots (ws i)))))
          ∙ parted.with_twice 70016 174763 m w (omega arith) (with_slots w (spliced p k new (slots w))) lw
          ∙ ap (λ t. with_words m (with_slots w t)) xs
          ∙ ap (with_words m) (with_spares w (words_in m) (edited c p q new (entries_in m)) spare);
    }
