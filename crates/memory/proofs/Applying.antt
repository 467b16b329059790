-- What a splice of the directory in the memory means. Assumes nothing.
use Rattle.std.proofs.Common.{◌≡◌, ℕ, ◌+◌, ◌-◌, ◌≤◌, Bool, true, false, leb, List, [], ◌∷◌, ◌++◌, map, length, take, drop, sym, refl, ap, ◌∙◌, subst, inl, inr, arith}
use Rattle.std.proofs.lemmas.List.{length-take, length-drop, length-map, map-append, take-map, drop-map, take-take, take_at, drop-take}
use Rattle.std.proofs.lemmas.Bool.{and_parts, leb-true}
use Rattle.plain.specs.Pattern.{pick}
use Rattle.journal.specs.Log.{Source, no_entries, new_entries, copied, splice, apply}
use Rattle.lines.specs.Slots.{with_slots}
use Rattle.lines.specs.Moves.{spliced, edited, Splices, Duplicates}
use Rattle.lines.proofs.Splices.{length_spliced, length-edited}
use Rattle.lines.proofs.Words as words
use Rattle.memory.specs.Sections.{words_in, cells_in, entries_in, with_entries, high, pending_entries, can_splice, can_put, can_copy, with_splice, pending_spliced, nothing_spliced, copied_spliced}
use Rattle.memory.specs.Abstract.{position_of, pending_at, dir_of, pending_of}
use Rattle.memory.specs.Commit.{can_by, came_by, spliced_by}
use Rattle.memory.proofs.Frames.{BesideDir, beside_words}
use Rattle.memory.proofs.Entries.{Whole, whole-slots, whole-high, whole_take, whole_drop, whole-edited}
use Rattle.memory.proofs.Splicing.{words_long, cells_long, entries-long, entries_with, can_there, copy-there}
use Rattle.memory.proofs.Committing.{pick_yes}

-- entries spliced, as positions
opened : (c p q : ℕ) (new xs : List ℕ) → edited c p q new xs ≡ spliced p q new (take c xs) ++ drop (length (spliced p q new (take c xs))) xs
unfolding edited
opened c p q new xs = refl

parts : (p q : ℕ) (new t : List ℕ) → map position_of (spliced p q new t) ≡ take p (map position_of t) ++ (map position_of new ++ drop (p + q) (map position_of t))
unfolding spliced
parts p q new t =
    map-append position_of (take p t) (new ++ drop (p + q) t)
    ∙ (λ i. sym (take-map position_of p t) i ++ map-append position_of new (drop (p + q) t) i)
    ∙ ap (λ u. take p (map position_of t) ++ (map position_of new ++ u)) (sym (drop-map position_of (p + q) t))

pub splice_means : (c p q n : ℕ) (new m : List ℕ) → length m ≡ 262144 → length new ≡ n → Whole new → Splices 524289 c p q n
    → dir_of (c - q + n) (with_splice c p q new m) ≡ take p (dir_of c m) ++ (map position_of new ++ drop (p + q) (dir_of c m))
unfolding dir_of with_splice
splice_means c p q n new m h ln wn s =
    let le = entries-long m h in
    let sp : Splices (length (entries_in m)) c p q n = subst (λ j. Splices j c p q n) (sym le) s in
    let there = s.there in let held = s.held in let fits = s.fits in
    let xs = entries_in m in
    let lt : length (take c xs) ≡ c = length-take c xs ∙ omega arith in
    let front : List ℕ = spliced p q new (take c xs) in
    let lf : length front ≡ c - q + n = length_spliced p q new (take c xs) (omega arith) ∙ omega arith in
    let all = entries_with m (edited c p q new xs) h (length-edited c p q n new xs ln sp ∙ le) (whole-edited c p q new xs wn (whole-slots (words_in m))) in
    ap (λ t. map position_of (take (c - q + n) t)) (all ∙ opened c p q new xs)
    ∙ ap (map position_of) (take_at front (drop (length front) xs) (c - q + n) lf)
    ∙ parts p q new (take c xs)

-- of each source
positions_in : (cs : List ℕ) → map position_of (map high cs) ≡ map pending_at cs
positions_in [] = refl
positions_in (c ∷ cs) = ap (λ t. pending_at c ∷ t) (positions_in cs)

pub pending_means : (k : ℕ) (m : List ℕ) → map position_of (pending_entries k m) ≡ pending_of k m
unfolding pending_entries pending_of
pending_means k m = positions_in (take k (cells_in m))

pending-long : (k : ℕ) (m : List ℕ) → length m ≡ 262144 → k ≤ 65536 → length (pending_entries k m) ≡ k
unfolding pending_entries
pending-long k m h g = let l = cells_long m h in length-map _ _ ∙ length-take k (cells_in m) ∙ omega arith

pending-whole : (k : ℕ) (m : List ℕ) → Whole (pending_entries k m)
unfolding pending_entries
pending-whole k m = whole-high (take k (cells_in m))

copied-within : (c p q x y : ℕ) → Duplicates 524289 c p q x y → y ≤ c
copied-within c p q x y d =
    let there = d.splices.there in elim d.apart [ inl a ↦ omega arith | inr a ↦ a.1 ]

copied_means : (c x y : ℕ) (m : List ℕ) → x ≤ y → y ≤ c → map position_of (take (y - x) (drop x (entries_in m))) ≡ take (y - x) (drop x (dir_of c m))
unfolding dir_of
copied_means c x y m h g =
    let e : x + (c - x) ≡ c = omega arith in
    let xs = entries_in m in
    let inner : drop x (take c xs) ≡ take (c - x) (drop x xs) = ap (λ n. drop x (take n xs)) (sym e) ∙ drop-take x (c - x) xs in
    sym (ap (take (y - x)) (drop-map position_of x (take c xs)) ∙ take-map position_of (y - x) (drop x (take c xs))
    ∙ ap (λ t. map position_of (take (y - x) t)) inner ∙ ap (map position_of) (take-take (y - x) (c - x) (drop x xs) (omega arith)))

pub spliced_means : (s : Source) (c p q k : ℕ) (m : List ℕ) → length m ≡ 262144 → can_by s c p q k ≡ true
    → dir_of (c - q + came_by s k) (spliced_by s c p q k m) ≡ apply (splice p q s) (dir_of c m) (pending_of k m)
unfolding apply nothing_spliced pending_spliced copied_spliced
spliced_means no_entries c p q k m h e =
    ap (dir_of (c - q + 0)) (pick_yes (can_splice c p q 0) (with_splice c p q [] m) m e)
    ∙ splice_means c p q 0 [] m h refl refl (can_there c p q 0 e)
spliced_means new_entries c p q k m h e =
    let a = and_parts (leb k 65536) (can_splice c p q k) e in
    ap (dir_of (c - q + k)) (pick_yes (can_put c p q k) (with_splice c p q (pending_entries k m) m) m e)
    ∙ splice_means c p q k (pending_entries k m) m h (pending-long k m h (leb-true k 65536 a.0)) (pending-whole k m) (can_there c p q k a.1)
    ∙ ap (λ t. take p (dir_of c m) ++ (t ++ drop (p + q) (dir_of c m))) (pending_means k m)
spliced_means (copied x y) c p q k m h e =
    let d = copy-there c p q x y e in
    let yc = copied-within c p q x y d in
    let held = d.splices.held in
    let order = d.ordered in
    let le = entries-long m h in
    let new = take (y - x) (drop x (entries_in m)) in
    let ln : length new ≡ y - x = length-take (y - x) (drop x (entries_in m)) ∙ simp length-drop (omega arith) in
    ap (dir_of (c - q + (y - x))) (pick_yes (can_copy c p q x y) (with_splice c p q new m) m e)
    ∙ splice_means c p q (y - x) new m h ln (whole_take (y - x) (drop x (entries_in m)) (whole_drop x (entries_in m) (whole-slots (words_in m)))) d.splices
    ∙ ap (λ t. take p (dir_of c m) ++ (t ++ drop (p + q) (dir_of c m))) (copied_means c x y m order yc)

-- nothing else is changed
same_beside : (m : List ℕ) → BesideDir m m
same_beside m = record { pending = λ n. refl; ring = λ n. refl; files = λ n. refl; text = λ n. refl; name = λ n. refl }

pick-beside : (b : Bool) (m x : List ℕ) → BesideDir m x → BesideDir m (pick b x m)
pick-beside true m x h = h
pick-beside false m x h = same_beside m

splice_beside : (c p q : ℕ) (new m : List ℕ) → length m ≡ 262144 → BesideDir m (with_splice c p q new m)
unfolding with_splice with_entries
splice_beside c p q new m h =
    beside_words m (with_slots (words_in m) (edited c p q new (entries_in m))) h (words.length_with (words_in m) (edited c p q new (entries_in m)) ∙ words_long m h)

pub beside_spliced : (s : Source) (c p q k : ℕ) (m : List ℕ) → length m ≡ 262144 → BesideDir m (spliced_by s c p q k m)
unfolding nothing_spliced pending_spliced copied_spliced
beside_spliced no_entries c p q k m h = pick-beside (can_splice c p q 0) m _ (splice_beside c p q [] m h)
beside_spliced new_entries c p q k m h = pick-beside (can_put c p q k) m _ (splice_beside c p q (pending_entries k m) m h)
beside_spliced (copied x y) c p q k m h = pick-beside (can_copy c p q x y) m _ (splice_beside c p q (take (y - x) (drop x (entries_in m))) m h)
