-- Every function keeps the memory's length, and its numbers below 2^64, whatever the memory holds. Assumes nothing.
use Rattle.std.proofs.Common.{◌≡◌, ℕ, zero, suc, ◌+◌, ◌-◌, ◌*◌, ◌/◌, ◌%◌, ◌^◌, ◌<◌, ◌≤◌, Bool, true, false, ltb, leb, List, [], ◌∷◌, ◌++◌, map, length, get_or, take, drop, set, replicate, sym, refl, ap, ◌∙◌, subst, arith}
use Rattle.std.proofs.lemmas.List.{length-take, length-drop, length-append, length-map, length-replicate}
use Rattle.std.proofs.lemmas.Bool.{and_from, and_parts, lt-ltb, ltb-true, leb-true}
use Rattle.plain.specs.Pattern.{pick}
use Rattle.plain.specs.Device.{lesser}
use Rattle.plain.specs.Run.{all_small}
use Rattle.journal.specs.Log.{Source, no_entries, new_entries, copied, Splice}
use Rattle.journal.specs.Small.{Also, nothing_else, push, slot, News}
use Rattle.lines.specs.Slots as packed
use Rattle.lines.specs.Slots.{entry, slots, spares, with_slots}
use Rattle.lines.specs.Moves.{edited}
use Rattle.lines.proofs.Packing.{slots-stored, spares-stored}
use Rattle.lines.proofs.Words as words
use Rattle.memory.specs.declared.kept.Kept as numbers_kept
use Rattle.memory.specs.declared.directory.Position.{Position}
use Rattle.memory.specs.Numbers.{capped}
use Rattle.memory.specs.Registers.{part}
use Rattle.memory.specs.Sections.{ring_in, files_in, name_in, cells_in, words_in, packed_position, entries_in, with_entry, cleared, with_entries, low, with_low, pending_entries, with_pending, laid_low, can_splice, can_put, can_copy, with_splice, pending_spliced, nothing_spliced, copied_spliced, ring_pushed, with_weight, over, name_kept, file_numbers, with_file, can_file, file_set, extended}
use Rattle.memory.specs.Commit.{spliced_by, noted_by, can_apply, applied}
use Rattle.memory.proofs.Parted as parted
use Rattle.memory.proofs.Splicing.{words_long, cells_long}
use Rattle.memory.proofs.Texting.{length-laid}
use Rattle.memory.proofs.Steadiness.{Kept, small-number, small-append, small-take, small-drop, small-map, small-more, kept_same, kept_then, kept_pick, kept_set, kept-part}

-- by a test, with the test at hand
kept_if : (b : Bool) (m x : List ℕ) → (b ≡ true → Kept m x) → Kept m (pick b x m)
kept_if true m x h = h refl
kept_if false m x h = kept_same m

-- THE DIRECTORY
small-slots : (ws xs : List ℕ) → all_small ws ≡ true → all_small (with_slots ws xs) ≡ true
unfolding all_small
small-slots [] xs h = refl
small-slots (w ∷ ws) xs h =
    let a = and_parts (small-number w) (all_small ws) h in
    let hw = ltb-true w 18446744073709551616 a.0 in
    let fits : w / 2 ^ 63 * 2 ^ 63 + entry (get_or xs 0 0) + entry (get_or xs 1 0) * 2 ^ 21 + entry (get_or xs 2 0) * 2 ^ 42 < 18446744073709551616 = omega arith in
    and_from _ _ (lt-ltb _ 18446744073709551616 fits) (small-slots ws (drop 3 xs) a.1)

kept-slots : (ws xs : List ℕ) → Kept ws (with_slots ws xs)
kept-slots ws xs = record { long = words.length_with ws xs; small = small-slots ws xs }

pub kept-entries : (xs m : List ℕ) → length m ≡ 262144 → Kept m (with_entries xs m)
unfolding with_entries
kept-entries xs m h = kept-part 70016 174763 m (with_slots (words_in m) xs) (omega arith) (kept-slots (words_in m) xs)

pub kept_entry : (i : ℕ) (p : Position) (m : List ℕ) → length m ≡ 262144 → Kept m (with_entry i p m)
unfolding with_entry
kept_entry i p m h =
    let v = packed_position p.tape p.at in
    let e : packed.stored (words_in m) i v ≡ with_slots (words_in m) (set (entries_in m) i (v % 2 ^ 21)) =
    words.words_are (packed.stored (words_in m) i v) (words_in m) (set (entries_in m) i (v % 2 ^ 21)) (slots-stored (words_in m) i v) (spares-stored (words_in m) i v) in
    kept-part 70016 174763 m (packed.stored (words_in m) i v) (omega arith)
    (subst (Kept (words_in m)) (sym e) (kept-slots (words_in m) (set (entries_in m) i (v % 2 ^ 21))))

small-zero : (k : ℕ) → all_small (replicate k 0) ≡ true
unfolding all_small
small-zero zero = refl
small-zero (suc k) = small-zero k

pub kept-cleared : (m : List ℕ) → length m ≡ 262144 → Kept m (cleared m)
unfolding cleared
kept-cleared m h =
    kept-part 70016 174763 m (replicate 174763 0) (omega arith)
    record { long = length-replicate {A = ℕ} 174763 0 ∙ sym (words_long m h); small = λ s. small-zero 174763 }

kept-splice : (c p q : ℕ) (new m : List ℕ) → length m ≡ 262144 → Kept m (with_splice c p q new m)
unfolding with_splice
kept-splice c p q new m h = kept-entries (edited c p q new (entries_in m)) m h

pub kept_spliced : (s : Source) (c p q k : ℕ) (m : List ℕ) → length m ≡ 262144 → Kept m (spliced_by s c p q k m)
unfolding nothing_spliced pending_spliced copied_spliced
kept_spliced no_entries c p q k m h = kept_if (can_splice c p q 0) m _ (λ t. kept-splice c p q [] m h)
kept_spliced new_entries c p q k m h = kept_if (can_put c p q k) m _ (λ t. kept-splice c p q (pending_entries k m) m h)
kept_spliced (copied x y) c p q k m h = kept_if (can_copy c p q x y) m _ (λ t. kept-splice c p q (take (y - x) (drop x (entries_in m))) m h)

-- CELLS
pub kept-pending : (j : ℕ) (p : Position) (m : List ℕ) → length m ≡ 262144 → Kept m (with_pending j p m)
unfolding with_pending
kept-pending j p m h = kept-part 4480 65536 m _ (omega arith) (kept_set (cells_in m) j _ (omega arith))

small-laid : (bs cs : List ℕ) → all_small cs ≡ true → all_small (laid_low bs cs) ≡ true
unfolding all_small laid_low
small-laid [] cs h = h
small-laid (b ∷ bs) [] h = refl
small-laid (b ∷ bs) (c ∷ cs) h =
    let a = and_parts (small-number c) (all_small cs) h in
    let hc = ltb-true c 18446744073709551616 a.0 in
    let fits : with_low c b < 18446744073709551616 = omega arith in
    and_from _ _ (lt-ltb (with_low c b) 18446744073709551616 fits) (small-laid bs cs a.1)

pub kept-extended : (at : ℕ) (bs m : List ℕ) → length m ≡ 262144 → Kept m (extended at bs m)
unfolding extended
kept-extended at bs m h =
    kept_if (leb (at + length bs) 65536) m _ (λ t.
    let l = cells_long m h in
    let g = leb-true (at + length bs) 65536 t in
    let cs = cells_in m in
    kept-part 4480 65536 m (take at cs ++ laid_low bs (drop at cs)) (omega arith)
    record {
      long = length-append (take at cs) (laid_low bs (drop at cs)) ∙ ap (λ n. length (take at cs) + n) (length-laid bs (drop at cs)) ∙ simp (length-take, length-drop) (omega arith);
      small = λ s. small-append (take at cs) (laid_low bs (drop at cs)) (small-take at cs s) (small-laid bs (drop at cs) (small-drop at cs s));
    })

-- THE SMALL STATE
kept-pushed : (n w : ℕ) (s : List ℕ) → length s ≡ 64 → Kept s (ring_pushed n w s)
kept-pushed n w s h =
    kept_pick (ltb n 64) s (set s n (capped w)) (drop 1 s ++ capped w ∷ []) (kept_set s n (capped w) (omega arith))
    record {
      long = length-append (drop 1 s) (capped w ∷ []) ∙ simp length-drop (omega arith);
      small = λ q. small-append (drop 1 s) (capped w ∷ []) (small-drop 1 s q) (small-more (capped w) [] (omega arith) (small-map capped (λ x. omega arith) []));
    }

pub kept_weight : (n w : ℕ) (m : List ℕ) → length m ≡ 262144 → Kept m (with_weight n w m)
unfolding with_weight
kept_weight n w m h = kept-part 64 64 m (ring_pushed n w (ring_in m)) (omega arith) (kept-pushed n w (ring_in m) (parted.length_part 64 64 m (omega arith)))

kept-over : (bs s : List ℕ) → length bs ≤ length s → Kept s (over bs s)
kept-over bs s h =
    record {
      long = length-append (map low bs) (drop (length bs) s) ∙ simp (length-map, length-drop) (omega arith);
      small = λ q. small-append (map low bs) (drop (length bs) s) (small-map low (λ x. omega arith) bs) (small-drop (length bs) s q);
    }

pub kept-name : (bs m : List ℕ) → length m ≡ 262144 → Kept m (name_kept bs m)
unfolding name_kept
kept-name bs m h =
    kept_if (leb (length bs) 64) m _ (λ t.
    let l = parted.length_part 4416 64 m (omega arith) in
    let g = leb-true (length bs) 64 t in
    kept-part 4416 64 m (over bs (name_in m)) (omega arith) (kept-over bs (name_in m) (omega arith)))

kept_numbers : (bs : List ℕ) (lines size : ℕ) (old : List ℕ) → length old ≡ 67 → length bs ≤ 64 → Kept old (file_numbers bs lines size old)
kept_numbers bs lines size old h g =
    let d : length (drop 3 old) ≡ 64 = length-drop 3 old ∙ omega arith in
    let k = kept-over bs (drop 3 old) (omega arith) in
    record {
      long = ap (λ n. suc (suc (suc n))) k.long ∙ omega arith;
      small = λ q. small-more (length bs) _ (omega arith) (small-more (capped lines) _ (omega arith) (small-more (capped size) _ (omega arith) (k.small (small-drop 3 old q))));
    }

pub kept_file : (n i : ℕ) (bs : List ℕ) (lines size : ℕ) (m : List ℕ) → length m ≡ 262144 → Kept m (file_set n i bs lines size m)
unfolding file_set with_file
kept_file n i bs lines size m h =
    kept_if (can_file n i (length bs)) m _ (λ t.
    let a = and_parts (ltb (lesser i n) 64) (leb (length bs) 64) t in
    let g = ltb-true (lesser i n) 64 a.0 in
    let gn = leb-true (length bs) 64 a.1 in
    let l = parted.length_part 128 4288 m (omega arith) in
    kept-part 128 4288 m _ (omega arith) (kept-part (67 * lesser i n) 67 (files_in m) _ (omega arith)
    (kept_numbers bs lines size (part (67 * lesser i n) 67 (files_in m)) (parted.length_part (67 * lesser i n) 67 (files_in m) (omega arith)) gn)))

-- A COMMIT
pub kept-noted : (a : Also) (ring files : ℕ) (m : List ℕ) → length m ≡ 262144 → Kept m (noted_by a ring files m)
kept-noted nothing_else ring files m h = kept_same m
kept-noted (push w) ring files m h = kept_weight ring w m h
kept-noted (slot i e) ring files m h = kept_file files i e.name e.lines e.size m h

pub kept-applied : (k : numbers_kept.Kept) (c : Splice) (u : News) (m : List ℕ) → length m ≡ 262144 → Kept m (applied k c u m)
unfolding applied
kept-applied k c u m h =
    kept_if (can_apply k c u) m _ (λ t.
    let s = kept_spliced c.source k.entries c.from c.gone k.pending m h in
    kept_then s (kept-noted u.also k.ring k.files _ (s.long ∙ h)))
