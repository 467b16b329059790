-- The walk, case by case, and what it reads. Assumes nothing.
use Rattle.std.proofs.Common.{◌≡◌, ℕ, zero, suc, ◌+◌, ◌-◌, ◌/◌, ◌%◌, ◌<◌, ◌≤◌, Bool, true, false, ◌&&◌, ltb, List, [], ◌∷◌, ◌++◌, map, length, get_or, take, drop, sym, refl, ap, ◌∙◌, append_assoc, arith}
use Rattle.std.proofs.lemmas.Bool.{and_parts, ltb-true}
use Rattle.std.proofs.lemmas.List.{length-append, drop-drop, take_at, drop_at, take_all, drop_all, append-nil}
use Rattle.memory.proofs.Texting.{text-long}
use Rattle.plain.specs.Pattern.{pick, every, eight, in_bytes}
use Rattle.plain.specs.Device.{Page}
use Rattle.journal.specs.Log.{Piece}
use Rattle.commands.specs.Code.{walk_as}
use Rattle.engine.specs.Machine.{walks}
use Rattle.lines.proofs.Words.{slots_small}
use Rattle.memory.specs.declared.directory.Position.{Position}
use Rattle.memory.specs.declared.registers.Registers.{Registers}
use Rattle.memory.specs.Abstract.{text_of}
use Rattle.memory.specs.Sections.{low, cells_in, words_in, entries_in, entry_at}
use Rattle.commits.specs.Acts.{Made, made}
use Rattle.commits.specs.Rows.{refuses}
use Rattle.compaction.specs.Carry.{piece_of_page}
use Rattle.commits.specs.Setters.{in_phase}
use Rattle.commands.specs.declared.plan.Walk.{Walk}
use Rattle.memory.specs.declared.phase.Phase.TheVariants.{RowShown}
use Rattle.plain.specs.Run.{shows}
use Rattle.execution.specs.Walk.{weigh, fetch, lines_then, walk_on, line_past, bytes_then, joined_memory, next_part, more_parts, row_of, show_piece, too_long, glue_piece, fetched_by, fetched}

-- ENTRIES
small_at : (n i : ℕ) (xs : List ℕ) → every (λ x. ltb x 2097152) xs ≡ true → get_or (take n xs) i 0 < 2097152
small_at zero i xs h = omega arith
small_at (suc n) i [] h = omega arith
small_at (suc n) zero (x ∷ xs) h = ltb-true x 2097152 (and_parts (ltb x 2097152) (every (λ y. ltb y 2097152) xs) h).0
small_at (suc n) (suc i) (x ∷ xs) h = small_at n i xs (and_parts (ltb x 2097152) (every (λ y. ltb y 2097152) xs) h).1

pub entry-tape : (n i : ℕ) (m : List ℕ) (p : Position) → p ≡ entry_at n i m → p.tape < 2
unfolding entry_at
entry-tape n i m p e =
    let s = small_at n i (entries_in m) (slots_small (words_in m)) in
    let q : p.tape ≡ get_or (take n (entries_in m)) i 0 / 1048576 = ap (λ x. x.tape) e in
    omega arith

pub entry_record : (n i : ℕ) (m : List ℕ) (p : Position) → p ≡ entry_at n i m → p.at < 1048576
unfolding entry_at
entry_record n i m p e = let q : p.at ≡ get_or (take n (entries_in m)) i 0 % 1048576 = ap (λ x. x.at) e in omega arith

-- ROWS
pub text-laid : (kept : ℕ) (m row x bs y : List ℕ) → length m ≡ 262144 → kept ≤ 65536 → x ≡ map low (take kept (cells_in m)) ++ drop kept row → y ≡ bs
    → take kept x ++ (y ++ drop (kept + length bs - kept) (drop kept x)) ≡ (text_of kept m ++ bs) ++ drop (kept + length bs) row
unfolding text_of
text-laid kept m row x bs y h g e f =
    let t = text_of kept m in
    let n : length t ≡ kept = text-long kept m h g in
    let k : kept + length bs - kept ≡ length bs = omega arith in
    (λ i. take kept (e i) ++ (f i ++ drop (k i) (drop kept (e i))))
    ∙ (λ i. take_at t (drop kept row) kept n i ++ (bs ++ drop (length bs) (drop_at t (drop kept row) kept n i)))
    ∙ ap (λ u. t ++ (bs ++ u)) (drop-drop (length bs) kept row) ∙ sym (append_assoc t bs (drop (kept + length bs) row))

pub row_laid : (kept n : ℕ) (t bs out e l : List ℕ) → length e ≡ 8 → 8 ≤ length out → n ≡ length (e ++ drop 8 out) - 8
    → l ≡ (t ++ bs) ++ drop (kept + length bs) (take n (drop 8 (e ++ drop 8 out)))
    → take 8 (e ++ drop 8 out) ++ (l ++ drop n (drop 8 (e ++ drop 8 out))) ≡ (e ++ (t ++ bs)) ++ drop (8 + (kept + length bs)) out
row_laid kept n t bs out e l h g k q =
    let rest = drop 8 out in
    let long = length-append e rest in
    let from : drop 8 (e ++ rest) ≡ rest = drop_at e rest 8 h in
    let all : take n rest ≡ rest = take_all n rest (omega arith) in
    let none : drop n rest ≡ [] = drop_all n rest (omega arith) in
    let line : l ≡ (t ++ bs) ++ drop (8 + (kept + length bs)) out =
    q ∙ ap (λ u. (t ++ bs) ++ drop (kept + length bs) u) (ap (take n) from ∙ all) ∙ ap (λ u. (t ++ bs) ++ u) (drop-drop (kept + length bs) 8 out) in
    (λ i. take_at e rest 8 h i ++ (line i ++ (ap (drop n) from ∙ none) i)) ∙ ap (λ u. e ++ u) (append-nil ((t ++ bs) ++ drop (8 + (kept + length bs)) out))
    ∙ sym (append_assoc e (t ++ bs) (drop (8 + (kept + length bs)) out))

pub eight-long : (n : ℕ) → length (eight n) ≡ 8
unfolding in_bytes
eight-long n = refl

pub row-long : (kept : ℕ) (m bs : List ℕ) → length m ≡ 262144 → kept ≤ 65536 → length (text_of kept m ++ bs) ≡ kept + length bs
row-long kept m bs h g = length-append (text_of kept m) bs ∙ ap (λ n. n + length bs) (text-long kept m h g)

-- CASES
module _ (r : Registers) (m : List ℕ) where
  abbrev more : Bool
  more = walks (walk_as r.job.plan.walk) && ltb r.walking.line r.job.plan.span.upto

  pub walk_further : true ≡ more → fetch r m ≡ walk_on r m
  unfolding walk_on
  walk_further e = ap (λ b. pick b (fetch r m) (weigh (lines_then r.job.plan.walk r) m)) e

  pub walk-ended : false ≡ more → weigh (lines_then r.job.plan.walk r) m ≡ walk_on r m
  unfolding walk_on
  walk-ended e = ap (λ b. pick b (fetch r m) (weigh (lines_then r.job.plan.walk r) m)) e

module _ (b : Piece) (r : Registers) (m : List ℕ) where
  abbrev row_shown : Bool → Made
  row_shown numbered = made (in_phase RowShown (line_past b.long 0 r)) m (shows (row_of numbered b r m))

  pub show-more : (numbered : Bool) → true ≡ more_parts b r → fetch (next_part b r) (joined_memory b r m) ≡ show_piece numbered b r m
  unfolding show_piece
  show-more numbered e = ap (λ t. pick t (fetch (next_part b r) (joined_memory b r m)) (row_shown numbered)) e

  pub show_last : (numbered : Bool) → false ≡ more_parts b r → row_shown numbered ≡ show_piece numbered b r m
  unfolding show_piece
  show_last numbered e = ap (λ t. pick t (fetch (next_part b r) (joined_memory b r m)) (row_shown numbered)) e

  abbrev glue-short : Made
  glue-short = pick (more_parts b r) (fetch (next_part b r) (joined_memory b r m)) (walk_on (line_past b.long (bytes_then b r) r) (joined_memory b r m))

  pub glue-long : true ≡ too_long b r → refuses 7 r m ≡ glue_piece b r m
  unfolding glue_piece
  glue-long e = ap (λ t. pick t (refuses 7 r m) glue-short) e

  pub glue-more : false ≡ too_long b r → true ≡ more_parts b r → fetch (next_part b r) (joined_memory b r m) ≡ glue_piece b r m
  unfolding glue_piece
  glue-more e f =
      ap (λ t. pick t (fetch (next_part b r) (joined_memory b r m)) (walk_on (line_past b.long (bytes_then b r) r) (joined_memory b r m))) f
      ∙ ap (λ t. pick t (refuses 7 r m) glue-short) e

  pub glue_last : false ≡ too_long b r → false ≡ more_parts b r → walk_on (line_past b.long (bytes_then b r) r) (joined_memory b r m) ≡ glue_piece b r m
  unfolding glue_piece
  glue_last e f =
      ap (λ t. pick t (fetch (next_part b r) (joined_memory b r m)) (walk_on (line_past b.long (bytes_then b r) r) (joined_memory b r m))) f
      ∙ ap (λ t. pick t (refuses 7 r m) glue-short) e

-- by what is done with each line
pub fetched_as : (w : Walk) (p : Page) (b : Piece) (r : Registers) (m : List ℕ) → r.job.plan.walk ≡ w → b ≡ piece_of_page p → fetched_by w b r m ≡ fetched p r m
unfolding fetched
fetched_as w p b r m e f = λ i. fetched_by (sym e i) (f i) r m
