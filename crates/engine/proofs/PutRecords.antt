-- The records of a command: how many there are, that they fit a page and are read back, and where its lines lie. Assumes nothing.
use Rattle.std.proofs.Common.{◌≡◌, ℕ, zero, suc, ◌+◌, ◌-◌, ◌<◌, ◌≤◌, true, List, [], ◌∷◌, ◌++◌, map, length, take, drop, refl, ap, ◌∙◌, subst, inl, inr, arith, length-append}
use lib.ListN.{length-map}
use Rattle.std.proofs.lemmas.Bool.{and_parts}
use Rattle.plain.specs.Device.{Page}
use Rattle.plain.proofs.Basics.{In, in_left, in_right, in_cases}
use Rattle.journal.specs.Log.{Position, Splice, Rec, commit, Source, no_entries, new_entries, copied, incoming, apply, pieces_of, parts, line_records, block, positions, command_records, head_of}
use Rattle.journal.specs.Small.{News}
use Rattle.records.specs.Pages.{page_of}
use Rattle.journal.proofs.Replay.{length-parts}
use Rattle.journal.proofs.Through.{length-positions}
use Rattle.commands.specs.Kept.{fit_line, fit_lines}
use Rattle.engine.specs.Packing.{records_of, lines_records, pieces_from, packed, packs}
use Rattle.engine.specs.Fits.{SpliceFits, NewsFits, RecordFits, PositionsFit, none, more}
use Rattle.engine.proofs.Facts.{Codec}
use Rattle.engine.proofs.Pieces.{records_few, packed-long, piece-fits}

-- HOW MANY
line-count : (l : List ℕ) → length {A = Rec News} (line_records (packed l)) ≡ records_of (length l)
line-count l = ap suc (length-parts News 1 (packed l).more) ∙ packed-long l

pub block-count : (ls : List (List ℕ)) → length (block {K = News} (packs ls)) ≡ lines_records ls
unfolding block
block-count [] = refl
block-count (l ∷ ls) =
    length-append {A = Rec News} (line_records (packed l)) (block (packs ls)) ∙ (let a = line-count l in let b = block-count ls in omega (arith, a, b))

pub command-count : (ls : List (List ℕ)) (c : Splice) (u : News) → length (command_records (packs ls) c u) ≡ suc (lines_records ls)
command-count ls c u = length-append {A = Rec News} (block (packs ls)) (commit c u ∷ []) ∙ (let b = block-count ls in omega (arith, b))

-- THEY FIT
-- a record of a command's lines, or its commit
pub record Belongs (r : Rec News) : Type 0 where
  pub fits : RecordFits r
  pub no_head : head_of r ≡ 0

abbrev pub AllBelong : List (Rec News) → Type 0
AllBelong rs = (r : Rec News) → In r rs → Belongs r

belong_parts : (l : List ℕ) (j n : ℕ) → j + n ≤ 3 → fit_line l ≡ true → AllBelong (parts j (pieces_from l j n))
unfolding parts pieces_from
belong_parts l j zero h f r i = absurd i
belong_parts l j (suc n) h f r (inl e) = subst Belongs e (record { fits = (omega arith, piece-fits l j f); no_head = refl })
belong_parts l j (suc n) h f r (inr i) = belong_parts l (suc j) n (omega arith) f r i

belong_line : (l : List ℕ) → fit_line l ≡ true → AllBelong (line_records (packed l))
belong_line l f r (inl e) = subst Belongs e (record { fits = (omega arith, piece-fits l 0 f); no_head = refl })
belong_line l f r (inr i) = belong_parts l 1 (records_of (length l) - 1) (let q = (records_few (length l)).1 in omega arith) f r i

belong_block : (ls : List (List ℕ)) → fit_lines ls ≡ true → AllBelong (block (packs ls))
unfolding block
belong_block [] f r i = absurd i
belong_block (l ∷ ls) f r i =
    let q = and_parts (fit_line l) (fit_lines ls) f in
    elim (in_cases r (line_records (packed l)) (block (packs ls)) i) [ inl a ↦ belong_line l q.0 r a | inr a ↦ belong_block ls q.1 r a ]

belong_commit : (c : Splice) (u : News) → SpliceFits c → NewsFits u → AllBelong (commit c u ∷ [])
belong_commit c u a b r (inl e) = subst Belongs e (record { fits = (a, b); no_head = refl })
belong_commit c u a b r (inr i) = absurd i

pub command_belongs : (ls : List (List ℕ)) (c : Splice) (u : News) → fit_lines ls ≡ true → SpliceFits c → NewsFits u → AllBelong (command_records (packs ls) c u)
command_belongs ls c u f a b r i =
    elim (in_cases r (block (packs ls)) (commit c u ∷ []) i) [ inl h ↦ belong_block ls f r h | inr h ↦ belong_commit c u a b r h ]

-- the first so many of them
pub first_belong : (P Q : List (Rec News)) {rs : List (Rec News)} → P ++ Q ≡ rs → AllBelong rs → AllBelong P
first_belong P Q e h r i = h r (subst (λ z. In r z) e (in_left r P Q i))

pub next_belongs : (P : List (Rec News)) (r : Rec News) (Q : List (Rec News)) {rs : List (Rec News)} → P ++ r ∷ Q ≡ rs → AllBelong rs → Belongs r
next_belongs P r Q e h = h r (subst (λ z. In r z) e (in_right r P (r ∷ Q) (inl refl)))

-- AS PAGES
abbrev pub pages : List (Rec News) → List Page
pages rs = map page_of rs

pub pages_read : (codec : Codec) (rs : List (Rec News)) → AllBelong rs → map codec.reading (pages rs) ≡ rs
pages_read codec [] h = refl
pages_read codec (r ∷ rs) h =
    let a = codec.reads r (h r (inl refl)).fits in let b = pages_read codec rs (λ q i. h q (inr i)) in ap (λ z. z ∷ map codec.reading (pages rs)) a ∙ ap (λ z. r ∷ z) b

-- WHERE THE LINES LIE
pub fit_left : (xs ys : List Position) → PositionsFit (xs ++ ys) → PositionsFit xs
fit_left [] ys h = none
fit_left (x ∷ xs) ys (more p h) = more p (fit_left xs ys h)

pub fit_append : {xs ys : List Position} → PositionsFit xs → PositionsFit ys → PositionsFit (xs ++ ys)
fit_append none k = k
fit_append (more p h) k = more p (fit_append h k)

pub fit_take : (n : ℕ) {xs : List Position} → PositionsFit xs → PositionsFit (take n xs)
fit_take zero h = none
fit_take (suc n) none = none
fit_take (suc n) (more p h) = more p (fit_take n h)

pub fit_drop : (n : ℕ) {xs : List Position} → PositionsFit xs → PositionsFit (drop n xs)
fit_drop zero h = h
fit_drop (suc n) none = none
fit_drop (suc n) (more p h) = fit_drop n h

fit_incoming : (s : Source) {D P : List Position} → PositionsFit D → PositionsFit P → PositionsFit (incoming s D P)
fit_incoming no_entries d p = none
fit_incoming new_entries d p = p
fit_incoming (copied a b) d p = fit_take (b - a) (fit_drop a d)

pub fit_apply : (c : Splice) {D P : List Position} → PositionsFit D → PositionsFit P → PositionsFit (apply c D P)
unfolding apply
fit_apply c d p = fit_append (fit_take c.from d) (fit_append (fit_incoming c.source d p) (fit_drop (c.from + c.gone) d))

pub positions_fit : (t m : ℕ) (ls : List (List ℕ)) → t < 2 → m + lines_records ls ≤ 1048576 → PositionsFit (positions t m (packs ls))
unfolding positions
positions_fit t m [] s h = none
positions_fit t m (l ∷ ls) s h =
    let e = packed-long l in let q = (records_few (length l)).0 in
    more (record { tape = s; at = omega arith }) (positions_fit t (m + length (pieces_of (packed l))) ls s (omega (arith, e)))

pub positions-count : (t m : ℕ) (ls : List (List ℕ)) → length (positions t m (packs ls)) ≡ length ls
positions-count t m ls = length-positions t m (packs ls) ∙ length-map ls packed
