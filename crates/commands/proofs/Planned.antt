-- A plan's splice and small numbers are what becomes of the directory and of the small numbers. Assumes nothing.
use Rattle.std.proofs.Common.{◌≡◌, ℕ, zero, suc, ◌+◌, ◌-◌, ◌≤◌, Bool, true, false, ◌&&◌, eqb, leb, ◌⊎◌, List, [], ◌∷◌, ◌++◌, length, take, drop, sym, refl, ap, ◌∙◌, subst, inl, inr, arith}
use Rattle.std.proofs.lemmas.List.{append-nil, append_assoc, length-append, length-take, length-drop, take_at, drop_at}
use Rattle.std.proofs.lemmas.Bool.{true≢false, and_parts, leb-true, eqb-true}
use Rattle.plain.specs.Command.{Deed, append, insert, change, delete, join, move, copy, mark, print, number, where_is, swap, go_to, undo, redo, save, edit, load, files, bad, Simple}
use Rattle.plain.specs.House.{File}
use Rattle.plain.proofs.Basics.{each_append, added_append}
use Rattle.plain.proofs.Moved.{split_three}
use Rattle.journal.specs.Log.{Source, no_entries, new_entries, copied, incoming, apply}
use Rattle.journal.specs.Small.{entry, small, pushed}
use Rattle.commands.specs.Kept.{Kept, line_size, lines_size, sum, stand_size, file_lines, directory, offset}
use Rattle.commands.specs.Resolve.{Checked, good, refused, then, check, Bounds, command_bounds, there}
use Rattle.commands.specs.Plan as plan
use Rattle.commands.specs.Plan.{entry_of, table, Slot, Plan, Walk, skip, measure, glue, Rows, text_plan, show_plan, say_plan, file_plan, decide, decide_deed, known, writable}
use Rattle.commands.specs.Turn as turn
use Rattle.commands.specs.Turn.{lines_given, name_given, given_of, sizes_of, slot_in, walked, updated_by, with_lines, with_file_at, kept_after, decision}
use Rattle.commands.specs.Smalls.{news_by, entry_size}
use Rattle.commands.specs.Held.{AsPlanned, Inside, PlansStand, SmallsWeigh}
use Rattle.commands.proofs.Lists.{each_take, each_drop, added_each, flat_append}
use Rattle.commands.proofs.Files.{file, There, Missing, looked, at_place, at_end}
use Rattle.commands.proofs.Brought.{offset_is, take-text, drop-text, again-text, around, again_file}
use Rattle.commands.proofs.Resolved.{Ordered, bounds-ordered}
use Rattle.commands.proofs.Filed.{or_parts}

pub directory-long : (k : Kept) → length (directory k) ≡ offset k.files + length k.text
directory-long k = length-append (file_lines k.files) k.text ∙ ap (λ n. n + length k.text) (offset_is k.files)

-- lines replaced in the text
pub text-entries : (fs : List File) (T C : List (List ℕ)) (a b : ℕ) → a ≤ b →
    file_lines fs ++ with_lines a b C T ≡ take (offset fs + a) (file_lines fs ++ T) ++ (C ++ drop ((offset fs + a) + (b - a)) (file_lines fs ++ T))
text-entries fs T C a b h =
    let e : (offset fs + a) + (b - a) ≡ offset fs + b = omega arith in
    sym (append_assoc (file_lines fs) (take a T) (C ++ drop b T))
    ∙ sym (let t = take-text fs T a in let d = ap (λ n. drop n (file_lines fs ++ T)) e ∙ drop-text fs T b in λ i. t i ++ (C ++ d i))

pub lines_long : (T C : List (List ℕ)) (a b : ℕ) → a ≤ b → b ≤ length T → length (with_lines a b C T) ≡ length T - (b - a) + length C
lines_long T C a b h l = simp (length-append, length-take, length-drop) (omega arith)

pub lines-weigh : (T C : List (List ℕ)) (a b : ℕ) → a ≤ b → lines_size (with_lines a b C T) ≡ lines_size T - lines_size (take (b - a) (drop a T)) + lines_size C
lines-weigh T C a b h =
    let P = take a T in
    let M = take (b - a) (drop a T) in
    let R = drop b T in
    let whole : lines_size T ≡ lines_size P + (lines_size M + lines_size R) =
    ap lines_size (sym (split_three a b T h)) ∙ added_append line_size P (M ++ R) ∙ ap (λ n. lines_size P + n) (added_append line_size M R) in
    let now : lines_size (P ++ (C ++ R)) ≡ lines_size P + (lines_size C + lines_size R) = added_append line_size P (C ++ R) ∙ ap (λ n. lines_size P + n) (added_append line_size C R) in
    omega (arith, whole, now)

module _ (k : Kept) (d : Deed) where
  pub text_planned : (w : Walk) (a b : ℕ) (s : Source) (came at : ℕ) (rows : Rows) → a ≤ b → b ≤ length k.text →
      length (incoming s (directory k) (turn.put_lines w (take (b - a) (drop a k.text)) (lines_given d))) ≡ came → Inside (length (directory k)) s →
      AsPlanned k (text_plan (sizes_of k) w a b s came at rows) d
  unfolding apply updated_by news_by
  text_planned w a b s came at rows ab bn long inside =
      let T = k.text in
      let C = incoming s (directory k) (turn.put_lines w (take (b - a) (drop a T)) (lines_given d)) in
      let n : length (with_lines a b C T) ≡ length T - (b - a) + came = lines_long T C a b ab bn ∙ ap (λ m. length T - (b - a) + m) long in
      let m = lines-weigh T C a b ab in
      record {
        entries = text-entries k.files T C a b ab;
        numbers = λ i. small (n i) at (m i) (pushed k.ring (stand_size (length T) a b (lines_size (take (b - a) (drop a T))) came)) (table k.files);
        coming = long;
        below = ab;
        there = bn;
        goes = omega (arith, directory-long k);
        comes = inside;
      }

  pub show_planned : (w : Walk) (a b : ℕ) → a ≤ b → b ≤ length k.text → AsPlanned k (show_plan (sizes_of k) w a b) d
  unfolding apply updated_by news_by
  show_planned w a b ab bn = record { entries = refl; numbers = refl; coming = refl; below = ab; there = bn; goes = omega arith; comes = refl }

  pub say_planned : (rows : Rows) → AsPlanned k (say_plan (sizes_of k) rows) d
  unfolding apply updated_by news_by
  say_planned rows = record { entries = refl; numbers = refl; coming = refl; below = omega arith; there = omega arith; goes = omega arith; comes = refl }

-- a file put in its place
pub table_put : (i : ℕ) (f : File) (fs : List File) → table (with_file_at i f fs) ≡ take i (table fs) ++ (entry_of f ∷ drop (suc i) (table fs))
table_put i f fs =
    each_append entry_of (take i fs) (f ∷ drop (suc i) fs)
    ∙ (let a = each_take entry_of i fs in let b = each_drop entry_of (suc i) fs in λ j. a j ++ (entry_of f ∷ b j))

pub file_entries : (fs : List File) (T C : List (List ℕ)) (n : List ℕ) (x : Slot) → (There n fs x 0 0 ⊎ Missing n fs x 0 0) →
    file_lines (with_file_at x.place (file n C) fs) ++ T ≡ take x.before (file_lines fs ++ T) ++ (C ++ drop (x.before + x.lines) (file_lines fs ++ T))
file_entries fs T C n x (inl t) =
    let P = t.P in
    let f = t.f in
    let R = t.R in
    let at : x.place ≡ length P = ap (λ z. z.place) t.slot ∙ (omega arith) in
    let from : x.before ≡ offset P = ap (λ z. z.before) t.slot ∙ (omega arith) in
    let long : x.lines ≡ length f.lines = ap (λ z. z.lines) t.slot in
    let D : file_lines fs ++ T ≡ file_lines P ++ (f.lines ++ (file_lines R ++ T)) = ap (λ z. file_lines z ++ T) t.split ∙ around P f R T in
    let new : with_file_at x.place (file n C) fs ≡ P ++ (file n C ∷ R) = (let e = t.split in λ i. with_file_at (at i) (file n C) (e i)) ∙ at_place P f (file n C) R in
    let len : length (file_lines P) ≡ x.before = offset_is P ∙ sym from in
    let front : take x.before (file_lines fs ++ T) ≡ file_lines P = ap (take x.before) D ∙ take_at (file_lines P) _ x.before len in
    let len₂ : length (file_lines P ++ f.lines) ≡ x.before + x.lines = length-append (file_lines P) f.lines ∙ (let l = sym long in λ i. len i + l i) in
    let back : drop (x.before + x.lines) (file_lines fs ++ T) ≡ file_lines R ++ T =
    ap (drop (x.before + x.lines)) (D ∙ sym (append_assoc (file_lines P) f.lines (file_lines R ++ T))) ∙ drop_at (file_lines P ++ f.lines) (file_lines R ++ T) (x.before + x.lines) len₂ in
    ap (λ z. file_lines z ++ T) new ∙ around P (file n C) R T ∙ sym (λ i. front i ++ (C ++ back i))
file_entries fs T C n x (inr t) =
    let at : x.place ≡ length fs = ap (λ z. z.place) t.slot ∙ (omega arith) in
    let from : x.before ≡ offset fs + 0 = ap (λ z. z.before) t.slot ∙ (omega arith) in
    let long : x.before + x.lines ≡ offset fs + 0 = (let a = from in let b = ap (λ z. z.lines) t.slot in λ i. a i + b i) ∙ (omega arith) in
    let new : with_file_at x.place (file n C) fs ≡ fs ++ (file n C ∷ []) = ap (λ z. with_file_at z (file n C) fs) at ∙ at_end fs (file n C) in
    let front : take x.before (file_lines fs ++ T) ≡ file_lines fs = ap (λ m. take m (file_lines fs ++ T)) from ∙ take-text fs T 0 ∙ append-nil (file_lines fs) in
    let back : drop (x.before + x.lines) (file_lines fs ++ T) ≡ T = ap (λ m. drop m (file_lines fs ++ T)) long ∙ drop-text fs T 0 in
    ap (λ z. file_lines z ++ T) new
    ∙ ap (λ z. z ++ T) (flat_append (λ f. f.lines) fs (file n C ∷ []) ∙ ap (λ z. file_lines fs ++ z) (append-nil C))
    ∙ append_assoc (file_lines fs) C T
    ∙ sym (λ i. front i ++ (C ++ back i))

pub slot_inside : (fs : List File) (n : List ℕ) (x : Slot) → (There n fs x 0 0 ⊎ Missing n fs x 0 0) → x.before + x.lines ≤ offset fs
slot_inside fs n x (inl t) =
    let from : x.before ≡ offset t.P = ap (λ z. z.before) t.slot ∙ (omega arith) in
    let long : x.lines ≡ length t.f.lines = ap (λ z. z.lines) t.slot in
    let all : offset fs ≡ offset t.P + (length t.f.lines + offset t.R) = ap offset t.split ∙ added_append (λ f. length f.lines) t.P (t.f ∷ t.R) in
    omega (arith, from, long, all)
slot_inside fs n x (inr t) =
    let from : x.before ≡ offset fs = ap (λ z. z.before) t.slot ∙ (omega arith) in
    let long : x.lines ≡ 0 = ap (λ z. z.lines) t.slot in
    omega (arith, from, long)

module _ (k : Kept) (n : List ℕ) where
  pub file_planned : (a b : ℕ) → a ≤ b → b ≤ length k.text → AsPlanned k (file_plan (sizes_of k) (slot_in k n) a b) (save n)
  unfolding apply updated_by news_by name_given
  file_planned a b ab bn =
      let x = slot_in k n in
      let o = offset k.files in
      let C = take ((o + b) - (o + a)) (drop (o + a) (directory k)) in
      let long : length C ≡ b - a = ap length (again-text k a b) ∙ simp (length-take, length-drop) (omega arith) in
      let l = looked n k.files 0 0 in
      let t : table (with_file_at x.place (file n C) k.files) ≡ take x.place (table k.files) ++ (entry n (b - a) (lines_size C) ∷ drop (suc x.place) (table k.files)) =
      table_put x.place (file n C) k.files ∙ ap (λ m. take x.place (table k.files) ++ (entry n m (lines_size C) ∷ drop (suc x.place) (table k.files))) long in
      let dl = directory-long k in
      record {
        entries = file_entries k.files k.text C n x l;
        numbers = λ i. small (length k.text) k.at (lines_size k.text) k.ring (t i);
        coming = long;
        below = ab;
        there = bn;
        goes = omega (arith, slot_inside k.files n x l);
        comes = (omega arith, omega arith);
      }

-- EVERY DECISION
abbrev AllPlanned : Kept → Deed → Checked Plan → Type 0
AllPlanned k d (good p) = AsPlanned k p d
AllPlanned k d (refused n) = zero ≡ zero

module _ (k : Kept) where
  check_planned : (d : Deed) (t : Bool) (n : ℕ) (p : Plan) → (t ≡ true → AsPlanned k p d) → AllPlanned k d (check t n (good p))
  check_planned d true n p h = h refl
  check_planned d false n p h = refl

  short_planned : (d : Deed) (t : Bool) (x : Checked Plan) → AllPlanned k d x → AllPlanned k d (check t 7 x)
  short_planned d true x h = h
  short_planned d false x h = refl

  then_planned : (d : Deed) (r : Checked Bounds) (f : Bounds → Checked Plan) → Ordered r → ((b : Bounds) → b.first ≤ suc b.last → AllPlanned k d (f b)) → AllPlanned k d (then r f)
  then_planned d (good b) f o h = h b o
  then_planned d (refused n) f o h = refl

  record Spans (b : Bounds) : Type 0 where
    one : 1 ≤ b.first
    order : b.first ≤ b.last
    there : b.last ≤ length k.text

  spans : (b : Bounds) → there (length k.text) b ≡ true → Spans b
  spans b e =
      let p = and_parts (leb 1 b.first && leb b.first b.last) (leb b.last (length k.text)) e in
      let q = and_parts (leb 1 b.first) (leb b.first b.last) p.0 in
      record { one = leb-true _ _ q.0; order = leb-true _ _ q.1; there = leb-true _ _ p.1 }

  written_spans : (b : Bounds) → b.first ≤ suc b.last → writable (length k.text) b ≡ true → (b.first - 1 ≤ b.last) × (b.last ≤ length k.text)
  written_spans b o e =
      elim (or_parts (there (length k.text) b) (eqb (length k.text) 0 && eqb b.last 0) e) [
        | inl t ↦ (let s = spans b t in let x = s.order in let y = s.there in (omega arith, y))
        | inr t ↦ (let q = and_parts (eqb (length k.text) 0) (eqb b.last 0) t in let x = eqb-true _ _ q.1 in (omega arith, omega arith))
      ]

  edit_planned : (n : List ℕ) → (There n k.files (slot_in k n) 0 0 ⊎ Missing n k.files (slot_in k n) 0 0) → (slot_in k n).found ≡ true → AsPlanned k (plan.edit_plan (sizes_of k) (slot_in k n)) (edit n)
  edit_planned n (inl t) e =
      let x = slot_in k n in
      let from : x.before ≡ offset t.P = ap (λ z. z.before) t.slot ∙ (omega arith) in
      let long : x.lines ≡ length t.f.lines = ap (λ z. z.lines) t.slot in
      let came : take ((x.before + x.lines) - x.before) (drop x.before (directory k)) ≡ t.f.lines =
      ap (λ m. take ((x.before + m) - x.before) (drop x.before (directory k))) long ∙ again_file k t.P t.f t.R x.before t.split from in
      let dl = directory-long k in
      let si = slot_inside k.files n x (inl t) in
      text_planned k (edit n) skip 0 (length k.text) (copied x.before (x.before + x.lines)) x.lines x.lines (plan.a_number x.lines) (omega arith) (omega arith) (ap length came ∙ sym long) (omega arith, omega arith)
  edit_planned n (inr t) e = absurd (true≢false (sym e ∙ ap (λ z. z.found) t.slot))

  pub deed_planned : (d : Deed) (r : Checked Bounds) → Ordered r → AllPlanned k d (decide_deed (sizes_of k) (slot_in k (name_given d)) (given_of d) r d)
  unfolding decide_deed lines_given name_given turn.put_lines
  deed_planned (append ls) r o =
      then_planned (append ls) r _ o (λ b h. short_planned (append ls) _ _ (check_planned (append ls) (leb b.last (length k.text)) 4 _ (λ e. (let l = leb-true b.last (length k.text) e in
      text_planned k (append ls) skip b.last b.last new_entries (length ls) (b.last + length ls) plan.no_row (omega arith) l refl refl))))
  deed_planned (insert ls) r o =
      then_planned (insert ls) r _ o (λ b h. short_planned (insert ls) _ _ (check_planned (insert ls) (leb b.last (length k.text)) 4 _ (λ e. (let l = leb-true b.last (length k.text) e in
      text_planned k (insert ls) skip (b.last - 1) (b.last - 1) new_entries (length ls) _ plan.no_row (omega arith) (omega arith) refl refl))))
  deed_planned (change ls) r o =
      then_planned (change ls) r _ o (λ b h. short_planned (change ls) _ _ (check_planned (change ls) (there (length k.text) b) 4 _ (λ e. (let s = spans b e in let x = s.order in
      text_planned k (change ls) measure (b.first - 1) b.last new_entries (length ls) _ plan.no_row (omega arith) s.there refl refl))))
  deed_planned delete r o =
      then_planned delete r _ o (λ b h. check_planned delete (there (length k.text) b) 4 _ (λ e. (let s = spans b e in let x = s.order in
      text_planned k delete measure (b.first - 1) b.last no_entries 0 _ plan.no_row (omega arith) s.there refl refl)))
  deed_planned join r o =
      then_planned join r _ o (λ b h. check_planned join (there (length k.text) b) 4 _ (λ e. (let s = spans b e in let x = s.order in
      text_planned k join glue (b.first - 1) b.last new_entries 1 _ plan.no_row (omega arith) s.there refl refl)))
  deed_planned (move a) r o = refl
  deed_planned (copy a) r o = refl
  deed_planned (mark c) r o = refl
  deed_planned print r o = then_planned print r _ o (λ b h. check_planned print (there (length k.text) b) 4 _ (λ e. (let s = spans b e in let x = s.order in show_planned k print plan.show (b.first - 1) b.last (omega arith) s.there)))
  deed_planned number r o = then_planned number r _ o (λ b h. check_planned number (there (length k.text) b) 4 _ (λ e. (let s = spans b e in let x = s.order in show_planned k number plan.show_numbered (b.first - 1) b.last (omega arith) s.there)))
  deed_planned where_is r o = then_planned where_is r _ o (λ b h. check_planned where_is (leb b.last (length k.text)) 4 _ (λ e. say_planned k where_is (plan.a_number b.last)))
  deed_planned (swap p q i) r o = refl
  deed_planned go_to r o =
      then_planned go_to r _ o (λ b h. check_planned go_to (leb 1 b.last && leb b.last (length k.text)) 4 _ (λ e. (let p = and_parts (leb 1 b.last) (leb b.last (length k.text)) e in show_planned k go_to plan.show (b.last - 1) b.last (omega arith) (leb-true _ _ p.1))))
  deed_planned undo r o = refl
  deed_planned redo r o = refl
  deed_planned (save n) r o =
      short_planned (save n) _ _ (then_planned (save n) r _ o (λ b h. check_planned (save n) (writable (length k.text) b) 4 _ (λ e. (let s = written_spans b h e in file_planned k n (b.first - 1) b.last s.0 s.1))))
  deed_planned (edit n) r o = check_planned (edit n) _ 3 _ (λ e. edit_planned n (looked n k.files 0 0) e)
  deed_planned (load n) r o = refl
  deed_planned files r o = say_planned k files plan.all_files
  deed_planned bad r o = refl

  known_planned : (d : Deed) (t : Bool) (x : Checked Plan) → AllPlanned k d x → AllPlanned k d (check t 2 x)
  known_planned d true x h = h
  known_planned d false x h = refl

  pub simple_planned : (c : Simple) → AllPlanned k c.deed (decision k c)
  unfolding decide
  simple_planned c = known_planned c.deed (known c) _ (deed_planned c.deed (command_bounds (length k.text) k.at c) (bounds-ordered (length k.text) k.at c))

pub plans_stand : PlansStand
unfolding PlansStand
plans_stand k c p e = subst (λ x. AllPlanned k c.deed x) e (simple_planned k c)

pub smalls_weigh : SmallsWeigh
unfolding SmallsWeigh
smalls_weigh k = ap (λ n. lines_size k.text + sum k.ring + n) (sym (added_each entry_size entry_of k.files))
