-- A refused command changes nothing; one that shows changes no line. Assumes nothing.
use Rattle.std.proofs.Common.{◌≡◌, ℕ, zero, ◌<◌, Bool, true, false, not, ◌&&◌, eqb, ltb, leb, List, [], ◌∷◌, length, refl, ◌∙◌, arith}
use Rattle.std.proofs.lemmas.Bool.{true≢false}
use Rattle.plain.specs.Pattern.{pick, or, none_of, Pattern, pattern_of}
use Rattle.plain.specs.Command.{Deed, append, insert, change, delete, join, move, copy, mark, print, number, where_is, swap, go_to, undo, redo, save, edit, load, files, bad, Simple, plain, all_lines}
use Rattle.plain.specs.House.{Line, Stand, Plain, Turn, turn, simple_turn, Both, where_of, range_at, real, can_write, no, finished, undo_turn, redo_turn, file_of, file_work, Work, worked, at_line, start_work, deed_work, simple_work, for_one, is_go, on_with, goes_on, many_work, for_all, noted, lines_from, place_of, changes, how_many, meant}
use Rattle.plain.specs.Promise.{AllOrNone, ShownSame, changing, stands, stands_deed}

-- what holds of both, holds of what is picked
pub pick_at : {A : Type 0} (P : A → Type 0) (t : Bool) (x y : A) → P x → P y → P (pick t x y)
pick_at P true x y p q = p
pick_at P false x y p q = q

pub record Keeps (w : Plain) (t : Turn) : Type 0 where
  pub stays : 0 < t.reply → t.next ≡ w

pub no_keeps : (k : ℕ) (w : Plain) → Keeps w (no k w)
no_keeps k w = record { stays = λ h. refl }

-- a reply of 0 is no refusal
pub never : {A : Type 0} → 0 < zero → A
never h = absurd (omega arith)

pub finished_keeps : (w : Plain) (c : Bool) (v : Work) → Keeps w (finished w c v)
finished_keeps w c v = pick_at (Keeps w) (eqb v.fails 0) _ _ (record { stays = never }) (no_keeps v.fails w)

pub undo_keeps : (w : Plain) (ss : List Stand) → Keeps w (undo_turn w ss)
undo_keeps w [] = no_keeps 9 w
undo_keeps w (s ∷ ss) = record { stays = never }

pub redo_keeps : (w : Plain) (ss : List Stand) → Keeps w (redo_turn w ss)
redo_keeps w [] = no_keeps 9 w
redo_keeps w (s ∷ ss) = record { stays = never }

pub simple_keeps : (w : Plain) (b : Both) (d : Deed) (v : Work) → Keeps w (simple_turn w b d v)
unfolding simple_turn
simple_keeps w b (append ls) v = finished_keeps w true v
simple_keeps w b (insert ls) v = finished_keeps w true v
simple_keeps w b (change ls) v = finished_keeps w true v
simple_keeps w b delete v = finished_keeps w true v
simple_keeps w b join v = finished_keeps w true v
simple_keeps w b (move a) v = finished_keeps w true v
simple_keeps w b (copy a) v = finished_keeps w true v
simple_keeps w b (mark c) v = finished_keeps w false v
simple_keeps w b print v = finished_keeps w false v
simple_keeps w b number v = finished_keeps w false v
simple_keeps w b where_is v = finished_keeps w false v
simple_keeps w b (swap p r k) v = finished_keeps w true v
simple_keeps w b go_to v = finished_keeps w false v
simple_keeps w b undo v = undo_keeps w w.before
simple_keeps w b redo v = redo_keeps w w.undone
simple_keeps w b (save n) v =
    pick_at (Keeps w) (or (not (none_of (file_of w n))) (ltb (length w.kept) 64)) _ _
    (pick_at (Keeps w) (eqb b.fails 0) _ _ (pick_at (Keeps w) (can_write w.now b) _ _ (record { stays = never }) (no_keeps 4 w)) (no_keeps b.fails w))
    (no_keeps 7 w)
simple_keeps w b (edit n) v = finished_keeps w true _
simple_keeps w b (load n) v =
    pick_at (Keeps w) (eqb b.fails 0) _ _ (finished_keeps w true (file_work (start_work w) (file_of w n) (λ f. deed_work (start_work w) b (append f.lines)))) (no_keeps b.fails w)
simple_keeps w b files v = record { stays = never }
simple_keeps w b bad v = no_keeps 1 w

pub all_or_none : AllOrNone
unfolding AllOrNone turn
all_or_none w (plain c) = (simple_keeps w _ c.deed _).stays
all_or_none w (all_lines r like p c) =
    let b : Both = range_at w.now w.pattern r 1 (how_many w.now) in
    let k : Keeps w (turn w (all_lines r like p c)) =
    pick_at (Keeps w) (eqb b.fails 0) _ _
    (pick_at (Keeps w) (real w.now b) _ _
    (pick_at (Keeps w) (none_of (meant b.pattern p)) _ _ (no_keeps 10 w)
    (finished_keeps w (changes c.deed) (for_all (start_work w) b like (meant b.pattern p) c (pattern_of (meant b.pattern p)))))
    (no_keeps 4 w))
    (no_keeps b.fails w) in
    k.stays

-- lines that stay
abbrev pub HasLines : List Line → Work → Type 0
HasLines ls v = v.stand.lines ≡ ls

pub deed-lines : (w : Work) (b : Both) (d : Deed) → changes d ≡ false → HasLines w.stand.lines (deed_work w b d)
unfolding deed_work changes
deed-lines w b (append ls) e = absurd (true≢false e)
deed-lines w b (insert ls) e = absurd (true≢false e)
deed-lines w b (change ls) e = absurd (true≢false e)
deed-lines w b delete e = absurd (true≢false e)
deed-lines w b join e = absurd (true≢false e)
deed-lines w b (move a) e = absurd (true≢false e)
deed-lines w b (copy a) e = absurd (true≢false e)
deed-lines w b (mark c) e = pick_at (HasLines w.stand.lines) (real w.stand b) _ _ refl refl
deed-lines w b print e = pick_at (HasLines w.stand.lines) (real w.stand b) _ _ refl refl
deed-lines w b number e = pick_at (HasLines w.stand.lines) (real w.stand b) _ _ refl refl
deed-lines w b where_is e = pick_at (HasLines w.stand.lines) (leb b.to (how_many w.stand)) _ _ refl refl
deed-lines w b (swap p r k) e = absurd (true≢false e)
deed-lines w b go_to e = pick_at (HasLines w.stand.lines) (leb 1 b.to && leb b.to (how_many w.stand)) _ _ refl refl
deed-lines w b undo e = refl
deed-lines w b redo e = refl
deed-lines w b (save n) e = refl
deed-lines w b (edit n) e = absurd (true≢false e)
deed-lines w b (load n) e = absurd (true≢false e)
deed-lines w b files e = refl
deed-lines w b bad e = refl

pub simple-lines : (w : Work) (c : Simple) → changes c.deed ≡ false → HasLines w.stand.lines (simple_work w c)
simple-lines w c e =
    let b : Both = where_of w.stand w.pattern c in
    pick_at (HasLines w.stand.lines) (eqb b.fails 0) _ _ (deed-lines w b c.deed e) refl

pub for_one-shows : (c : Simple) → changes c.deed ≡ false → changes (for_one c).deed ≡ false
unfolding changes
for_one-shows c e = pick_at (λ (x : Simple). changes x.deed ≡ false) (is_go c.deed && eqb c.range.kind 0) _ _ refl e

pub many-lines : (w : Work) (c : Simple) (is : List ℕ) → changes c.deed ≡ false → HasLines w.stand.lines (many_work w c is)
unfolding many_work
many-lines w c [] e = refl
many-lines w c (i ∷ is) e =
    let v : Work = worked w (at_line w.stand (place_of i w.stand.lines 0)) w.next w.pattern [] in
    let u : Work = on_with w (simple_work v (for_one c)) in
    let h : HasLines w.stand.lines u = pick_at (HasLines w.stand.lines) (eqb (simple_work v (for_one c)).fails 6) _ _ refl (simple-lines v (for_one c) (for_one-shows c e)) in
    pick_at (HasLines w.stand.lines) (eqb (place_of i w.stand.lines 0) 0) _ _ (many-lines w c is e)
    (pick_at (HasLines w.stand.lines) (goes_on u) _ _ (many-lines u c is e ∙ h) h)

pub all_lines-lines : (w : Work) (b : Both) (like : Bool) (p : List ℕ) (c : Simple) (qs : List Pattern) → changes c.deed ≡ false → HasLines w.stand.lines (for_all w b like p c qs)
unfolding for_all
all_lines-lines w b like p c [] e = refl
all_lines-lines w b like p c (q ∷ qs) e =
    pick_at (HasLines w.stand.lines) (none_of (noted like q (lines_from w.stand b.from b.to))) _ _ refl
    (many-lines _ c (noted like q (lines_from w.stand b.from b.to)) e)

abbrev pub SameLines : Plain → Turn → Type 0
SameLines w t = t.next.now.lines ≡ w.now.lines

pub finished-lines : (w : Plain) (c : Bool) (v : Work) → HasLines w.now.lines v → SameLines w (finished w c v)
finished-lines w c v h = pick_at (SameLines w) (eqb v.fails 0) _ _ h refl

pub simple_same : (w : Plain) (b : Both) (d : Deed) (v : Work) → HasLines w.now.lines v → changes d ≡ false → stands_deed d ≡ false → SameLines w (simple_turn w b d v)
unfolding simple_turn changes stands_deed
simple_same w b (append ls) v h e f = absurd (true≢false e)
simple_same w b (insert ls) v h e f = absurd (true≢false e)
simple_same w b (change ls) v h e f = absurd (true≢false e)
simple_same w b delete v h e f = absurd (true≢false e)
simple_same w b join v h e f = absurd (true≢false e)
simple_same w b (move a) v h e f = absurd (true≢false e)
simple_same w b (copy a) v h e f = absurd (true≢false e)
simple_same w b (mark c) v h e f = finished-lines w false v h
simple_same w b print v h e f = finished-lines w false v h
simple_same w b number v h e f = finished-lines w false v h
simple_same w b where_is v h e f = finished-lines w false v h
simple_same w b (swap p r k) v h e f = absurd (true≢false e)
simple_same w b go_to v h e f = finished-lines w false v h
simple_same w b undo v h e f = absurd (true≢false f)
simple_same w b redo v h e f = absurd (true≢false f)
simple_same w b (save n) v h e f =
    pick_at (SameLines w) (or (not (none_of (file_of w n))) (ltb (length w.kept) 64)) _ _
    (pick_at (SameLines w) (eqb b.fails 0) _ _ (pick_at (SameLines w) (can_write w.now b) _ _ refl refl) refl)
    refl
simple_same w b (edit n) v h e f = absurd (true≢false e)
simple_same w b (load n) v h e f = absurd (true≢false e)
simple_same w b files v h e f = refl
simple_same w b bad v h e f = refl

pub shown_same : ShownSame
unfolding ShownSame turn changing stands
shown_same w (plain c) e f = simple_same w _ c.deed _ (simple-lines (start_work w) c e) e f
shown_same w (all_lines r like p c) e f =
    let b : Both = range_at w.now w.pattern r 1 (how_many w.now) in
    pick_at (SameLines w) (eqb b.fails 0) _ _
    (pick_at (SameLines w) (real w.now b) _ _
    (pick_at (SameLines w) (none_of (meant b.pattern p)) _ _ refl
    (finished-lines w (changes c.deed) _ (all_lines-lines (start_work w) b like (meant b.pattern p) c (pattern_of (meant b.pattern p)) e)))
    refl)
    refl
