-- Undoing brings the text back, and redoing it again; a mark stays at its line. Assumes nothing.
use Rattle.std.proofs.Common.{◌≡◌, ℕ, true, ◌&&◌, eqb, ltb, leb, List, ◌∷◌, take, sym, refl, subst, arith}
use Rattle.std.proofs.lemmas.Bool.{false≢true, eqb-false}
use Rattle.plain.specs.Pattern.{none_of, pattern_of}
use Rattle.plain.specs.Command.{Deed, append, insert, change, delete, join, move, copy, mark, print, number, where_is, swap, go_to, undo, redo, save, edit, load, files, bad, Simple, Command, plain, all_lines}
use Rattle.plain.specs.House.{Mark, Stand, Plain, Turn, turn, simple_turn, Found, resolve, Both, where_of, range_at, real, no, finished, file_of, file_work, Work, start_work, deed_work, simple_work, for_all, changes, how_many, meant}
use Rattle.plain.specs.Promise.{UndoneRight, MarksStay, changing, alone}
use Rattle.plain.proofs.Turns.{pick_at}
use Rattle.plain.proofs.Fair.{pick_by}

pub record Noted (w : Plain) (t : Turn) : Type 0 where
  pub is : t.reply ≡ 0 → (ss : List Stand) × (t.next.before ≡ w.now ∷ ss)

pub no_noted : (w : Plain) (k : ℕ) → (k ≡ 0 → ⊥) → Noted w (no k w)
no_noted w k h = record { is = λ e. absurd (h e) }

pub finished-noted : (w : Plain) (v : Work) → Noted w (finished w true v)
finished-noted w v = pick_by (Noted w) (eqb v.fails 0) _ _ (λ _. record { is = λ e. (take 63 w.before, refl) }) (λ h. no_noted w v.fails (eqb-false v.fails 0 h))

pub simple-noted : (w : Plain) (b : Both) (d : Deed) (v : Work) → changes d ≡ true → Noted w (simple_turn w b d v)
unfolding simple_turn changes
simple-noted w b (append ls) v e = finished-noted w v
simple-noted w b (insert ls) v e = finished-noted w v
simple-noted w b (change ls) v e = finished-noted w v
simple-noted w b delete v e = finished-noted w v
simple-noted w b join v e = finished-noted w v
simple-noted w b (move a) v e = finished-noted w v
simple-noted w b (copy a) v e = finished-noted w v
simple-noted w b (mark c) v e = absurd (false≢true e)
simple-noted w b print v e = absurd (false≢true e)
simple-noted w b number v e = absurd (false≢true e)
simple-noted w b where_is v e = absurd (false≢true e)
simple-noted w b (swap p r k) v e = finished-noted w v
simple-noted w b go_to v e = absurd (false≢true e)
simple-noted w b undo v e = absurd (false≢true e)
simple-noted w b redo v e = absurd (false≢true e)
simple-noted w b (save n) v e = absurd (false≢true e)
simple-noted w b (edit n) v e = finished-noted w _
simple-noted w b (load n) v e =
    pick_by (Noted w) (eqb b.fails 0) _ _
    (λ _. finished-noted w (file_work (start_work w) (file_of w n) (λ f. deed_work (start_work w) b (append f.lines))))
    (λ h. no_noted w b.fails (eqb-false b.fails 0 h))
simple-noted w b files v e = absurd (false≢true e)
simple-noted w b bad v e = absurd (false≢true e)

pub turn-noted : (w : Plain) (c : Command) → changing c ≡ true → Noted w (turn w c)
unfolding turn changing
turn-noted w (plain c) e = simple-noted w (where_of w.now w.pattern c) c.deed (simple_work (start_work w) c) e
turn-noted w (all_lines r like p c) e =
    let b : Both = range_at w.now w.pattern r 1 (how_many w.now) in
    let q : List ℕ = meant b.pattern p in
    let v : Work = for_all (start_work w) b like q c (pattern_of q) in
    pick_by (Noted w) (eqb b.fails 0) _ _
    (λ _. pick_by (Noted w) (real w.now b) _ _
    (λ _. pick_by (Noted w) (none_of q) _ _ (λ _. no_noted w 10 (λ h. omega arith))
    (λ _. subst (λ t. Noted w (finished w t v)) (sym e) (finished-noted w v)))
    (λ _. no_noted w 4 (λ h. omega arith)))
    (λ h. no_noted w b.fails (eqb-false b.fails 0 h))

pub back_and_on : (x : Plain) (s : Stand) (ss : List Stand) → x.before ≡ s ∷ ss →
    ((turn x (alone undo)).next.now ≡ s) × ((turn (turn x (alone undo)).next (alone redo)).next.now ≡ x.now)
unfolding turn simple_turn
back_and_on x s ss e = (rw e, rw e)

pub undone_right : UndoneRight
unfolding UndoneRight
undone_right w c e h = let r = (turn-noted w c e).is h in back_and_on (turn w c).next w.now r.0 r.1

abbrev pub HasMarks : List Mark → Work → Type 0
HasMarks ms v = v.stand.marks ≡ ms

pub marks_stay : MarksStay
unfolding MarksStay turn simple_turn deed_work
marks_stay w a r h =
    let c : Simple = record { range = r; deed = move a } in
    let b : Both = where_of w.now w.pattern c in
    let t : Found = resolve w.now b.pattern a in
    let v : Work = start_work w in
    let m : HasMarks w.now.marks (simple_work v c) =
    pick_at (HasMarks w.now.marks) (eqb b.fails 0) _ _
    (pick_at (HasMarks w.now.marks) (real w.now b) _ _
    (pick_at (HasMarks w.now.marks) (eqb t.fails 0) _ _
    (pick_at (HasMarks w.now.marks) (leb b.from t.at && ltb t.at b.to) _ _ refl refl) refl)
    refl)
    refl in
    pick_at (λ (x : Turn). x.next.now.marks ≡ w.now.marks) (eqb (simple_work v c).fails 0) _ _ m refl
