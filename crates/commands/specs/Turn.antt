-- What a command does to what is kept: the decision, the walk over lines, and what comes of both. Assumes nothing: these are definitions.
use Rattle.std.specs.Prelude.{ℕ, suc, ◌-◌, ◌*◌, Bool, false, ◌&&◌, List, [], ◌∷◌, ◌++◌, length, take, drop, nat_lt}
use Rattle.plain.specs.Pattern.{pick, each, flat, eight}
use Rattle.plain.specs.Command.{Deed, append, insert, change, delete, join, move, copy, mark, print, number, where_is, swap, go_to, undo, redo, save, edit, load, files, bad, Simple, Command, plain, all_lines}
use Rattle.plain.specs.House.{File, file_row, short_all}
use Rattle.journal.specs.Log.{incoming}
use Rattle.commands.specs.Kept.{Kept, kept, kept_weight, lines_size, stand_size, directory, offset}
use Rattle.commands.specs.Resolve.{Checked, good, refused}
use Rattle.commands.specs.Plan.{Plan, Walk, skip, show, show_numbered, measure, glue, Update, same_as_before, current_only, the_text, the_file, Rows, no_row, a_number, all_files, Sizes, sizes, Slot, look_up, table, Given, given_size, decide}
use Rattle.journal.specs.Small.{pushed}

pub record KeptTurn : Type 0 where
  pub reply : ℕ
  pub shows : List (List ℕ)
  pub next : Kept

abbrev pub kept_no : ℕ → Kept → KeptTurn
kept_no n k = record { reply = n; shows = []; next = k }

-- WHAT A COMMAND GIVES: lines, or a name
unfoldable pub lines_given : Deed → List (List ℕ)
lines_given (append ls) = ls
lines_given (insert ls) = ls
lines_given (change ls) = ls
lines_given delete = []
lines_given join = []
lines_given (move a) = []
lines_given (copy a) = []
lines_given (mark c) = []
lines_given print = []
lines_given number = []
lines_given where_is = []
lines_given (swap p r k) = []
lines_given go_to = []
lines_given undo = []
lines_given redo = []
lines_given (save n) = []
lines_given (edit n) = []
lines_given (load n) = []
lines_given files = []
lines_given bad = []

unfoldable pub name_given : Deed → List ℕ
name_given (append ls) = []
name_given (insert ls) = []
name_given (change ls) = []
name_given delete = []
name_given join = []
name_given (move a) = []
name_given (copy a) = []
name_given (mark c) = []
name_given print = []
name_given number = []
name_given where_is = []
name_given (swap p r k) = []
name_given go_to = []
name_given undo = []
name_given redo = []
name_given (save n) = n
name_given (edit n) = n
name_given (load n) = n
name_given files = []
name_given bad = []

abbrev pub given_of : Deed → Given
given_of d = given_size (length (lines_given d)) (short_all (lines_given d))

abbrev pub sizes_of : Kept → Sizes
sizes_of k = sizes (length k.text) k.at (offset k.files)

abbrev pub slot_in : Kept → List ℕ → Slot
slot_in k n = look_up n 0 0 (table k.files)

abbrev pub decision : Kept → Simple → Checked Plan
decision k c = decide (sizes_of k) (slot_in k (name_given c.deed)) (given_of c.deed) c

-- THE WALK
abbrev pub walked : Kept → Plan → List (List ℕ)
walked k p = take (p.upto - p.after) (drop p.after k.text)

abbrev pub glued_lines : List (List ℕ) → List ℕ
glued_lines ls = flat (λ l. l) ls

unfoldable pub numbered : ℕ → List (List ℕ) → List (List ℕ)
numbered n [] = []
numbered n (l ∷ ls) = (eight n ++ l) ∷ numbered (suc n) ls

unfoldable pub walk_rows : Walk → ℕ → List (List ℕ) → List (List ℕ)
walk_rows skip n ls = []
walk_rows show n ls = ls
walk_rows show_numbered n ls = numbered n ls
walk_rows measure n ls = []
walk_rows glue n ls = []

unfoldable pub more_rows : Rows → List File → List (List ℕ)
more_rows no_row fs = []
more_rows (a_number n) fs = eight n ∷ []
more_rows all_files fs = each file_row fs

-- one new line if lines are joined, else the lines given
unfoldable pub put_lines : Walk → List (List ℕ) → List (List ℕ) → List (List ℕ)
put_lines skip ls gs = gs
put_lines show ls gs = gs
put_lines show_numbered ls gs = gs
put_lines measure ls gs = gs
put_lines glue ls gs = glued_lines ls ∷ []

unfoldable pub too_long : Walk → List (List ℕ) → Bool
too_long skip ls = false
too_long show ls = false
too_long show_numbered ls = false
too_long measure ls = false
too_long glue ls = nat_lt 1024 (length (glued_lines ls))

-- WHAT COMES OF IT
abbrev pub new_lines_of : Kept → Plan → List (List ℕ) → List (List ℕ)
new_lines_of k p gs = put_lines p.walk (walked k p) gs

abbrev pub lines_that_come : Kept → Plan → List (List ℕ) → List (List ℕ)
lines_that_come k p gs = incoming p.splice.source (directory k) (new_lines_of k p gs)

abbrev pub with_lines : ℕ → ℕ → List (List ℕ) → List (List ℕ) → List (List ℕ)
with_lines a b ls text = take a text ++ (ls ++ drop b text)

abbrev pub with_file_at : ℕ → File → List File → List File
with_file_at n f fs = take n fs ++ (f ∷ drop (suc n) fs)

abbrev pub stand_then : Kept → Plan → ℕ
stand_then k p = stand_size (length k.text) p.after p.upto (lines_size (walked k p)) p.came

unfoldable pub updated_by : Update → Kept → Plan → List (List ℕ) → List ℕ → Kept
updated_by same_as_before k p ls n = k
updated_by current_only k p ls n = kept k.text p.current k.files k.ring
updated_by the_text k p ls n = kept (with_lines p.after p.upto ls k.text) p.current k.files (pushed k.ring (stand_then k p))
updated_by (the_file i) k p ls n = kept k.text k.at (with_file_at i (record { name = n; lines = ls }) k.files) k.ring

abbrev pub kept_after : Kept → Plan → Deed → Kept
kept_after k p d = updated_by p.update k p (lines_that_come k p (lines_given d)) (name_given d)

abbrev pub rows_of : Kept → Plan → List (List ℕ)
rows_of k p = walk_rows p.walk (suc p.after) (walked k p) ++ more_rows p.rows k.files

abbrev pub carried_out : Kept → Plan → Deed → KeptTurn
carried_out k p d = pick (too_long p.walk (walked k p)) (kept_no 7 k) (record { reply = 0; shows = rows_of k p; next = kept_after k p d })

abbrev pub kept_does : Kept → Deed → Checked Plan → KeptTurn
kept_does k d (good p) = carried_out k p d
kept_does k d (refused n) = kept_no n k

unfoldable pub kept_turn : Kept → Command → KeptTurn
kept_turn k (plain c) = kept_does k c.deed (decision k c)
kept_turn k (all_lines r like q c) = kept_no 2 k

-- no room: more is to be kept than before, and than a sixteenth of the bytes of so many records
abbrev pub too_heavy : ℕ → ℕ → ℕ → Bool
too_heavy records before after = nat_lt before after && nat_lt (32 * records) after

abbrev pub no_room : ℕ → Kept → Kept → Bool
no_room records k k₁ = too_heavy records (kept_weight k) (kept_weight k₁)

abbrev pub within_room : ℕ → Kept → KeptTurn → KeptTurn
within_room records k t = pick (no_room records k t.next) (kept_no 8 k) t

abbrev pub room_turn : ℕ → Kept → Command → KeptTurn
room_turn records k c = within_room records k (kept_turn k c)
