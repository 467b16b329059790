-- What is going to be done for a command, decided from small numbers alone: which lines are walked over, what becomes of the directory, what is shown.
-- Assumes nothing: these are definitions.
use Rattle.std.specs.Prelude.{ℕ, suc, ◌+◌, ◌-◌, Bool, true, false, ◌&&◌, List, [], ◌∷◌, length, ◌==◌, nat_le, nat_lt}
use Rattle.plain.specs.Pattern.{pick, or, each, same}
use Rattle.plain.specs.Command.{Deed, append, insert, change, delete, join, move, copy, mark, print, number, where_is, swap, go_to, undo, redo, save, edit, load, files, bad, Simple}
use Rattle.plain.specs.House.{File, smaller, plain_range, core_deed}
use Rattle.journal.specs.Log.{Source, no_entries, new_entries, copied, Splice, splice, no_splice}
use Rattle.commands.specs.Kept.{lines_size}
use Rattle.commands.specs.Resolve.{Checked, good, refused, then, check, Bounds, command_bounds, there}
use Rattle.journal.specs.Small.{Entry, entry}

-- THE FILE TABLE: of each file its name, how many lines it has, and what these weigh
abbrev pub entry_of : File → Entry
entry_of f = entry f.name (length f.lines) (lines_size f.lines)

abbrev pub table : List File → List Entry
table fs = each entry_of fs

-- where a file is in the table, or would come: how many files and how many lines of theirs stand before it
pub record Slot : Type 0 where
  pub found : Bool
  pub place : ℕ
  pub before : ℕ
  pub lines : ℕ
  pub size : ℕ

abbrev pub slot_of : Bool → ℕ → ℕ → ℕ → ℕ → Slot
slot_of t p b l s = record { found = t; place = p; before = b; lines = l; size = s }

unfoldable pub look_up : List ℕ → ℕ → ℕ → List Entry → Slot
look_up n p b [] = slot_of false p b 0 0
look_up n p b (e ∷ es) = pick (same e.name n) (slot_of true p b e.lines e.size) (look_up n (suc p) (b + e.lines) es)

-- THE PLAN
-- what is done with each line that is walked over
pub data Walk : Type 0 where
  skip : Walk
  show : Walk
  show_numbered : Walk
  measure : Walk
  glue : Walk

-- what is different afterwards: nothing, the current line only, the text, or the file in this place of the table
pub data Update : Type 0 where
  same_as_before : Update
  current_only : Update
  the_text : Update
  the_file : ℕ → Update

-- a row that is shown besides the lines: none, a number, or one for each file
pub data Rows : Type 0 where
  no_row : Rows
  a_number : ℕ → Rows
  all_files : Rows

pub record Plan : Type 0 where
  pub walk : Walk
  pub after : ℕ  -- the lines of the text after this one
  pub upto : ℕ  -- up to this one
  pub update : Update
  pub splice : Splice
  pub came : ℕ  -- how many lines come
  pub count : ℕ  -- how many lines the text has then
  pub current : ℕ  -- the current line then
  pub rows : Rows

-- what the decision is made from: lines of the text, the current one, lines of all files; the file that is named; the lines given
pub record Sizes : Type 0 where
  pub count : ℕ
  pub at : ℕ
  pub offset : ℕ

abbrev pub sizes : ℕ → ℕ → ℕ → Sizes
sizes c a o = record { count = c; at = a; offset = o }

pub record Given : Type 0 where
  pub many : ℕ
  pub short : Bool  -- none of more than 1,024 bytes

abbrev pub given_size : ℕ → Bool → Given
given_size n t = record { many = n; short = t }

-- lines after a up to b of the text go, so many come from there
abbrev pub text_plan : Sizes → Walk → ℕ → ℕ → Source → ℕ → ℕ → Rows → Plan
text_plan s w a b from came at rows =
    record { walk = w; after = a; upto = b; update = the_text; splice = splice (s.offset + a) (b - a) from; came = came; count = s.count - (b - a) + came; current = at; rows = rows }

abbrev pub show_plan : Sizes → Walk → ℕ → ℕ → Plan
show_plan s w a b =
    record { walk = w; after = a; upto = b; update = current_only; splice = no_splice; came = 0; count = s.count; current = b; rows = no_row }

abbrev pub say_plan : Sizes → Rows → Plan
say_plan s rows =
    record { walk = skip; after = 0; upto = 0; update = same_as_before; splice = no_splice; came = 0; count = s.count; current = s.at; rows = rows }

abbrev pub file_plan : Sizes → Slot → ℕ → ℕ → Plan
file_plan s f a b =
    record { walk = measure; after = a; upto = b; update = the_file f.place; splice = splice f.before f.lines (copied (s.offset + a) (s.offset + b)); came = b - a; count = s.count; current = s.at; rows = a_number (b - a) }

-- where one is after lines from a on went, of which so many stay: at the next, or the last there is
abbrev pub at_gone : ℕ → Bounds → ℕ
at_gone count b = smaller b.first (count - (suc b.last - b.first))

abbrev pub append_plan : Sizes → Given → Bounds → Plan
append_plan s g b = text_plan s skip b.last b.last new_entries g.many (b.last + g.many) no_row

abbrev pub insert_plan : Sizes → Given → Bounds → Plan
insert_plan s g b = text_plan s skip (b.last - 1) (b.last - 1) new_entries g.many (pick (g.many == 0) b.last (b.last - 1 + g.many)) no_row

abbrev pub change_plan : Sizes → Given → Bounds → Plan
change_plan s g b = text_plan s measure (b.first - 1) b.last new_entries g.many (pick (g.many == 0) (at_gone s.count b) (b.first - 1 + g.many)) no_row

abbrev pub delete_plan : Sizes → Bounds → Plan
delete_plan s b = text_plan s measure (b.first - 1) b.last no_entries 0 (at_gone s.count b) no_row

abbrev pub join_plan : Sizes → Bounds → Plan
join_plan s b = text_plan s glue (b.first - 1) b.last new_entries 1 b.first no_row

abbrev pub edit_plan : Sizes → Slot → Plan
edit_plan s f = text_plan s skip 0 s.count (copied f.before (f.before + f.lines)) f.lines f.lines (a_number f.lines)

-- 1 to the last, even if there is none
abbrev pub writable : ℕ → Bounds → Bool
writable count b = or (there count b) (count == 0 && b.last == 0)

abbrev pub decide_append : Sizes → Given → Bounds → Checked Plan
decide_append s g b = check g.short 7 (check (nat_le b.last s.count) 4 (good (append_plan s g b)))

abbrev pub decide_insert : Sizes → Given → Bounds → Checked Plan
decide_insert s g b = check g.short 7 (check (nat_le b.last s.count) 4 (good (insert_plan s g b)))

abbrev pub decide_change : Sizes → Given → Bounds → Checked Plan
decide_change s g b = check g.short 7 (check (there s.count b) 4 (good (change_plan s g b)))

abbrev pub decide_delete : Sizes → Bounds → Checked Plan
decide_delete s b = check (there s.count b) 4 (good (delete_plan s b))

abbrev pub decide_join : Sizes → Bounds → Checked Plan
decide_join s b = check (there s.count b) 4 (good (join_plan s b))

abbrev pub decide_show : Sizes → Walk → Bounds → Checked Plan
decide_show s w b = check (there s.count b) 4 (good (show_plan s w (b.first - 1) b.last))

abbrev pub decide_where : Sizes → Bounds → Checked Plan
decide_where s b = check (nat_le b.last s.count) 4 (good (say_plan s (a_number b.last)))

abbrev pub decide_go : Sizes → Bounds → Checked Plan
decide_go s b = check (nat_le 1 b.last && nat_le b.last s.count) 4 (good (show_plan s show (b.last - 1) b.last))

-- a 65th file is looked for first of all
abbrev pub decide_save : Sizes → Slot → Checked Bounds → Checked Plan
decide_save s f r = check (or f.found (nat_lt f.place 64)) 7 (then r (λ b. check (writable s.count b) 4 (good (file_plan s f (b.first - 1) b.last))))

abbrev pub decide_edit : Sizes → Slot → Checked Plan
decide_edit s f = check f.found 3 (good (edit_plan s f))

unfoldable pub decide_deed : Sizes → Slot → Given → Checked Bounds → Deed → Checked Plan
decide_deed s f g r (append ls) = then r (λ b. decide_append s g b)
decide_deed s f g r (insert ls) = then r (λ b. decide_insert s g b)
decide_deed s f g r (change ls) = then r (λ b. decide_change s g b)
decide_deed s f g r delete = then r (λ b. decide_delete s b)
decide_deed s f g r join = then r (λ b. decide_join s b)
decide_deed s f g r (move a) = refused 2
decide_deed s f g r (copy a) = refused 2
decide_deed s f g r (mark c) = refused 2
decide_deed s f g r print = then r (λ b. decide_show s show b)
decide_deed s f g r number = then r (λ b. decide_show s show_numbered b)
decide_deed s f g r where_is = then r (λ b. decide_where s b)
decide_deed s f g r (swap p q k) = refused 2
decide_deed s f g r go_to = then r (λ b. decide_go s b)
decide_deed s f g r undo = refused 2
decide_deed s f g r redo = refused 2
decide_deed s f g r (save n) = decide_save s f r
decide_deed s f g r (edit n) = decide_edit s f
decide_deed s f g r (load n) = refused 2
decide_deed s f g r files = good (say_plan s all_files)
decide_deed s f g r bad = refused 2

abbrev pub known : Simple → Bool
known c = plain_range c.range && core_deed c.deed

unfoldable pub decide : Sizes → Slot → Given → Simple → Checked Plan
decide s f g c = check (known c) 2 (decide_deed s f g (command_bounds s.count s.at c) c.deed)

-- of the deeds that take a range: what is decided once the range is found
unfoldable pub decide_lines : Sizes → Given → Bounds → Deed → Checked Plan
decide_lines s g b (append ls) = decide_append s g b
decide_lines s g b (insert ls) = decide_insert s g b
decide_lines s g b (change ls) = decide_change s g b
decide_lines s g b delete = decide_delete s b
decide_lines s g b join = decide_join s b
decide_lines s g b (move a) = refused 2
decide_lines s g b (copy a) = refused 2
decide_lines s g b (mark c) = refused 2
decide_lines s g b print = decide_show s show b
decide_lines s g b number = decide_show s show_numbered b
decide_lines s g b where_is = decide_where s b
decide_lines s g b (swap p q k) = refused 2
decide_lines s g b go_to = decide_go s b
decide_lines s g b undo = refused 2
decide_lines s g b redo = refused 2
decide_lines s g b (save n) = refused 2
decide_lines s g b (edit n) = refused 2
decide_lines s g b (load n) = refused 2
decide_lines s g b files = refused 2
decide_lines s g b bad = refused 2
