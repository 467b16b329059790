-- What the console has to know of a command: whether lines are typed behind it, and what its rows hold. Assumes nothing.
use Rattle.std.specs.Prelude.{Bool, true, false, List, [], ◌∷◌}
use Rattle.plain.specs.Command.{Deed, append, insert, change, delete, join, move, copy, mark, print, number, where_is, swap, go_to, undo, redo, save, edit, load, files, bad, Command, plain, all_lines}
use Rattle.frontend.specs.declared.rows.Rows.{Rows}
use Rattle.frontend.specs.declared.rows.Rows.TheVariants.{Lines, Numbered, Counts, Files}

-- what the commands do, for many lines or a range
abbrev pub deeds : List Command → List Deed
deeds [] = []
deeds (plain c ∷ cs) = c.deed ∷ deeds cs
deeds (all_lines r like p c ∷ cs) = c.deed ∷ deeds cs

abbrev pub takes : Deed → Bool
takes (append ls) = true
takes (insert ls) = true
takes (change ls) = true
takes delete = false
takes join = false
takes (move a) = false
takes (copy a) = false
takes (mark k) = false
takes print = false
takes number = false
takes where_is = false
takes (swap p r k) = false
takes go_to = false
takes undo = false
takes redo = false
takes (save n) = false
takes (edit n) = false
takes (load n) = false
takes files = false
takes bad = false

-- whether lines are typed behind what is read so
abbrev pub takes_lines : List Deed → Bool
takes_lines [] = false
takes_lines (d ∷ ds) = takes d

abbrev pub shown_by : Deed → Rows
shown_by (append ls) = Lines
shown_by (insert ls) = Lines
shown_by (change ls) = Lines
shown_by delete = Lines
shown_by join = Lines
shown_by (move a) = Lines
shown_by (copy a) = Lines
shown_by (mark k) = Lines
shown_by print = Lines
shown_by number = Numbered
shown_by where_is = Counts
shown_by (swap p r k) = Lines
shown_by go_to = Lines
shown_by undo = Lines
shown_by redo = Lines
shown_by (save n) = Counts
shown_by (edit n) = Counts
shown_by (load n) = Lines
shown_by files = Files
shown_by bad = Lines

-- what the rows hold that it shows
abbrev pub rows_of : List Deed → Rows
rows_of [] = Lines
rows_of (d ∷ ds) = shown_by d
