-- After which commands lines are given. Assumes nothing.
use Rattle.std.specs.Prelude.{Bool, true, false, List, [], ◌∷◌}
use Rattle.plain.specs.Command.{Deed, Command, append, insert, change, delete, join, move, copy, mark, print, number, where_is, swap, go_to, undo, redo, save, edit, load, files, bad, plain, all_lines}

abbrev pub takes : Deed → Bool
takes (append ls) = true
takes (insert ls) = true
takes (change ls) = true
takes delete = false
takes join = false
takes (move a) = false
takes (copy a) = false
takes (mark k) = false
takes print = false
takes number = false
takes where_is = false
takes (swap p r k) = false
takes go_to = false
takes undo = false
takes redo = false
takes (save n) = false
takes (edit n) = false
takes (load n) = false
takes files = false
takes bad = false

-- of what was read: nothing, or a command
abbrev pub takes_lines : List Command → Bool
takes_lines [] = false
takes_lines (plain s ∷ cs) = takes s.deed
takes_lines (all_lines r b p s ∷ cs) = takes s.deed
