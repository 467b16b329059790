-- What the words of the reader say, in terms of the definitions. Assumes nothing.
use Rattle.std.specs.Prelude.{ℕ, Bool, true, false, ◌&&◌, List, [], ◌∷◌, ◌==◌}
use Rattle.plain.specs.Pattern.{pick}
use Rattle.plain.specs.Command.{Address, Deed, append, insert, change, delete, join, move, copy, mark, print, number, where_is, swap, go_to, undo, redo, save, edit, load, files, bad}
use Rattle.plain.specs.House.{takes, is_go}
use Rattle.reader.specs.declared.words.Otherwise.{Otherwise}
use Rattle.reader.specs.declared.words.Otherwise.TheVariants.{Current, CurrentAndNext, Last, All, Next, Itself}

-- the number that an address is, if it is nothing else
abbrev pub bare : Address → List ℕ
bare a = pick (a.kind == 2 && (a.on == 0 && a.back == 0)) (a.number ∷ []) []

-- what is taken without a range, by the numbers of `takes`; 5 is the line for which a global command is done
abbrev pub default_number : Otherwise → ℕ
default_number Current = 0
default_number CurrentAndNext = 1
default_number Last = 2
default_number All = 3
default_number Next = 4
default_number Itself = 5

abbrev pub for_each : Deed → ℕ
for_each d = pick (is_go d) 5 (takes d)

-- deeds before which a range counts
abbrev pub has_range : Deed → Bool
has_range (append ls) = true
has_range (insert ls) = true
has_range (change ls) = true
has_range delete = true
has_range join = true
has_range (move a) = true
has_range (copy a) = true
has_range (mark k) = true
has_range print = true
has_range number = true
has_range where_is = true
has_range (swap p r k) = true
has_range go_to = true
has_range undo = false
has_range redo = false
has_range (save n) = true
has_range (edit n) = false
has_range (load n) = true
has_range files = false
has_range bad = true
