-- Which value of the formal `Command` each type of the reader stands for. Assumes nothing.
use Rattle.std.specs.Prelude.{ℕ, List, [], None, Option, Some}
use Rattle.std.specs.Borrow.{Bor}
use Rattle.typed.specs.declared.addresses.Place.{Place}
use Rattle.typed.specs.declared.addresses.Place.TheVariants.{Current, Last, Number, Mark, Next, Previous}
use Rattle.typed.specs.declared.addresses.Address as typed_address
use Rattle.typed.specs.declared.addresses.Reach.{Reach}
use Rattle.typed.specs.declared.addresses.Reach.TheVariants.{Unspecified, One, Two, FromFirst, All}
use Rattle.typed.specs.declared.addresses.Range as typed_range
use Rattle.typed.specs.declared.given.Lines.{Lines}
use Rattle.typed.specs.declared.deeds.Which.{Which}
use Rattle.typed.specs.declared.deeds.Which.TheVariants as which
use Rattle.typed.specs.declared.deeds.Deed.{Deed}
use Rattle.typed.specs.declared.deeds.Deed.TheVariants as deed
use Rattle.typed.specs.declared.commands.Simple as typed_simple
use Rattle.typed.specs.declared.commands.Command as typed_command
use Rattle.typed.specs.declared.commands.Command.TheVariants.{Plain, Global}
use Rattle.plain.specs.Command as command
use Rattle.plain.specs.Command.{lines_of}

abbrev pub itself : ℕ → ℕ
itself n = n

abbrev pub bytes : Bor (List ℕ) → List ℕ
bytes x = x.now

-- the numbered kind, the number and the text of a place
abbrev pub kind_of : Place → ℕ
kind_of Current = 0
kind_of Last = 1
kind_of (Number n) = 2
kind_of (Mark m) = 3
kind_of (Next t) = 4
kind_of (Previous t) = 5

abbrev pub number_of : Place → ℕ
number_of Current = 0
number_of Last = 0
number_of (Number n) = n
number_of (Mark m) = m
number_of (Next t) = 0
number_of (Previous t) = 0

abbrev pub text_of : Place → List ℕ
text_of Current = []
text_of Last = []
text_of (Number n) = []
text_of (Mark m) = []
text_of (Next t) = t.now
text_of (Previous t) = t.now

-- so many lines on and back from a place
abbrev pub moved : ℕ → ℕ → Place → command.Address
moved on back p = record { kind = kind_of p; number = number_of p; text = text_of p; on = on; back = back }

abbrev pub at_place : Place → command.Address
at_place p = moved 0 0 p

abbrev pub address_of : typed_address.Address → command.Address
address_of a = moved a.on a.back a.place

abbrev pub reach_of : Reach → ℕ
reach_of Unspecified = 0
reach_of One = 1
reach_of Two = 2
reach_of FromFirst = 3
reach_of All = 4

abbrev pub range_of : typed_range.Range → command.Range
range_of r = record { kind = reach_of r.reach; first = address_of r.first; second = address_of r.second }

abbrev pub text_lines : Option (Bor (List ℕ)) → List (List ℕ)
text_lines None = []
text_lines (Some t) = lines_of [] t.now

abbrev pub lines_in : Lines → List (List ℕ)
lines_in l = text_lines l.text

abbrev pub which_number : Which → ℕ
which_number which.All = 0
which_number (which.Nth n) = n

abbrev pub deed_of : Deed → command.Deed
deed_of (deed.Append ls) = command.append (lines_in ls)
deed_of (deed.Insert ls) = command.insert (lines_in ls)
deed_of (deed.Change ls) = command.change (lines_in ls)
deed_of deed.Delete = command.delete
deed_of deed.Join = command.join
deed_of (deed.Move a) = command.move (address_of a)
deed_of (deed.Copy a) = command.copy (address_of a)
deed_of (deed.Mark k) = command.mark k
deed_of deed.Print = command.print
deed_of deed.Number = command.number
deed_of deed.LineNumber = command.where_is
deed_of (deed.Substitute p r k) = command.swap p.now r.now (which_number k)
deed_of deed.GoTo = command.go_to
deed_of deed.Undo = command.undo
deed_of deed.Redo = command.redo
deed_of (deed.Write n) = command.save n.now
deed_of (deed.Edit n) = command.edit n.now
deed_of (deed.Read n) = command.load n.now
deed_of deed.Files = command.files

abbrev pub simple_of : typed_simple.Simple → command.Simple
simple_of s = record { range = range_of s.range; deed = deed_of s.deed }

abbrev pub command_of : typed_command.Command → command.Command
command_of (Plain s) = command.plain (simple_of s)
command_of (Global r b p s) = command.all_lines (range_of r) b p.now (simple_of s)
