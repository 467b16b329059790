-- The shopping list, by computing. Assumes nothing.
use Rattle.std.proofs.Common.{refl}
use Rattle.plain.specs.Pattern.{same, in_bytes, with_all, again, ends, greatest, first_match, spans, pattern, row, marks, atom, whole_pattern, filled, put_from}
use Rattle.plain.specs.Command.{number_part, after_digits, digits_long, up_to, offsets, base, a_range, lines_of, deed, command, whole_command}
use Rattle.plain.specs.House.{nth, place_of, marked, up, turned, first_that, search, new_lines, put_mark, swapped, swap_work, deed_work, takes, is_go, many_work, noted, for_all, changes, put_file, simple_turn, turn, neighbours, stands_weight}
use Rattle.plain.specs.Example.{shopping_list, played, after_all, ShoppingListStands}

pub shopping_list-stands : ShoppingListStands
unfolding ShoppingListStands shopping_list played after_all same in_bytes with_all again ends greatest first_match spans pattern row marks atom whole_pattern filled put_from number_part after_digits digits_long up_to offsets base a_range lines_of deed command whole_command nth place_of marked up turned first_that search new_lines put_mark swapped swap_work deed_work takes is_go many_work noted for_all changes put_file simple_turn turn neighbours stands_weight
shopping_list-stands = (refl, refl)
