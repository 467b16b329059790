-- What is typed, read. Assumes nothing: these are definitions.
use Rattle.std.specs.Prelude.{ℕ, zero, suc, ◌+◌, ◌-◌, ◌*◌, Bool, true, false, ◌&&◌, List, [], ◌∷◌, ◌++◌, length, ◌==◌, nat_eq, nat_le, nat_lt, slice_index}
use Rattle.plain.specs.Pattern.{pick, or, any, none_of, same, between, Got, none, got, with_got, next_is, less_one, all_bytes}

-- where a line is: 0 the current one, 1 the last, 2 a number, 3 a mark, 4 the next that matches, 5 the one before that matches; and so many lines on and back
pub record Address : Type 0 where
  pub kind : ℕ
  pub number : ℕ
  pub text : List ℕ
  pub on : ℕ
  pub back : ℕ

-- 0 none, 1 one, 2 two, 3 two with the current line set to the first, 4 all
pub record Range : Type 0 where
  pub kind : ℕ
  pub first : Address
  pub second : Address

pub data Deed : Type 0 where
  append : List (List ℕ) → Deed
  insert : List (List ℕ) → Deed
  change : List (List ℕ) → Deed
  delete : Deed
  join : Deed
  move : Address → Deed
  copy : Address → Deed
  mark : ℕ → Deed
  print : Deed
  number : Deed
  where_is : Deed
  swap : List ℕ → List ℕ → ℕ → Deed  -- a pattern, what is put there, which (0 all)
  go_to : Deed  -- an address alone
  undo : Deed
  redo : Deed
  save : List ℕ → Deed
  edit : List ℕ → Deed
  load : List ℕ → Deed
  files : Deed
  bad : Deed

pub record Simple : Type 0 where
  pub range : Range
  pub deed : Deed

-- for all lines that match, or all that don't; or simple
pub data Command : Type 0 where
  plain : Simple → Command
  all_lines : Range → Bool → List ℕ → Simple → Command

abbrev pub digit : ℕ → Bool
digit c = between 48 57 c

abbrev pub starts_digit : List ℕ → Bool
starts_digit [] = false
starts_digit (c ∷ cs) = digit c

unfoldable pub number_part : ℕ → List ℕ → ℕ
number_part n [] = n
number_part n (c ∷ cs) = pick (digit c) (number_part (10 * n + (c - 48)) cs) n

unfoldable pub after_digits : List ℕ → List ℕ
after_digits [] = []
after_digits (c ∷ cs) = pick (digit c) (after_digits cs) (c ∷ cs)

unfoldable pub digits_long : List ℕ → ℕ
digits_long [] = 0
digits_long (c ∷ cs) = pick (digit c) (suc (digits_long cs)) 0

-- up to a byte that no backslash stands before, which must be there
unfoldable pub up_to : ℕ → List ℕ → List ℕ → Got ℕ (List ℕ)
up_to d bs [] = none
up_to d bs (c ∷ []) = pick (c == d) (got bs []) none
up_to d bs (c ∷ e ∷ cs) = pick (c == d) (got bs (e ∷ cs)) (pick (c == 92) (up_to d (bs ++ c ∷ e ∷ []) cs) (up_to d (bs ++ c ∷ []) (e ∷ cs)))

abbrev pub here : Address
here = record { kind = 0; number = 0; text = []; on = 0; back = 0 }

abbrev pub address : ℕ → ℕ → List ℕ → Address
address k n t = record { kind = k; number = n; text = t; on = 0; back = 0 }

-- +3, -, and so on, one after the other
abbrev pub amount : List ℕ → ℕ
amount cs = pick (starts_digit cs) (number_part 0 cs) 1

unfoldable pub offsets : ℕ → Address → List ℕ → Got ℕ Address
offsets zero a cs = none
offsets (suc n) a [] = got a []
offsets (suc n) a (c ∷ cs) =
    pick (nat_lt 9 (digits_long cs)) none
    (pick (c == 43) (offsets n (record { kind = a.kind; number = a.number; text = a.text; on = a.on + amount cs; back = a.back }) (after_digits cs))
    (pick (c == 45) (offsets n (record { kind = a.kind; number = a.number; text = a.text; on = a.on; back = a.back + amount cs }) (after_digits cs)) (got a (c ∷ cs))))

abbrev pub starts_address : List ℕ → Bool
starts_address [] = false
starts_address (c ∷ cs) = or (digit c) (any (nat_eq c) (46 ∷ 36 ∷ 39 ∷ 47 ∷ 63 ∷ 43 ∷ 45 ∷ []))

unfoldable pub base : List ℕ → Got ℕ Address
base [] = none
base (c ∷ cs) =
    pick (digit c) (pick (nat_lt 9 (digits_long (c ∷ cs))) none (got (address 2 (number_part 0 (c ∷ cs)) []) (after_digits cs)))
    (pick (c == 46) (got here cs) (pick (c == 36) (got (address 1 0 []) cs)
    (pick (c == 39) (pick (pick (none_of cs) false (between 97 122 (slice_index cs 0))) (got (address 3 (slice_index cs 0) []) (less_one cs)) none)
    (pick (c == 47) (with_got (up_to 47 [] cs) (λ t ds. got (address 4 0 t) ds))
    (pick (c == 63) (with_got (up_to 63 [] cs) (λ t ds. got (address 5 0 t) ds))
    (pick (or (c == 43) (c == 45)) (got here (c ∷ cs)) none))))))

abbrev pub an_address : List ℕ → Got ℕ Address
an_address cs = with_got (base cs) (λ a ds. offsets (suc (length ds)) a ds)

abbrev pub range_of : ℕ → Address → Address → Range
range_of k a b = record { kind = k; first = a; second = b }

abbrev pub or_here : List ℕ → Got ℕ Address
or_here cs = pick (starts_address cs) (an_address cs) (got here cs)

unfoldable pub a_range : List ℕ → Got ℕ Range
a_range cs =
    pick (next_is 37 cs) (got (range_of 4 here here) (less_one cs))
    (pick (starts_address cs)
    (with_got (an_address cs) (λ a ds. pick (or (next_is 44 ds) (next_is 59 ds)) (with_got (or_here (less_one ds)) (λ b es. got (range_of (pick (next_is 44 ds) 2 3) a b) es)) (got (range_of 1 a here) ds)))
    (pick (next_is 44 cs) (got (range_of 4 here here) (less_one cs)) (got (range_of 0 here here) cs)))

-- lines given after the first
unfoldable pub lines_of : List ℕ → List ℕ → List (List ℕ)
lines_of l [] = l ∷ []
lines_of l (c ∷ cs) = pick (c == 10) (l ∷ lines_of [] cs) (lines_of (l ++ c ∷ []) cs)

abbrev pub given : List ℕ → Got ℕ (List (List ℕ))
given cs = pick (none_of cs) (got [] []) (pick (next_is 10 cs) (got (lines_of [] (less_one cs)) []) none)

-- one blank and a name to the end
abbrev pub a_file : List ℕ → Got ℕ (List ℕ)
a_file cs = pick (next_is 32 cs && (nat_le 2 (length cs) && nat_le (length cs) 65)) (pick (any (nat_eq 10) cs) none (got (less_one cs) [])) none

abbrev pub ended : Deed → List ℕ → Got ℕ Deed
ended d cs = pick (none_of cs) (got d []) none

abbrev pub which_of : List ℕ → Got ℕ ℕ
which_of cs =
    pick (none_of cs) (got 1 []) (pick (same cs (103 ∷ [])) (got 0 [])
    (pick (starts_digit cs && (none_of (after_digits cs) && (nat_le 1 (number_part 0 cs) && nat_le (digits_long cs) 3))) (got (number_part 0 cs) []) none))

unfoldable pub deed : List ℕ → Got ℕ Deed
deed [] = got go_to []
deed (c ∷ cs) =
    pick (c == 97) (with_got (given cs) (λ ls ds. got (append ls) ds))
    (pick (c == 105) (with_got (given cs) (λ ls ds. got (insert ls) ds))
    (pick (c == 99) (with_got (given cs) (λ ls ds. got (change ls) ds))
    (pick (c == 100) (ended delete cs)
    (pick (c == 106) (ended join cs)
    (pick (c == 109) (with_got (or_here cs) (λ a ds. ended (move a) ds))
    (pick (c == 116) (with_got (or_here cs) (λ a ds. ended (copy a) ds))
    (pick (c == 107) (pick (length cs == 1 && between 97 122 (slice_index cs 0)) (got (mark (slice_index cs 0)) []) none)
    (pick (c == 112) (ended print cs)
    (pick (c == 110) (ended number cs)
    (pick (c == 61) (ended where_is cs)
    (pick (c == 117) (ended undo cs)
    (pick (c == 85) (ended redo cs)
    (pick (c == 119) (with_got (a_file cs) (λ n ds. got (save n) ds))
    (pick (c == 101) (with_got (a_file cs) (λ n ds. got (edit n) ds))
    (pick (c == 114) (with_got (a_file cs) (λ n ds. got (load n) ds))
    (pick (c == 102) (ended files cs)
    (pick (c == 115) (pick (next_is 47 cs) (with_got (up_to 47 [] (less_one cs)) (λ p ds. with_got (up_to 47 [] ds) (λ r es. with_got (which_of es) (λ k fs. got (swap p r k) fs)))) none)
    none)))))))))))))))))

abbrev pub simple : List ℕ → Got ℕ Simple
simple cs = with_got (a_range cs) (λ r ds. with_got (deed ds) (λ d es. got (record { range = r; deed = d }) es))

-- deeds that may be done for many lines
abbrev pub for_many : Deed → Bool
for_many (append ls) = true
for_many (insert ls) = true
for_many (change ls) = true
for_many delete = true
for_many join = true
for_many (move a) = true
for_many (copy a) = true
for_many (mark k) = true
for_many print = true
for_many number = true
for_many where_is = true
for_many (swap p r k) = true
for_many go_to = true
for_many undo = false
for_many redo = false
for_many (save n) = false
for_many (edit n) = false
for_many (load n) = false
for_many files = false
for_many bad = false

unfoldable pub command : List ℕ → Got ℕ Command
command cs =
    with_got (a_range cs) (λ r ds.
    pick (or (next_is 103 ds) (next_is 118 ds))
    (pick (next_is 47 (less_one ds))
    (with_got (up_to 47 [] (less_one (less_one ds))) (λ p es. with_got (simple es) (λ s fs. pick (for_many s.deed) (got (all_lines r (next_is 103 ds) p s) fs) none))) none)
    (with_got (deed ds) (λ d es. got (plain (record { range = r; deed = d })) es)))

unfoldable pub whole_command : Got ℕ Command → List Command
whole_command none = []
whole_command (got c []) = c ∷ []
whole_command (got c (b ∷ bs)) = []

-- what is typed has up to 65,535 bytes
abbrev pub reads : List ℕ → List Command
reads bs = pick (nat_lt (length bs) 65536 && all_bytes bs) (whole_command (command bs)) []
