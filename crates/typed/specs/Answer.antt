-- What the functions of the reader answer, in the words of `Command`. Assumes nothing.
use Rattle.std.specs.Prelude.{ℕ, Bool, List, [], ◌∷◌, Some, None, Option, nat_lt}
use Rattle.std.specs.Borrow.{Bor}
use Rattle.typed.specs.declared.given.Lines.{Lines}
use Rattle.typed.specs.Meaning.{lines_in}
use Rattle.plain.specs.Pattern.{pick, or, Got, none, got, with_got, next_is, less_one}
use Rattle.plain.specs.Command as command
use Rattle.plain.specs.Command.{number_part, after_digits, digits_long, amount, up_to, which_of}

-- none, or a value and what is left of the bytes
abbrev pub answer : {A B : Type 0} → (A → B) → Option (A × Bor (List ℕ)) → Got ℕ B
answer f None = none
answer f (Some p) = got (f p.0) p.1.now

-- none, or a value with nothing left of the bytes
abbrev pub whole : {A B : Type 0} → (A → B) → Option A → Got ℕ B
whole f None = none
whole f (Some a) = got (f a) []

-- none, or one
abbrev pub listed : {A B : Type 0} → (A → B) → Option A → List B
listed f None = []
listed f (Some a) = f a ∷ []

-- none, or the first line and those behind it
abbrev pub parted : Option (Bor (List ℕ) × Lines) → List (List ℕ)
parted None = []
parted (Some p) = p.0.now ∷ lines_in p.1

-- the number that digits at the front write, 0 if there are none; more than nine are refused
abbrev pub a_number : List ℕ → Got ℕ ℕ
a_number cs = pick (nat_lt 9 (digits_long cs)) none (got (number_part 0 cs) (after_digits cs))

-- the same, with 1 where no digit stands at the front
abbrev pub an_amount : List ℕ → Got ℕ ℕ
an_amount cs = pick (nat_lt 9 (digits_long cs)) none (got (amount cs) (after_digits cs))

-- a range of the kind k from a first address to the one that follows
abbrev pub to_second : ℕ → command.Address → List ℕ → Got ℕ command.Range
to_second k a cs = with_got (command.or_here cs) (λ b es. got (command.range_of k a b) es)

-- what follows a first address
abbrev pub from_first : command.Address → List ℕ → Got ℕ command.Range
from_first a ds = pick (or (next_is 44 ds) (next_is 59 ds)) (to_second (pick (next_is 44 ds) 2 3) a (less_one ds)) (got (command.range_of 1 a command.here) ds)

-- what follows the s of a substitution
abbrev pub a_swap : List ℕ → Got ℕ command.Deed
a_swap cs = pick (next_is 47 cs) (with_got (up_to 47 [] (less_one cs)) (λ p ds. with_got (up_to 47 [] ds) (λ r es. with_got (which_of es) (λ k fs. got (command.swap p r k) fs)))) none

-- what follows the g or v of a command for all lines
abbrev pub all_of : command.Range → Bool → List ℕ → Got ℕ command.Command
all_of r b ds =
    pick (next_is 47 ds) (with_got (up_to 47 [] (less_one ds)) (λ p es. with_got (command.simple es) (λ s fs. pick (command.for_many s.deed) (got (command.all_lines r b p s) fs) none))) none
