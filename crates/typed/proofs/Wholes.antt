-- A whole command. Assumes nothing.
use Rattle.std.proofs.Common.{◌≡◌, ℕ, suc, ◌<◌, true, false, ltb, List, [], ◌∷◌, length, get_or, Some, None, Option, sym, refl, ap, ◌∙◌}
use Rattle.std.proofs.lemmas.Bool.{and_from, lt-ltb}
use Rattle.plain.specs.Pattern.{pick, or, all_bytes, Got, none, got, with_got, next_is, less_one}
use Rattle.plain.specs.Command.{Range, Deed, Command, plain, all_lines, a_range, up_to, simple, for_many, deed, command, whole_command, reads}
use Rattle.typed.specs.Answer.{whole, listed, all_of}
use Rattle.typed.proofs.Ranges.{NotFirst, not_next}

abbrev pub onward-plain : Range → Deed → List ℕ → Got ℕ Command
onward-plain r d es = got (plain (record { range = r; deed = d })) es

-- what follows the range
abbrev pub then_what : Range → List ℕ → Got ℕ Command
then_what r ds =
    pick (or (next_is 103 ds) (next_is 118 ds))
    (pick (next_is 47 (less_one ds))
    (with_got (up_to 47 [] (less_one (less_one ds))) (λ p es. with_got (simple es) (λ s fs. pick (for_many s.deed) (got (all_lines r (next_is 103 ds) p s) fs) none))) none)
    (with_got (deed ds) (onward-plain r))

pub command_is : (cs : List ℕ) → with_got (a_range cs) then_what ≡ command cs
unfolding command
command_is cs = refl

pub all_matching : (r : Range) (ds xs : List ℕ) → ds ≡ 103 ∷ xs → all_of r true xs ≡ then_what r ds
all_matching r ds xs e = ap (then_what r) (sym e)

pub all_others : (r : Range) (ds xs : List ℕ) → ds ≡ 118 ∷ xs → all_of r false xs ≡ then_what r ds
all_others r ds xs e = ap (then_what r) (sym e)

pub once : (r : Range) (ds : List ℕ) → NotFirst 103 ds → NotFirst 118 ds → with_got (deed ds) (onward-plain r) ≡ then_what r ds
once r ds n m = rw (not_next 103 ds n, not_next 118 ds m)

pub bytes_all : (bs : List ℕ) → ((i : ℕ) → get_or bs i 0 < 256) → all_bytes bs ≡ true
bytes_all [] h = refl
bytes_all (b ∷ bs) h = and_from (ltb b 256) (all_bytes bs) (lt-ltb b 256 (h 0)) (bytes_all bs (λ i. h (suc i)))

whole_is : {A : Type 0} (f : A → Command) (r : Option A) → listed f r ≡ whole_command (whole f r)
unfolding whole_command
whole_is f None = refl
whole_is f (Some a) = refl

pub read_all : {A : Type 0} (f : A → Command) (r : Option A) (bs : List ℕ) → length bs < 65536 → ((i : ℕ) → get_or bs i 0 < 256) → whole f r ≡ command bs → listed f r ≡ reads bs
read_all f r bs short h e =
    whole_is f r ∙ ap whole_command e ∙ ap (λ b. pick b (whole_command (command bs)) []) (sym (and_from (ltb (length bs) 65536) (all_bytes bs) (lt-ltb (length bs) 65536 short) (bytes_all bs h)))
