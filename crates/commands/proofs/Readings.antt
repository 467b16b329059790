-- What is read gives lines and names of bytes, no more lines than bytes were typed, and names that aren't too long. Assumes nothing.
use Rattle.std.proofs.Common.{◌≡◌, ℕ, zero, suc, ◌+◌, ◌≤◌, Bool, true, false, ◌&&◌, eqb, ltb, leb, List, [], ◌∷◌, ◌++◌, length, get_or, sym, refl, ap, subst, arith}
use Rattle.std.proofs.lemmas.Bool.{and_parts, and_from, leb-true, le-leb, ltb-true}
use Rattle.plain.specs.Pattern.{pick, or, every, any, none_of, between, all_bytes, Got, none, got, with_got, next_is, less_one}
use Rattle.plain.specs.Command.{Address, Range, Deed, append, insert, change, delete, join, move, copy, mark, print, number, where_is, swap, go_to, undo, redo, save, edit, load, files, Simple, Command, plain, all_lines, digit, digits_long, number_part, after_digits, up_to, here, address, amount, offsets, starts_address, base, an_address, range_of, or_here, a_range, lines_of, given, a_file, ended, which_of, deed, simple, for_many, command, whole_command, reads}
use Rattle.commands.specs.Kept.{fit_name}
use Rattle.commands.specs.Turn.{lines_given, name_given}
use Rattle.commands.specs.Held.{well_given, well_read, lines_read, ReadsWell, ReadsFew}
use Rattle.commands.proofs.Lists.{every_both}
use Rattle.commands.proofs.Resolved.{pick_both}

-- WHAT IS LEFT is bytes, and not more than there were
pub record Left (n : ℕ) (cs : List ℕ) : Type 0 where
  pub bytes : all_bytes cs ≡ true
  pub few : length cs ≤ n

left_none : (n : ℕ) → Left n []
left_none n = record { bytes = refl; few = omega arith }

left_tail : (n c : ℕ) (cs : List ℕ) → Left n (c ∷ cs) → Left n cs
left_tail n c cs l = let h = l.few in record { bytes = (and_parts (ltb c 256) (all_bytes cs) l.bytes).1; few = omega arith }

abbrev Rest : ℕ → {A : Type 0} → Got ℕ A → Type 0
Rest n none = zero ≡ zero
Rest n (got a cs) = Left n cs

module _ (n : ℕ) where
  with_rest : {A B : Type 0} (g : Got ℕ A) (f : A → List ℕ → Got ℕ B) → Rest n g → ((a : A) (cs : List ℕ) → Left n cs → Rest n (f a cs)) → Rest n (with_got g f)
  with_rest none f h k = refl
  with_rest (got a cs) f h k = k a cs h

  less_left : (cs : List ℕ) → Left n cs → Left n (less_one cs)
  less_left [] e = e
  less_left (c ∷ cs) e = left_tail n c cs e

  digits_rest : (cs : List ℕ) → Left n cs → Left n (after_digits cs)
  unfolding after_digits
  digits_rest [] e = e
  digits_rest (c ∷ cs) e = pick_both (Left n) (digit c) (after_digits cs) (c ∷ cs) (digits_rest cs (left_tail n c cs e)) e

  up_rest : (d : ℕ) (bs cs : List ℕ) → Left n cs → Rest n (up_to d bs cs)
  unfolding up_to
  up_rest d bs [] e = refl
  up_rest d bs (c ∷ []) e = pick_both (Rest n) (eqb c d) (got bs []) none (left_none n) refl
  up_rest d bs (c ∷ b ∷ cs) e =
      let t = left_tail n c (b ∷ cs) e in
      pick_both (Rest n) (eqb c d) (got bs (b ∷ cs)) _ t
      (pick_both (Rest n) (eqb c 92) (up_to d (bs ++ c ∷ b ∷ []) cs) (up_to d (bs ++ c ∷ []) (b ∷ cs)) (up_rest d (bs ++ c ∷ b ∷ []) cs (left_tail n b cs t)) (up_rest d (bs ++ c ∷ []) (b ∷ cs) t))

  offsets_rest : (m : ℕ) (a : Address) (cs : List ℕ) → Left n cs → Rest n (offsets m a cs)
  unfolding offsets
  offsets_rest zero a cs e = refl
  offsets_rest (suc m) a [] e = e
  offsets_rest (suc m) a (c ∷ cs) e =
      let t = digits_rest cs (left_tail n c cs e) in
      pick_both (Rest n) (ltb 9 (digits_long cs)) none _ refl
      (pick_both (Rest n) (eqb c 43) (offsets m (record { kind = a.kind; number = a.number; text = a.text; on = a.on + amount cs; back = a.back }) (after_digits cs)) _ (offsets_rest m _ (after_digits cs) t)
      (pick_both (Rest n) (eqb c 45) (offsets m (record { kind = a.kind; number = a.number; text = a.text; on = a.on; back = a.back + amount cs }) (after_digits cs)) (got a (c ∷ cs)) (offsets_rest m _ (after_digits cs) t) e))

  base_rest : (cs : List ℕ) → Left n cs → Rest n (base cs)
  unfolding base
  base_rest [] e = refl
  base_rest (c ∷ cs) e =
      let t = left_tail n c cs e in
      let found : (d k : ℕ) → Rest n (with_got (up_to d [] cs) (λ z ds. got (address k 0 z) ds)) = λ d k. with_rest (up_to d [] cs) (λ z ds. got (address k 0 z) ds) (up_rest d [] cs t) (λ z ds h. h) in
      pick_both (Rest n) (digit c) (pick (ltb 9 (digits_long (c ∷ cs))) none (got (address 2 (number_part 0 (c ∷ cs)) []) (after_digits cs))) _
      (pick_both (Rest n) (ltb 9 (digits_long (c ∷ cs))) none (got (address 2 (number_part 0 (c ∷ cs)) []) (after_digits cs)) refl (digits_rest cs t))
      (pick_both (Rest n) (eqb c 46) (got here cs) _ t
      (pick_both (Rest n) (eqb c 36) (got (address 1 0 []) cs) _ t
      (pick_both (Rest n) (eqb c 39) (pick (pick (none_of cs) false (between 97 122 (get_or cs 0 0))) (got (address 3 (get_or cs 0 0) []) (less_one cs)) none) _
      (pick_both (Rest n) (pick (none_of cs) false (between 97 122 (get_or cs 0 0))) (got (address 3 (get_or cs 0 0) []) (less_one cs)) none (less_left cs t) refl)
      (pick_both (Rest n) (eqb c 47) (with_got (up_to 47 [] cs) (λ z ds. got (address 4 0 z) ds)) _ (found 47 4)
      (pick_both (Rest n) (eqb c 63) (with_got (up_to 63 [] cs) (λ z ds. got (address 5 0 z) ds)) _ (found 63 5)
      (pick_both (Rest n) (or (eqb c 43) (eqb c 45)) (got here (c ∷ cs)) none e refl))))))

  address_rest : (cs : List ℕ) → Left n cs → Rest n (an_address cs)
  address_rest cs e = with_rest (base cs) (λ a ds. offsets (suc (length ds)) a ds) (base_rest cs e) (λ a ds h. offsets_rest (suc (length ds)) a ds h)

  or_here_rest : (cs : List ℕ) → Left n cs → Rest n (or_here cs)
  or_here_rest cs e = pick_both (Rest n) (starts_address cs) (an_address cs) (got here cs) (address_rest cs e) e

  range_rest : (cs : List ℕ) → Left n cs → Rest n (a_range cs)
  unfolding a_range
  range_rest cs e =
      let second : (a : Address) (ds : List ℕ) → List ℕ → Got ℕ Range = λ a ds es. with_got (or_here es) (λ b fs. got (range_of (pick (next_is 44 ds) 2 3) a b) fs) in
      pick_both (Rest n) (next_is 37 cs) (got (range_of 4 here here) (less_one cs)) _ (less_left cs e)
      (pick_both (Rest n) (starts_address cs) (with_got (an_address cs) (λ a ds. pick (or (next_is 44 ds) (next_is 59 ds)) (second a ds (less_one ds)) (got (range_of 1 a here) ds))) _
      (with_rest (an_address cs) (λ a ds. pick (or (next_is 44 ds) (next_is 59 ds)) (second a ds (less_one ds)) (got (range_of 1 a here) ds)) (address_rest cs e) (λ a ds h.
      pick_both (Rest n) (or (next_is 44 ds) (next_is 59 ds)) (second a ds (less_one ds)) (got (range_of 1 a here) ds)
      (with_rest (or_here (less_one ds)) (λ b fs. got (range_of (pick (next_is 44 ds) 2 3) a b) fs) (or_here_rest (less_one ds) (less_left ds h)) (λ b fs k. k)) h))
      (pick_both (Rest n) (next_is 44 cs) (got (range_of 4 here here) (less_one cs)) (got (range_of 0 here here) cs) (less_left cs e) e))

-- LINES AND NAMES
lines-bytes : (l cs : List ℕ) → all_bytes l ≡ true → all_bytes cs ≡ true → every all_bytes (lines_of l cs) ≡ true
unfolding lines_of
lines-bytes l [] e f = and_from (all_bytes l) true e refl
lines-bytes l (c ∷ cs) e f =
    let p = and_parts (ltb c 256) (all_bytes cs) f in
    pick_both (λ z. every all_bytes z ≡ true) (eqb c 10) (l ∷ lines_of [] cs) (lines_of (l ++ c ∷ []) cs)
    (and_from (all_bytes l) (every all_bytes (lines_of [] cs)) e (lines-bytes [] cs refl p.1))
    (lines-bytes (l ++ c ∷ []) cs (every_both (λ b. ltb b 256) l (c ∷ []) e (and_from (ltb c 256) true p.0 refl)) p.1)

lines_few : (l cs : List ℕ) → length (lines_of l cs) ≤ suc (length cs)
unfolding lines_of
lines_few l [] = omega arith
lines_few l (c ∷ cs) =
    let a = lines_few [] cs in
    let b = lines_few (l ++ c ∷ []) cs in
    pick_both (λ (z : List (List ℕ)). length z ≤ suc (suc (length cs))) (eqb c 10) (l ∷ lines_of [] cs) (lines_of (l ++ c ∷ []) cs) (omega arith) (omega arith)

-- no lines, or those of a text that was typed
pub data Typed (n : ℕ) : List (List ℕ) → Type 0 where
  no_lines : Typed n []
  lines_in : (cs : List ℕ) → Left n cs → Typed n (lines_of [] cs)

record Lines-given (n : ℕ) (ls : List (List ℕ)) : Type 0 where
  bytes : every all_bytes ls ≡ true
  few : length ls ≤ n
  typed : Typed n ls

record DeedGiven (n : ℕ) (d : Deed) : Type 0 where
  well : well_given d ≡ true
  few : length (lines_given d) ≤ n
  typed : Typed n (lines_given d)

abbrev LinesWell : ℕ → Got ℕ (List (List ℕ)) → Type 0
LinesWell n none = zero ≡ zero
LinesWell n (got ls cs) = Lines-given n ls

abbrev NameWell : Got ℕ (List ℕ) → Type 0
NameWell none = zero ≡ zero
NameWell (got m cs) = fit_name m ≡ true

abbrev Well : ℕ → Got ℕ Deed → Type 0
Well n none = zero ≡ zero
Well n (got d cs) = DeedGiven n d

module _ (n : ℕ) where
  newline_well : (cs : List ℕ) → Left n cs → LinesWell n (pick (next_is 10 cs) (got (lines_of [] (less_one cs)) []) none)
  newline_well [] e = refl
  newline_well (c ∷ cs) e =
      let h = e.few in
      let l = lines_few [] cs in
      pick_both (LinesWell n) (eqb c 10) (got (lines_of [] cs) []) none (record { bytes = lines-bytes [] cs refl (left_tail n c cs e).bytes; few = omega arith; typed = lines_in cs (left_tail n c cs e) }) refl

  given_well : (cs : List ℕ) → Left n cs → LinesWell n (given cs)
  given_well cs e = pick_both (LinesWell n) (none_of cs) (got [] []) _ (record { bytes = refl; few = omega arith; typed = no_lines }) (newline_well cs e)

  name-fits : (cs : List ℕ) (t : Bool) → (t ≡ true → length cs ≤ 65) → Left n cs → NameWell (pick t (pick (any (eqb 10) cs) none (got (less_one cs) [])) none)
  name-fits cs false h e = refl
  name-fits [] true h e = refl
  name-fits (c ∷ cs) true h e =
      let l = h refl in
      pick_both NameWell (any (eqb 10) (c ∷ cs)) none (got cs []) refl (and_from (leb (length cs) 64) (all_bytes cs) (le-leb (length cs) 64 (omega arith)) (left_tail n c cs e).bytes)

  name_well : (cs : List ℕ) → Left n cs → NameWell (a_file cs)
  name_well cs e =
      name-fits cs (next_is 32 cs && (leb 2 (length cs) && leb (length cs) 65))
      (λ t. leb-true (length cs) 65 (and_parts (leb 2 (length cs)) (leb (length cs) 65) (and_parts (next_is 32 cs) (leb 2 (length cs) && leb (length cs) 65) t).1).1) e

  lines-deed : (g : Got ℕ (List (List ℕ))) (f : List (List ℕ) → Deed) → LinesWell n g → ((ls : List (List ℕ)) → Lines-given n ls → DeedGiven n (f ls)) → Well n (with_got g (λ ls ds. got (f ls) ds))
  lines-deed none f h k = refl
  lines-deed (got ls cs) f h k = k ls h

  name-deed : (g : Got ℕ (List ℕ)) (f : List ℕ → Deed) → NameWell g → ((m : List ℕ) → fit_name m ≡ true → DeedGiven n (f m)) → Well n (with_got g (λ m ds. got (f m) ds))
  name-deed none f h k = refl
  name-deed (got m cs) f h k = k m h

  with_well : {A : Type 0} (g : Got ℕ A) (f : A → List ℕ → Got ℕ Deed) → ((a : A) (cs : List ℕ) → Well n (f a cs)) → Well n (with_got g f)
  with_well none f k = refl
  with_well (got a cs) f k = k a cs

  ended_well : (d : Deed) (cs : List ℕ) → DeedGiven n d → Well n (ended d cs)
  ended_well d cs e = pick_both (Well n) (none_of cs) (got d []) none e refl

  plain-deed : (d : Deed) → well_given d ≡ true → lines_given d ≡ [] → DeedGiven n d
  plain-deed d e f = let z = ap length f in record { well = e; few = omega arith; typed = subst (Typed n) (sym f) no_lines }

  deed_well : (cs : List ℕ) → Left n cs → Well n (deed cs)
  unfolding deed lines_given name_given
  deed_well [] e = plain-deed go_to refl refl
  deed_well (c ∷ cs) e =
      let t = left_tail n c cs e in
      let ls = given_well cs t in
      let ns = name_well cs t in
      pick_both (Well n) (eqb c 97) (with_got (given cs) (λ l ds. got (append l) ds)) _ (lines-deed (given cs) append ls (λ l h. record { well = and_from (every all_bytes l) true h.bytes refl; few = h.few; typed = h.typed }))
      (pick_both (Well n) (eqb c 105) (with_got (given cs) (λ l ds. got (insert l) ds)) _ (lines-deed (given cs) insert ls (λ l h. record { well = and_from (every all_bytes l) true h.bytes refl; few = h.few; typed = h.typed }))
      (pick_both (Well n) (eqb c 99) (with_got (given cs) (λ l ds. got (change l) ds)) _ (lines-deed (given cs) change ls (λ l h. record { well = and_from (every all_bytes l) true h.bytes refl; few = h.few; typed = h.typed }))
      (pick_both (Well n) (eqb c 100) (ended delete cs) _ (ended_well delete cs (plain-deed delete refl refl))
      (pick_both (Well n) (eqb c 106) (ended join cs) _ (ended_well join cs (plain-deed join refl refl))
      (pick_both (Well n) (eqb c 109) (with_got (or_here cs) (λ a ds. ended (move a) ds)) _ (with_well (or_here cs) (λ a ds. ended (move a) ds) (λ a ds. ended_well (move a) ds (plain-deed (move a) refl refl)))
      (pick_both (Well n) (eqb c 116) (with_got (or_here cs) (λ a ds. ended (copy a) ds)) _ (with_well (or_here cs) (λ a ds. ended (copy a) ds) (λ a ds. ended_well (copy a) ds (plain-deed (copy a) refl refl)))
      (pick_both (Well n) (eqb c 107) (pick (eqb (length cs) 1 && between 97 122 (get_or cs 0 0)) (got (mark (get_or cs 0 0)) []) none) _
      (pick_both (Well n) (eqb (length cs) 1 && between 97 122 (get_or cs 0 0)) (got (mark (get_or cs 0 0)) []) none (plain-deed (mark (get_or cs 0 0)) refl refl) refl)
      (pick_both (Well n) (eqb c 112) (ended print cs) _ (ended_well print cs (plain-deed print refl refl))
      (pick_both (Well n) (eqb c 110) (ended number cs) _ (ended_well number cs (plain-deed number refl refl))
      (pick_both (Well n) (eqb c 61) (ended where_is cs) _ (ended_well where_is cs (plain-deed where_is refl refl))
      (pick_both (Well n) (eqb c 117) (ended undo cs) _ (ended_well undo cs (plain-deed undo refl refl))
      (pick_both (Well n) (eqb c 85) (ended redo cs) _ (ended_well redo cs (plain-deed redo refl refl))
      (pick_both (Well n) (eqb c 119) (with_got (a_file cs) (λ m ds. got (save m) ds)) _ (name-deed (a_file cs) save ns (λ m h. plain-deed (save m) h refl))
      (pick_both (Well n) (eqb c 101) (with_got (a_file cs) (λ m ds. got (edit m) ds)) _ (name-deed (a_file cs) edit ns (λ m h. plain-deed (edit m) h refl))
      (pick_both (Well n) (eqb c 114) (with_got (a_file cs) (λ m ds. got (load m) ds)) _ (name-deed (a_file cs) load ns (λ m h. plain-deed (load m) h refl))
      (pick_both (Well n) (eqb c 102) (ended files cs) _ (ended_well files cs (plain-deed files refl refl))
      (pick_both (Well n) (eqb c 115) (pick (next_is 47 cs) (with_got (up_to 47 [] (less_one cs)) (λ p ds. with_got (up_to 47 [] ds) (λ r es. with_got (which_of es) (λ k fs. got (swap p r k) fs)))) none) none
      (pick_both (Well n) (next_is 47 cs) (with_got (up_to 47 [] (less_one cs)) (λ p ds. with_got (up_to 47 [] ds) (λ r es. with_got (which_of es) (λ k fs. got (swap p r k) fs)))) none
      (with_well (up_to 47 [] (less_one cs)) _ (λ p ds. with_well (up_to 47 [] ds) _ (λ r es. with_well (which_of es) _ (λ k fs. plain-deed (swap p r k) refl refl)))) refl)
      refl)))))))))))))))))

-- COMMANDS
abbrev TypedCommand : ℕ → Command → Type 0
TypedCommand n (plain c) = Typed n (lines_given c.deed)
TypedCommand n (all_lines r like p c) = zero ≡ zero

record CommandGiven (n : ℕ) (c : Command) : Type 0 where
  well : well_read c ≡ true
  few : lines_read c ≤ n
  typed : TypedCommand n c

abbrev CommandWell : ℕ → Got ℕ Command → Type 0
CommandWell n none = zero ≡ zero
CommandWell n (got c cs) = CommandGiven n c

module _ (n : ℕ) where
  with_command : {A : Type 0} (g : Got ℕ A) (f : A → List ℕ → Got ℕ Command) → Rest n g → ((a : A) (cs : List ℕ) → Left n cs → CommandWell n (f a cs)) → CommandWell n (with_got g f)
  with_command none f h k = refl
  with_command (got a cs) f h k = k a cs h

  any_command : {A : Type 0} (g : Got ℕ A) (f : A → List ℕ → Got ℕ Command) → ((a : A) (cs : List ℕ) → CommandWell n (f a cs)) → CommandWell n (with_got g f)
  any_command none f k = refl
  any_command (got a cs) f k = k a cs

  plain-command : (r : Range) (g : Got ℕ Deed) → Well n g → CommandWell n (with_got g (λ d es. got (plain (record { range = r; deed = d })) es))
  plain-command r none h = refl
  plain-command r (got d cs) h = record { well = h.well; few = h.few; typed = h.typed }

  command_well : (cs : List ℕ) → Left n cs → CommandWell n (command cs)
  unfolding command
  command_well cs e =
      with_command (a_range cs) _ (range_rest n cs e) (λ r ds h.
      pick_both (CommandWell n) (or (next_is 103 ds) (next_is 118 ds)) _ (with_got (deed ds) (λ d es. got (plain (record { range = r; deed = d })) es))
      (pick_both (CommandWell n) (next_is 47 (less_one ds)) (with_got (up_to 47 [] (less_one (less_one ds))) (λ p es. with_got (simple es) (λ s fs. pick (for_many s.deed) (got (all_lines r (next_is 103 ds) p s) fs) none))) none
      (any_command (up_to 47 [] (less_one (less_one ds))) _ (λ p es. any_command (simple es) _ (λ s fs.
      pick_both (CommandWell n) (for_many s.deed) (got (all_lines r (next_is 103 ds) p s) fs) none (record { well = refl; few = omega arith; typed = refl }) refl))) refl)
      (plain-command r (deed ds) (deed_well n ds h)))

  whole_well : (g : Got ℕ Command) (c : Command) → CommandWell n g → whole_command g ≡ c ∷ [] → CommandGiven n c
  unfolding whole_command
  whole_well none c h e = let z : ◌≡◌ {A = ℕ} 0 1 = cc in absurd (omega arith)
  whole_well (got a []) c h e = let q : a ≡ c = cc in subst (λ x. CommandGiven n x) q h
  whole_well (got a (b ∷ cs)) c h e = let z : ◌≡◌ {A = ℕ} 0 1 = cc in absurd (omega arith)

read_test : (t : Bool) (bs : List ℕ) (c : Command) → pick t (whole_command (command bs)) [] ≡ c ∷ [] → t ≡ true
read_test true bs c e = refl
read_test false bs c e = let z : ◌≡◌ {A = ℕ} 0 1 = cc in absurd (omega arith)

read-given : (t : Bool) (bs : List ℕ) (c : Command) → all_bytes bs ≡ true → pick t (whole_command (command bs)) [] ≡ c ∷ [] → CommandGiven (length bs) c
read-given true bs c h e = whole_well (length bs) (command bs) c (command_well (length bs) bs (record { bytes = h; few = omega arith })) e
read-given false bs c h e = let z : ◌≡◌ {A = ℕ} 0 1 = cc in absurd (omega arith)

tested : (bs : List ℕ) (c : Command) → reads bs ≡ c ∷ [] → (ltb (length bs) 65536 ≡ true) × (all_bytes bs ≡ true)
tested bs c e = and_parts (ltb (length bs) 65536) (all_bytes bs) (read_test (ltb (length bs) 65536 && all_bytes bs) bs c e)

pub reads_well : ReadsWell
unfolding ReadsWell
reads_well bs c e = (read-given (ltb (length bs) 65536 && all_bytes bs) bs c (tested bs c e).1 e).well

pub reads_few : ReadsFew
unfolding ReadsFew
reads_few bs c e = ((read-given (ltb (length bs) 65536 && all_bytes bs) bs c (tested bs c e).1 e).few, ltb-true (length bs) 65536 (tested bs c e).0)

-- lines given are those of a text among what was typed
pub reads-typed : (bs : List ℕ) (c : Simple) → reads bs ≡ plain c ∷ [] → Typed (length bs) (lines_given c.deed)
reads-typed bs c e = (read-given (ltb (length bs) 65536 && all_bytes bs) bs (plain c) (tested bs (plain c) e).1 e).typed

-- no command, or one
whole_one : (g : Got ℕ Command) → length (whole_command g) ≤ 1
unfolding whole_command
whole_one none = omega arith
whole_one (got a []) = omega arith
whole_one (got a (b ∷ cs)) = omega arith

pub reads_one : (bs : List ℕ) → length (reads bs) ≤ 1
reads_one bs = pick_both (λ (z : List Command). length z ≤ 1) (ltb (length bs) 65536 && all_bytes bs) (whole_command (command bs)) [] (whole_one (command bs)) (omega arith)
