-- What the house promises. Each is a statement, a type whose proof is owed. Assumes nothing.
use Rattle.std.specs.Prelude.{◌≡◌, ℕ, suc, ◌+◌, ◌-◌, ◌*◌, ◌<◌, ◌≤◌, Bool, true, false, not, ◌&&◌, ltb, ◌⊎◌, List, [], ◌∷◌, ◌++◌, length, nat_eq, nat_le, nat_lt}
use Rattle.plain.specs.Pattern.{pick, or, every, any, each, those, Pattern, matches, both, either, some, ends, has, replaced}
use Rattle.plain.specs.Command.{Address, Range, Deed, append, insert, change, delete, join, move, copy, mark, print, number, where_is, swap, go_to, undo, redo, save, edit, load, files, bad, Simple, Command, plain, all_lines, reads}
use Rattle.plain.specs.House.{Line, Stand, Plain, Turn, turn, where_of, plain_range, given_lines, weight, changes, empty_stand, moved_to, lines_from, how_many}
use Rattle.plain.specs.Device.{Device, Page, tape_of, read_record, longer, fastened, anew, stopped}
use Rattle.plain.specs.Run.{Engine, Item, proper, Right, new_world, Steady}

-- how many records a command may read and put on that looks for nothing: by the lines that it has to do with, and what it shows
abbrev pub span : Plain → Simple → ℕ
span w c = suc (where_of w.now w.pattern c).to - (where_of w.now w.pattern c).from

unfoldable pub goes_through : Deed → Bool
goes_through (append ls) = false
goes_through (insert ls) = false
goes_through (change ls) = false
goes_through delete = false
goes_through join = false
goes_through (move a) = true
goes_through (copy a) = true
goes_through (mark c) = false
goes_through print = false
goes_through number = false
goes_through where_is = false
goes_through (swap p r k) = false
goes_through go_to = false
goes_through undo = true
goes_through redo = true
goes_through (save n) = true
goes_through (edit n) = true
goes_through (load n) = true
goes_through files = true
goes_through bad = true

unfoldable pub may_use : Plain → Command → Turn → ℕ → Bool
may_use w (plain c) t r =
    pick (plain_range c.range && not (goes_through c.deed)) (nat_le r (256 + 256 * (span w c + given_lines c.deed + length t.shows))) true
may_use w (all_lines s like p c) t r = true

-- a command that is known: the plain house's turn, within what may be used; or no room, only if more is then to be kept than before, and than a
-- sixteenth of a tape's records hold
unfoldable pub TurnMay : ℕ → Plain → Command → Turn → List (List ℕ) → ℕ → ℕ → Plain → Type 0
TurnMay records w a t ss r reply w₁ =
    ((reply ≡ t.reply) × (ss ≡ t.shows) × (w₁ ≡ t.next) × (may_use w a t r ≡ true))
    ⊎ ((reply ≡ 8) × (ss ≡ []) × (w₁ ≡ w) × (t.reply ≡ 0) × (weight w < weight t.next) × (32 * records < weight t.next))

-- what is typed is read as it says; what can't be read, or isn't known yet, is refused as that
unfoldable pub May : (Command → Bool) → ℕ → Plain → List ℕ → List (List ℕ) → ℕ → ℕ → Plain → Type 0
May known records w text ss r reply w₁ =
    ((a : Command) × (reads text ≡ a ∷ []) × (known a ≡ true) × TurnMay records w a (turn w a) ss r reply w₁)
    ⊎ (((a : Command) × (reads text ≡ a ∷ []) × (known a ≡ false) × (reply ≡ 2) × (ss ≡ []) × (w₁ ≡ w))
    ⊎ ((reads text ≡ []) × (reply ≡ 1) × (ss ≡ []) × (w₁ ≡ w)))

abbrev pub first_plain : Plain
first_plain = record { now = empty_stand; before = []; undone = []; kept = []; pattern = []; next = 1 }

-- THE MAIN PROMISE: for all devices and all that can happen, beside the plain house
unfoldable pub Whole : (Command → Bool) → Engine → Type 0
Whole known e =
    Steady e
    × ((records : ℕ) (is : List Item) → 1024 ≤ records → records ≤ 1048576 → length is ≤ 4294967296 → proper false is ≡ true →
    Right (May known records) (λ w. w) e (new_world records) first_plain is)

-- 1. No line's id is there twice, and the current line is no more than there are.
unfoldable pub distinct : List ℕ → Bool
distinct [] = true
distinct (i ∷ is) = not (any (nat_eq i) is) && distinct is

unfoldable pub fair : Plain → Bool
fair w =
    (distinct (each (λ l. l.id) w.now.lines) && every (λ l. ltb l.id w.next) w.now.lines) && nat_le w.now.at (how_many w.now)
    && every (λ s. (distinct (each (λ l. l.id) s.lines) && every (λ l. ltb l.id w.next) s.lines) && nat_le s.at (how_many s)) (w.before ++ w.undone)

unfoldable pub StaysFair : Type 0
StaysFair = (w : Plain) (c : Command) → fair w ≡ true → fair (turn w c).next ≡ true

-- 2. Undoing what changed the text brings it back, with its marks and the current line; and redoing it again.
abbrev pub alone : Deed → Command
alone d = plain (record { range = record { kind = 0; first = record { kind = 0; number = 0; text = []; on = 0; back = 0 }; second = record { kind = 0; number = 0; text = []; on = 0; back = 0 } }; deed = d })

unfoldable pub changing : Command → Bool
changing (plain c) = changes c.deed
changing (all_lines r like p c) = changes c.deed

unfoldable pub UndoneRight : Type 0
UndoneRight =
    (w : Plain) (c : Command) → changing c ≡ true → (turn w c).reply ≡ 0 →
    ((turn (turn w c).next (alone undo)).next.now ≡ w.now)
    × ((turn (turn (turn w c).next (alone undo)).next (alone redo)).next.now ≡ (turn w c).next.now)

-- 3. Moving loses no line and makes none, and those that aren't moved stay in their order.
abbrev pub ids : List Line → List ℕ
ids ls = each (λ l. l.id) ls

unfoldable pub without : List ℕ → List ℕ → List ℕ
without is js = those (λ j. not (any (nat_eq j) is)) js

unfoldable pub MovedSame : Type 0
MovedSame =
    (s : Stand) (a b d : ℕ) → 1 ≤ a → a ≤ b → b ≤ how_many s → d ≤ how_many s → (nat_le a d && nat_lt d b ≡ false) → distinct (ids s.lines) ≡ true →
    (length (moved_to s a b d) ≡ how_many s)
    × (without (ids (lines_from s a b)) (ids (moved_to s a b d)) ≡ without (ids (lines_from s a b)) (ids s.lines))
    × (those (λ i. any (nat_eq i) (ids (lines_from s a b))) (ids (moved_to s a b d)) ≡ ids (lines_from s a b))

-- 4. Replacing: no match, nothing is replaced; and what replaces a match by itself leaves the bytes as they were.
abbrev pub the_match : List ℕ
the_match = 38 ∷ []

unfoldable pub ReplacedSame : Type 0
ReplacedSame =
    (k : ℕ) (p : Pattern) (bs : List ℕ) →
    (matches bs p ≡ false → ((replaced k p (120 ∷ []) bs).times ≡ 0) × ((replaced k p (120 ∷ []) bs).bytes ≡ bs))
    × ((replaced k p the_match bs).bytes ≡ bs)

-- 5. Ends of a match: one after the other, either, none or more, as they should be.
unfoldable pub EndsRight : Type 0
EndsRight =
    (bs : List ℕ) (p q : Pattern) (i j : ℕ) → i ≤ length bs →
    (has (ends bs (both p q) i) j ≡ any (λ k. has (ends bs q k) j) (ends bs p i))
    × (has (ends bs (either p q) i) j ≡ or (has (ends bs p i) j) (has (ends bs q i) j))
    × (has (ends bs (some p) i) j ≡ or (has (i ∷ []) j) (any (λ k. has (ends bs (some p) k) j) (ends bs p i)))

-- 6. A refused command changes nothing; one that shows changes no line.
unfoldable pub AllOrNone : Type 0
AllOrNone = (w : Plain) (c : Command) → 0 < (turn w c).reply → (turn w c).next ≡ w

unfoldable pub stands_deed : Deed → Bool
stands_deed (append ls) = false
stands_deed (insert ls) = false
stands_deed (change ls) = false
stands_deed delete = false
stands_deed join = false
stands_deed (move a) = false
stands_deed (copy a) = false
stands_deed (mark c) = false
stands_deed print = false
stands_deed number = false
stands_deed where_is = false
stands_deed (swap p r k) = false
stands_deed go_to = false
stands_deed undo = true
stands_deed redo = true
stands_deed (save n) = false
stands_deed (edit n) = false
stands_deed (load n) = false
stands_deed files = false
stands_deed bad = false

unfoldable pub stands : Command → Bool
stands (plain c) = stands_deed c.deed
stands (all_lines r like p c) = stands_deed c.deed

unfoldable pub ShownSame : Type 0
ShownSame = (w : Plain) (c : Command) → changing c ≡ false → stands c ≡ false → (turn w c).next.now.lines ≡ w.now.lines

-- 7. A mark stays at its line, wherever that goes.
unfoldable pub MarksStay : Type 0
MarksStay =
    (w : Plain) (a : Address) (r : Range) → (turn w (plain (record { range = r; deed = move a }))).reply ≡ 0 →
    (turn w (plain (record { range = r; deed = move a }))).next.now.marks ≡ w.now.marks

-- 8. What was fastened stays, whatever a stop leaves of later records, as long as its tape isn't begun anew.
unfoldable pub all_longer : Device → ℕ → List Page → Device
all_longer d t [] = d
all_longer d t (p ∷ ps) = all_longer (longer d t p) t ps

unfoldable pub FastenedStays : Type 0
FastenedStays =
    (d : Device) (ps qs : List Page) (cs : List ℕ) (t k : ℕ) → t < 2 → k < length (tape_of d t).records →
    (read_record (stopped (all_longer (all_longer (fastened d t) t ps) (1 - t) qs) cs) t k ≡ read_record d t k)
    × (read_record (stopped (anew (fastened d t) (1 - t)) cs) t k ≡ read_record d t k)
