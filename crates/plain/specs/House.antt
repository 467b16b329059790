-- The plain house: a text, where one is in it, what was before, files; and what each command does. Assumes nothing: these are definitions.
use Rattle.std.specs.Prelude.{ℕ, zero, suc, ◌+◌, ◌-◌, ◌*◌, Bool, true, false, not, ◌&&◌, leb, List, [], ◌∷◌, ◌++◌, length, take, drop, ◌==◌, nat_le, nat_lt, slice_range}
use Rattle.plain.specs.Pattern.{pick, or, every, any, each, those, flat, added_up, none_of, same, eight, with_length, Pattern, matches, pattern_of, Put, replaced}
use Rattle.plain.specs.Command.{Address, Range, Deed, append, insert, change, delete, join, move, copy, mark, print, number, where_is, swap, go_to, undo, redo, save, edit, load, files, bad, Simple, Command, plain, all_lines}

pub record Line : Type 0 where
  pub id : ℕ
  pub bytes : List ℕ

pub record Mark : Type 0 where
  pub letter : ℕ
  pub id : ℕ

pub record Stand : Type 0 where
  pub lines : List Line
  pub at : ℕ  -- the current line, from 1; 0 if there is none
  pub marks : List Mark

pub record File : Type 0 where
  pub name : List ℕ
  pub lines : List (List ℕ)

pub record Plain : Type 0 where
  pub now : Stand
  pub before : List Stand  -- the newest first, up to 64
  pub undone : List Stand
  pub kept : List File
  pub pattern : List ℕ  -- the last that was given
  pub next : ℕ  -- the next line's id

pub record Turn : Type 0 where
  pub reply : ℕ
  pub shows : List (List ℕ)
  pub next : Plain

-- a line's number, or what is wrong: 3 no such mark, 4 no such line, 5 nothing matches, 10 no pattern; and the last pattern then
pub record Found : Type 0 where
  pub fails : ℕ
  pub at : ℕ
  pub pattern : List ℕ

abbrev pub found : ℕ → List ℕ → Found
found n p = record { fails = 0; at = n; pattern = p }

abbrev pub lost : ℕ → Found
lost k = record { fails = k; at = 0; pattern = [] }

abbrev pub how_many : Stand → ℕ
how_many s = length s.lines

unfoldable pub nth : List Line → ℕ → List Line
nth [] n = []
nth (l ∷ ls) zero = []
nth (l ∷ ls) (suc zero) = l ∷ []
nth (l ∷ ls) (suc (suc n)) = nth ls (suc n)

unfoldable pub place_of : ℕ → List Line → ℕ → ℕ
place_of i [] n = 0
place_of i (l ∷ ls) n = pick (l.id == i) (suc n) (place_of i ls (suc n))

unfoldable pub marked : List Mark → ℕ → List ℕ
marked [] c = []
marked (m ∷ ms) c = pick (m.letter == c) (m.id ∷ []) (marked ms c)

abbrev pub mark_place : Stand → List ℕ → ℕ
mark_place s [] = 0
mark_place s (i ∷ is) = place_of i s.lines 0

-- line numbers from one on, so many, and back
unfoldable pub up : ℕ → ℕ → List ℕ
up n zero = []
up n (suc k) = n ∷ up (suc n) k

unfoldable pub turned : List ℕ → List ℕ → List ℕ
turned [] ys = ys
turned (x ∷ xs) ys = turned xs (x ∷ ys)

abbrev pub line_matches : Stand → Pattern → ℕ → Bool
line_matches s p n = any (λ l. matches l.bytes p) (nth s.lines n)

unfoldable pub first_that : (ℕ → Bool) → List ℕ → List ℕ
first_that f [] = []
first_that f (n ∷ ns) = pick (f n) (n ∷ []) (first_that f ns)

-- all others after the current line, from the first on again, and it at the end; or before it
abbrev pub onward : Stand → List ℕ
onward s = up (suc s.at) (how_many s - s.at) ++ up 1 s.at

abbrev pub backward : Stand → List ℕ
backward s = turned (up 1 (s.at - 1)) [] ++ turned (up (pick (s.at == 0) 1 s.at) (how_many s + 1 - (pick (s.at == 0) 1 s.at))) []

abbrev pub searched : List ℕ → List ℕ → Found
searched p [] = lost 5
searched p (n ∷ ns) = found n p

-- an empty pattern is the last one
abbrev pub meant : List ℕ → List ℕ → List ℕ
meant last p = pick (none_of p) last p

unfoldable pub search : Stand → List ℕ → List ℕ → List Pattern → Found
search s p ns [] = lost 10
search s p ns (q ∷ qs) = searched p (first_that (line_matches s q) ns)

abbrev pub base_of : Stand → List ℕ → Address → Found
base_of s last a =
    pick (a.kind == 0) (found s.at last)
    (pick (a.kind == 1) (found (how_many s) last)
    (pick (a.kind == 2) (found a.number last)
    (pick (a.kind == 3) (pick (mark_place s (marked s.marks a.number) == 0) (lost 3) (found (mark_place s (marked s.marks a.number)) last))
    (pick (none_of (meant last a.text)) (lost 10)
    (search s (meant last a.text) (pick (a.kind == 4) (onward s) (backward s)) (pattern_of (meant last a.text)))))))

abbrev pub with_offset : Stand → Address → Found → Found
with_offset s a f =
    pick (f.fails == 0) (pick (nat_le a.back (f.at + a.on) && nat_le (f.at + a.on - a.back) (how_many s)) (found (f.at + a.on - a.back) f.pattern) (lost 4)) f

abbrev pub resolve : Stand → List ℕ → Address → Found
resolve s last a = with_offset s a (base_of s last a)

-- two lines' numbers
pub record Both : Type 0 where
  pub fails : ℕ
  pub from : ℕ
  pub to : ℕ
  pub pattern : List ℕ

abbrev pub both_of : ℕ → ℕ → List ℕ → Both
both_of a b p = record { fails = 0; from = a; to = b; pattern = p }

abbrev pub both_lost : ℕ → Both
both_lost k = record { fails = k; from = 0; to = 0; pattern = [] }

abbrev pub then_found : Found → (ℕ → List ℕ → Both) → Both
then_found f g = pick (f.fails == 0) (g f.at f.pattern) (both_lost f.fails)

abbrev pub at_line : Stand → ℕ → Stand
at_line s n = record { lines = s.lines; at = n; marks = s.marks }

-- a range, or what a command takes if there is none
abbrev pub range_at : Stand → List ℕ → Range → ℕ → ℕ → Both
range_at s last r a b =
    pick (r.kind == 0) (both_of a b last)
    (pick (r.kind == 1) (then_found (resolve s last r.first) (λ n p. both_of n n p))
    (pick (r.kind == 2) (then_found (resolve s last r.first) (λ n p. then_found (resolve s p r.second) (λ m q. pick (nat_le n m) (both_of n m q) (both_lost 4))))
    (pick (r.kind == 3) (then_found (resolve s last r.first) (λ n p. then_found (resolve (at_line s n) p r.second) (λ m q. pick (nat_le n m) (both_of n m q) (both_lost 4))))
    (both_of 1 (how_many s) last))))

-- lines that are there, and at least one
abbrev pub real : Stand → Both → Bool
real s w = (nat_le 1 w.from && nat_le w.from w.to) && nat_le w.to (how_many s)

-- a state of affairs while a command is being done
pub record Work : Type 0 where
  pub fails : ℕ
  pub stand : Stand
  pub pattern : List ℕ
  pub next : ℕ
  pub shows : List (List ℕ)

abbrev pub failed : ℕ → Work → Work
failed k w = record { fails = k; stand = w.stand; pattern = w.pattern; next = w.next; shows = w.shows }

abbrev pub worked : Work → Stand → ℕ → List ℕ → List (List ℕ) → Work
worked w s n p ss = record { fails = 0; stand = s; pattern = p; next = n; shows = w.shows ++ ss }

unfoldable pub new_lines : ℕ → List (List ℕ) → List Line
new_lines n [] = []
new_lines n (b ∷ bs) = record { id = n; bytes = b } ∷ new_lines (suc n) bs

-- the first a lines, others in place of those up to the bth, and the rest
abbrev pub put_lines : Stand → ℕ → ℕ → List Line → List Line
put_lines s a b ls = take a s.lines ++ ls ++ drop b s.lines

abbrev pub with_text : Stand → List Line → ℕ → Stand
with_text s ls n = record { lines = ls; at = n; marks = s.marks }

abbrev pub smaller : ℕ → ℕ → ℕ
smaller a b = pick (nat_lt a b) a b

abbrev pub lines_from : Stand → ℕ → ℕ → List Line
lines_from s a b = take (suc b - a) (drop (a - 1) s.lines)

abbrev pub printed : Bool → ℕ → List Line → List (List ℕ)
printed numbered n [] = []
printed numbered n (l ∷ ls) = pick numbered (eight n ++ l.bytes) l.bytes ∷ printed numbered (suc n) ls

unfoldable pub put_mark : ℕ → ℕ → List Mark → List Mark
put_mark c i [] = record { letter = c; id = i } ∷ []
put_mark c i (m ∷ ms) = pick (m.letter == c) (record { letter = c; id = i } ∷ ms) (m ∷ put_mark c i ms)

abbrev pub id_at : Stand → ℕ → ℕ
id_at s n = added_up (λ l. l.id) (nth s.lines n)

-- replacing in lines, one after the other: the lines, how many were changed, which was the last, and whether one became too long
pub record Swapped : Type 0 where
  pub lines : List Line
  pub last : ℕ
  pub too_long : Bool

unfoldable pub swapped : ℕ → Pattern → List ℕ → ℕ → List Line → Swapped
swapped k p r n [] = record { lines = []; last = 0; too_long = false }
swapped k p r n (l ∷ ls) =
    let u : Put = replaced k p r l.bytes in
    let w : Swapped = swapped k p r (suc n) ls in
    record {
      lines = record { id = l.id; bytes = u.bytes } ∷ w.lines;
      last = pick (w.last == 0) (pick (u.times == 0) 0 n) w.last;
      too_long = or (nat_lt 1024 (length u.bytes)) w.too_long;
    }

unfoldable pub swap_work : Work → Both → List ℕ → List ℕ → ℕ → List Pattern → Work
swap_work w b p r k [] = failed 10 w
swap_work w b p r k (q ∷ qs) =
    let u : Swapped = swapped k q r b.from (lines_from w.stand b.from b.to) in
    pick u.too_long (failed 7 w)
    (pick (u.last == 0) (failed 6 w)
    (worked w (with_text w.stand (put_lines w.stand (b.from - 1) b.to u.lines) u.last) w.next p []))

abbrev pub short_all : List (List ℕ) → Bool
short_all ls = every (λ l. leb (length l) 1024) ls

abbrev pub glued : List Line → List ℕ
glued ls = flat (λ l. l.bytes) ls

abbrev pub moved_to : Stand → ℕ → ℕ → ℕ → List Line
moved_to s a b d =
    pick (nat_lt d a) (take d s.lines ++ lines_from s a b ++ drop d (take (a - 1) s.lines) ++ drop b s.lines)
    (take (a - 1) s.lines ++ slice_range s.lines b d ++ lines_from s a b ++ drop d s.lines)

-- where one is after lines went: at the next, or the last there is
abbrev pub after_gone : ℕ → ℕ → ℕ
after_gone a n = smaller a n

unfoldable pub deed_work : Work → Both → Deed → Work
deed_work w b (append ls) =
    pick (short_all ls)
    (pick (nat_le b.to (how_many w.stand))
    (worked w (with_text w.stand (put_lines w.stand b.to b.to (new_lines w.next ls)) (b.to + length ls)) (w.next + length ls) b.pattern []) (failed 4 w)) (failed 7 w)
deed_work w b (insert ls) =
    pick (short_all ls)
    (pick (nat_le b.to (how_many w.stand))
    (worked w (with_text w.stand (put_lines w.stand (b.to - 1) (b.to - 1) (new_lines w.next ls)) (pick (none_of ls) b.to (b.to - 1 + length ls))) (w.next + length ls) b.pattern []) (failed 4 w)) (failed 7 w)
deed_work w b (change ls) =
    pick (short_all ls)
    (pick (real w.stand b)
    (worked w (with_text w.stand (put_lines w.stand (b.from - 1) b.to (new_lines w.next ls))
    (pick (none_of ls) (after_gone b.from (how_many w.stand - (suc b.to - b.from))) (b.from - 1 + length ls))) (w.next + length ls) b.pattern []) (failed 4 w)) (failed 7 w)
deed_work w b delete =
    pick (real w.stand b)
    (worked w (with_text w.stand (put_lines w.stand (b.from - 1) b.to []) (after_gone b.from (how_many w.stand - (suc b.to - b.from)))) w.next b.pattern []) (failed 4 w)
deed_work w b join =
    pick (real w.stand b)
    (pick (nat_lt 1024 (length (glued (lines_from w.stand b.from b.to)))) (failed 7 w)
    (worked w (with_text w.stand (put_lines w.stand (b.from - 1) b.to (record { id = w.next; bytes = glued (lines_from w.stand b.from b.to) } ∷ [])) b.from) (suc w.next) b.pattern [])) (failed 4 w)
deed_work w b (move a) =
    pick (real w.stand b)
    (let f : Found = resolve w.stand b.pattern a in
    pick (f.fails == 0)
    (pick (nat_le b.from f.at && nat_lt f.at b.to) (failed 4 w)
    (worked w (with_text w.stand (moved_to w.stand b.from b.to f.at)
    (pick (nat_lt f.at b.from) (f.at + (suc b.to - b.from)) f.at)) w.next f.pattern []))
    (failed f.fails w)) (failed 4 w)
deed_work w b (copy a) =
    pick (real w.stand b)
    (let f : Found = resolve w.stand b.pattern a in
    pick (f.fails == 0)
    (worked w (with_text w.stand (put_lines w.stand f.at f.at (new_lines w.next (each (λ l. l.bytes) (lines_from w.stand b.from b.to))))
    (f.at + (suc b.to - b.from))) (w.next + (suc b.to - b.from)) f.pattern [])
    (failed f.fails w)) (failed 4 w)
deed_work w b (mark c) =
    pick (real w.stand b)
    (worked w (record { lines = w.stand.lines; at = w.stand.at; marks = put_mark c (id_at w.stand b.to) w.stand.marks }) w.next b.pattern []) (failed 4 w)
deed_work w b print = pick (real w.stand b) (worked w (at_line w.stand b.to) w.next b.pattern (printed false 0 (lines_from w.stand b.from b.to))) (failed 4 w)
deed_work w b number = pick (real w.stand b) (worked w (at_line w.stand b.to) w.next b.pattern (printed true b.from (lines_from w.stand b.from b.to))) (failed 4 w)
deed_work w b where_is = pick (nat_le b.to (how_many w.stand)) (worked w w.stand w.next b.pattern (eight b.to ∷ [])) (failed 4 w)
deed_work w b (swap p r k) =
    pick (real w.stand b) (pick (none_of (meant b.pattern p)) (failed 10 w) (swap_work w b (meant b.pattern p) r k (pattern_of (meant b.pattern p)))) (failed 4 w)
deed_work w b go_to = pick (nat_le 1 b.to && nat_le b.to (how_many w.stand)) (worked w (at_line w.stand b.to) w.next b.pattern (printed false 0 (lines_from w.stand b.to b.to))) (failed 4 w)
deed_work w b undo = w
deed_work w b redo = w
deed_work w b (save n) = w
deed_work w b (edit n) = w
deed_work w b (load n) = w
deed_work w b files = w
deed_work w b bad = w

-- what a deed takes if no range is given: 0 the current line, 1 it and the next, 2 the last, 3 all, 4 the next
unfoldable pub takes : Deed → ℕ
takes (append ls) = 0
takes (insert ls) = 0
takes (change ls) = 0
takes delete = 0
takes join = 1
takes (move a) = 0
takes (copy a) = 0
takes (mark c) = 0
takes print = 0
takes number = 0
takes where_is = 2
takes (swap p r k) = 0
takes go_to = 4
takes undo = 0
takes redo = 0
takes (save n) = 3
takes (edit n) = 0
takes (load n) = 2
takes files = 0
takes bad = 0

abbrev pub default_from : Stand → ℕ → ℕ
default_from s k = pick (k == 2) (how_many s) (pick (k == 3) 1 (pick (k == 4) (suc s.at) s.at))

abbrev pub default_to : Stand → ℕ → ℕ
default_to s k = pick (nat_le 2 k) (pick (k == 4) (suc s.at) (how_many s)) (s.at + k)

abbrev pub where_of : Stand → List ℕ → Simple → Both
where_of s last c = range_at s last c.range (default_from s (takes c.deed)) (default_to s (takes c.deed))

abbrev pub simple_work : Work → Simple → Work
simple_work w c =
    let b : Both = where_of w.stand w.pattern c in
    pick (b.fails == 0) (deed_work w b c.deed) (failed b.fails w)

-- for many: each line noted, by its id, if it's still there; if nothing was replaced in any of them that's 6. An address alone that isn't one shows the line
unfoldable pub is_go : Deed → Bool
is_go (append ls) = false
is_go (insert ls) = false
is_go (change ls) = false
is_go delete = false
is_go join = false
is_go (move a) = false
is_go (copy a) = false
is_go (mark c) = false
is_go print = false
is_go number = false
is_go where_is = false
is_go (swap p r k) = false
is_go go_to = true
is_go undo = false
is_go redo = false
is_go (save n) = false
is_go (edit n) = false
is_go (load n) = false
is_go files = false
is_go bad = false

abbrev pub for_one : Simple → Simple
for_one c = pick (is_go c.deed && c.range.kind == 0) (record { range = c.range; deed = print }) c

abbrev pub on_with : Work → Work → Work
on_with w v = pick (v.fails == 6) w v

abbrev pub goes_on : Work → Bool
goes_on w = or (w.fails == 0) (w.fails == 6)

unfoldable pub many_work : Work → Simple → List ℕ → Work
many_work w c [] = w
many_work w c (i ∷ is) =
    pick (place_of i w.stand.lines 0 == 0) (many_work w c is)
    (let v : Work = worked w (at_line w.stand (place_of i w.stand.lines 0)) w.next w.pattern [] in
    let u : Work = on_with w (simple_work v (for_one c)) in
    pick (goes_on u) (many_work u c is) u)

unfoldable pub noted : Bool → Pattern → List Line → List ℕ
noted like p ls = each (λ l. l.id) (those (λ l. pick like (matches l.bytes p) (not (matches l.bytes p))) ls)

unfoldable pub for_all : Work → Both → Bool → List ℕ → Simple → List Pattern → Work
for_all w b like p c [] = failed 10 w
for_all w b like p c (q ∷ qs) =
    pick (none_of (noted like q (lines_from w.stand b.from b.to))) (failed 5 w)
    (many_work (failed 6 (worked w w.stand w.next p [])) c (noted like q (lines_from w.stand b.from b.to)))

-- which deeds change the text, and can be undone
unfoldable pub changes : Deed → Bool
changes (append ls) = true
changes (insert ls) = true
changes (change ls) = true
changes delete = true
changes join = true
changes (move a) = true
changes (copy a) = true
changes (mark c) = false
changes print = false
changes number = false
changes where_is = false
changes (swap p r k) = true
changes go_to = false
changes undo = false
changes redo = false
changes (save n) = false
changes (edit n) = true
changes (load n) = true
changes files = false
changes bad = false

abbrev pub no : ℕ → Plain → Turn
no k w = record { reply = k; shows = []; next = w }

abbrev pub start_work : Plain → Work
start_work w = record { fails = 0; stand = w.now; pattern = w.pattern; next = w.next; shows = [] }

abbrev pub finished : Plain → Bool → Work → Turn
finished w c v =
    pick (v.fails == 0)
    (record {
      reply = 0;
      shows = v.shows;
      next = record {
        now = v.stand;
        before = pick c (take 64 (w.now ∷ w.before)) w.before;
        undone = pick c [] w.undone;
        kept = w.kept;
        pattern = v.pattern;
        next = v.next;
      };
    })
    (no v.fails w)

abbrev pub file_of : Plain → List ℕ → List File
file_of w n = those (λ f. same f.name n) w.kept

unfoldable pub put_file : List ℕ → List (List ℕ) → List File → List File
put_file n ls [] = record { name = n; lines = ls } ∷ []
put_file n ls (f ∷ fs) = pick (same f.name n) (record { name = n; lines = ls } ∷ fs) (f ∷ put_file n ls fs)

abbrev pub empty_stand : Stand
empty_stand = record { lines = []; at = 0; marks = [] }

-- 1 to the last, even if there is none
abbrev pub can_write : Stand → Both → Bool
can_write s b = or (real s b) (how_many s == 0 && b.to == 0)

abbrev pub file_work : Work → List File → (File → Work) → Work
file_work w [] f = failed 3 w
file_work w (x ∷ xs) f = f x

abbrev pub undo_turn : Plain → List Stand → Turn
undo_turn w [] = no 9 w
undo_turn w (s ∷ ss) = record { reply = 0; shows = []; next = record { now = s; before = ss; undone = w.now ∷ w.undone; kept = w.kept; pattern = w.pattern; next = w.next } }

abbrev pub redo_turn : Plain → List Stand → Turn
redo_turn w [] = no 9 w
redo_turn w (s ∷ ss) = record { reply = 0; shows = []; next = record { now = s; before = w.now ∷ w.before; undone = ss; kept = w.kept; pattern = w.pattern; next = w.next } }

abbrev pub with_file : Plain → Both → List ℕ → Turn
with_file w b n =
    pick (can_write w.now b)
    (record {
      reply = 0;
      shows = eight (length (lines_from w.now b.from b.to)) ∷ [];
      next = record { now = w.now; before = w.before; undone = w.undone; kept = put_file n (each (λ l. l.bytes) (lines_from w.now b.from b.to)) w.kept; pattern = b.pattern; next = w.next };
    })
    (no 4 w)

abbrev pub edited : Work → File → Work
edited w f = worked w (record { lines = new_lines w.next f.lines; at = length f.lines; marks = [] }) (w.next + length f.lines) w.pattern (eight (length f.lines) ∷ [])

abbrev pub file_row : File → List ℕ
file_row f = with_length f.name ++ eight (length f.lines)

-- commands that have to do with more than the text
unfoldable pub simple_turn : Plain → Both → Deed → Work → Turn
simple_turn w b (append ls) v = finished w true v
simple_turn w b (insert ls) v = finished w true v
simple_turn w b (change ls) v = finished w true v
simple_turn w b delete v = finished w true v
simple_turn w b join v = finished w true v
simple_turn w b (move a) v = finished w true v
simple_turn w b (copy a) v = finished w true v
simple_turn w b (mark c) v = finished w false v
simple_turn w b print v = finished w false v
simple_turn w b number v = finished w false v
simple_turn w b where_is v = finished w false v
simple_turn w b (swap p r k) v = finished w true v
simple_turn w b go_to v = finished w false v
simple_turn w b undo v = undo_turn w w.before
simple_turn w b redo v = redo_turn w w.undone
simple_turn w b (save n) v =
    pick (or (not (none_of (file_of w n))) (nat_lt (length w.kept) 64)) (pick (b.fails == 0) (with_file w b n) (no b.fails w)) (no 7 w)
simple_turn w b (edit n) v = finished w true (file_work (start_work w) (file_of w n) (edited (start_work w)))
simple_turn w b (load n) v =
    pick (b.fails == 0) (finished w true (file_work (start_work w) (file_of w n) (λ f. deed_work (start_work w) b (append f.lines)))) (no b.fails w)
simple_turn w b files v = record { reply = 0; shows = each file_row w.kept; next = w }
simple_turn w b bad v = no 1 w

unfoldable pub turn : Plain → Command → Turn
turn w (plain c) = simple_turn w (where_of w.now w.pattern c) c.deed (simple_work (start_work w) c)
turn w (all_lines r like p c) =
    let b : Both = range_at w.now w.pattern r 1 (how_many w.now) in
    pick (b.fails == 0)
    (pick (real w.now b)
    (pick (none_of (meant b.pattern p)) (no 10 w)
    (finished w (changes c.deed) (for_all (start_work w) b like (meant b.pattern p) c (pattern_of (meant b.pattern p))))) (no 4 w))
    (no b.fails w)

-- THE CORE: the commands that the editor knows first; later changes widen it, until everything is known.
abbrev pub plain_address : Address → Bool
plain_address a = nat_le a.kind 2

abbrev pub plain_range : Range → Bool
plain_range r = plain_address r.first && plain_address r.second

unfoldable pub core_deed : Deed → Bool
core_deed (append ls) = true
core_deed (insert ls) = true
core_deed (change ls) = true
core_deed delete = true
core_deed join = true
core_deed (move a) = false
core_deed (copy a) = false
core_deed (mark c) = false
core_deed print = true
core_deed number = true
core_deed where_is = true
core_deed (swap p r k) = false
core_deed go_to = true
core_deed undo = false
core_deed redo = false
core_deed (save n) = true
core_deed (edit n) = true
core_deed (load n) = false
core_deed files = true
core_deed bad = false

unfoldable pub core : Command → Bool
core (plain c) = plain_range c.range && core_deed c.deed
core (all_lines r like p c) = false

abbrev pub everything : Command → Bool
everything c = true

-- what there is to keep, in bytes
abbrev pub line_weight : Line → ℕ
line_weight l = 64 + length l.bytes

abbrev pub in_text : List Line → Line → Bool
in_text ls l = any (λ m. (m.id == l.id) && same m.bytes l.bytes) ls

-- lines with the one before each, by ids; and how many of these neighbours of one text aren't neighbours in another
pub record NextTo : Type 0 where
  pub first : ℕ
  pub second : ℕ

unfoldable pub neighbours : ℕ → List Line → List NextTo
neighbours i [] = []
neighbours i (l ∷ ls) = record { first = i; second = l.id } ∷ neighbours l.id ls

abbrev pub breaks : List Line → List Line → ℕ
breaks old new =
    length (those (λ p. not (any (λ q. (p.first == q.first) && p.second == q.second) (neighbours 0 new))) (neighbours 0 old))

-- a stand beside the one next to it: 256, the lines that the other hasn't as they were, and 64 for each place where they don't go on alike
abbrev pub stand_weight : Stand → Stand → ℕ
stand_weight s t = 256 + added_up (λ l. pick (in_text s.lines l) 0 (line_weight l)) t.lines + 64 * breaks t.lines s.lines

unfoldable pub stands_weight : Stand → List Stand → ℕ
stands_weight s [] = 0
stands_weight s (t ∷ ts) = stand_weight s t + stands_weight t ts

abbrev pub weight : Plain → ℕ
weight w =
    added_up line_weight w.now.lines + stands_weight w.now w.before + stands_weight w.now w.undone
    + added_up (λ f. 128 + length f.name + added_up (λ l. 64 + length l) f.lines) w.kept

-- how many lines a command has to do with, if it looks for none
abbrev pub given_lines : Deed → ℕ
given_lines (append ls) = length ls
given_lines (insert ls) = length ls
given_lines (change ls) = length ls
given_lines delete = 0
given_lines join = 0
given_lines (move a) = 0
given_lines (copy a) = 0
given_lines (mark c) = 0
given_lines print = 0
given_lines number = 0
given_lines where_is = 0
given_lines (swap p r k) = 0
given_lines go_to = 0
given_lines undo = 0
given_lines redo = 0
given_lines (save n) = 0
given_lines (edit n) = 0
given_lines (load n) = 0
given_lines files = 0
given_lines bad = 0
