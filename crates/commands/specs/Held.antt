-- What is kept beside the plain house: the same lines, files and weights. Assumes nothing: these are definitions, and statements that are contracts of functions of this crate.
use Rattle.std.specs.Prelude.{◌≡◌, ℕ, zero, suc, ◌+◌, ◌-◌, ◌*◌, ◌<◌, ◌≤◌, Bool, true, not, ◌&&◌, List, [], ◌∷◌, reverse, length, nat_le, nat_lt}
use Rattle.plain.specs.Pattern.{pick, every, each, all_bytes}
use Rattle.plain.specs.Command.{Deed, Simple, Command, plain, all_lines, reads}
use Rattle.plain.specs.House.{Line, Stand, Plain, Turn, turn, core, stand_weight, weight}
use Rattle.plain.specs.Promise.{distinct, ids, goes_through, TurnMay, May, first_plain}
use Rattle.journal.specs.Log.{Source, no_entries, new_entries, copied, apply}
use Rattle.commands.specs.Kept.{Kept, kept_weight, directory, Sound, nothing_kept, fit_name, lines_size}
use Rattle.commands.specs.Resolve.{Checked, good, refused, Bounds, command_bounds}
use Rattle.commands.specs.Plan.{Plan}
use Rattle.commands.specs.Turn.{KeptTurn, kept_turn, kept_no, room_turn, decision, walked, new_lines_of, lines_that_come, kept_after, lines_given, name_given}
use Rattle.commands.specs.Smalls.{smalls_of, news_by, smalls_weight}
use Rattle.journal.specs.Small.{updated}

-- the weights of what was before, each beside the next newer one, the newest first
unfoldable pub stand_weights : Stand → List Stand → List ℕ
stand_weights s [] = []
stand_weights s (t ∷ ts) = stand_weight s t ∷ stand_weights t ts

abbrev pub bytes_of : List Line → List (List ℕ)
bytes_of ls = each (λ l. l.bytes) ls

pub record Held (w : Plain) (k : Kept) : Type 0 where
  pub text : k.text ≡ bytes_of w.now.lines
  pub at : k.at ≡ w.now.at
  pub files : k.files ≡ w.kept
  pub ring : k.ring ≡ reverse (stand_weights w.now w.before)
  pub undone : w.undone ≡ []
  pub before : length w.before ≤ 64
  pub apart : distinct (ids w.now.lines) ≡ true
  pub old : every (λ l. nat_le 1 l.id && nat_lt l.id w.next) w.now.lines ≡ true
  pub one : 1 ≤ w.next
  pub sound : Sound k

-- lines given, and a name, are bytes, and a name isn't too long: what is read is so
abbrev pub well_given : Deed → Bool
well_given d = every all_bytes (lines_given d) && fit_name (name_given d)

abbrev pub well_read : Command → Bool
well_read (plain c) = well_given c.deed
well_read (all_lines r like p c) = true

unfoldable pub ReadsWell : Type 0
ReadsWell = (bs : List ℕ) (c : Command) → reads bs ≡ c ∷ [] → well_read c ≡ true

abbrev pub lines_read : Command → ℕ
lines_read (plain c) = length (lines_given c.deed)
lines_read (all_lines r like p c) = 0

unfoldable pub ReadsFew : Type 0
ReadsFew = (bs : List ℕ) (c : Command) → reads bs ≡ c ∷ [] → (lines_read c ≤ length bs) × (length bs < 65536)

-- THE SAME TURN
pub record SameTurn (t : Turn) (u : KeptTurn) : Type 0 where
  pub reply : u.reply ≡ t.reply
  pub shows : u.shows ≡ t.shows
  pub next : Held t.next u.next

unfoldable pub TurnsAlike : Type 0
TurnsAlike = (w : Plain) (k : Kept) (c : Command) → Held w k → core c ≡ true → well_read c ≡ true → SameTurn (turn w c) (kept_turn k c)

unfoldable pub WeighsAlike : Type 0
WeighsAlike = (w : Plain) (k : Kept) → Held w k → weight w ≡ kept_weight k

unfoldable pub BeginsAlike : Type 0
BeginsAlike = Held first_plain nothing_kept

-- THE SPLICE: a plan's splice is what becomes of the directory, and its small numbers are those of what is kept then
abbrev pub Inside : ℕ → Source → Type 0
Inside n no_entries = zero ≡ zero
Inside n new_entries = zero ≡ zero
Inside n (copied x y) = (x ≤ y) × (y ≤ n)

pub record AsPlanned (k : Kept) (p : Plan) (d : Deed) : Type 0 where
  pub entries : directory (kept_after k p d) ≡ apply p.splice (directory k) (new_lines_of k p (lines_given d))
  pub numbers : smalls_of (kept_after k p d) ≡ updated (news_by p.update (smalls_of k) p (lines_size (walked k p)) (lines_size (lines_that_come k p (lines_given d))) (name_given d)) (smalls_of k)
  pub coming : length (lines_that_come k p (lines_given d)) ≡ p.came
  pub below : p.after ≤ p.upto
  pub there : p.upto ≤ length k.text
  pub goes : p.splice.from + p.splice.gone ≤ length (directory k)
  pub comes : Inside (length (directory k)) p.splice.source

unfoldable pub PlansStand : Type 0
PlansStand = (k : Kept) (c : Simple) (p : Plan) → decision k c ≡ good p → AsPlanned k p c.deed

unfoldable pub SmallsWeigh : Type 0
SmallsWeigh = (k : Kept) → kept_weight k ≡ smalls_weight (smalls_of k)

-- ROOM AND GRANT
-- how many records may be used: by the lines of the range, those given, and those shown
abbrev pub span_of : Checked Bounds → ℕ
span_of (good b) = suc b.last - b.first
span_of (refused n) = 1

abbrev pub grant : Kept → Simple → List (List ℕ) → ℕ
grant k c rows = 256 + 256 * (span_of (command_bounds (length k.text) k.at c) + length (lines_given c.deed) + length rows)

abbrev pub may_spend : Kept → Command → List (List ℕ) → ℕ → Bool
may_spend k (plain c) rows r = pick (not (goes_through c.deed)) (nat_le r (grant k c rows)) true
may_spend k (all_lines s like p c) rows r = true

pub record Allowed (records : ℕ) (w : Plain) (c : Command) (u : KeptTurn) (r : ℕ) : Type 0 where
  pub next : Plain
  pub allowed : TurnMay records w c (turn w c) u.shows r u.reply next
  pub held : Held next u.next
  pub room : kept_weight u.next ≤ 32 * records

unfoldable pub TurnsAllowed : Type 0
TurnsAllowed =
    (records : ℕ) (w : Plain) (k : Kept) (c : Command) (r : ℕ) → Held w k → core c ≡ true → well_read c ≡ true → kept_weight k ≤ 32 * records →
    may_spend k c (kept_turn k c).shows r ≡ true → Allowed records w c (room_turn records k c) r

-- WHAT IS TYPED: refused with 1 if it can't be read, with 2 if it isn't known
abbrev pub typed_turn : ℕ → Kept → List Command → KeptTurn
typed_turn records k [] = kept_no 1 k
typed_turn records k (c ∷ cs) = room_turn records k c

abbrev pub may_spend_on : Kept → List Command → ℕ → Bool
may_spend_on k [] r = true
may_spend_on k (c ∷ cs) r = may_spend k c (kept_turn k c).shows r

pub record MayBe (records : ℕ) (w : Plain) (bs : List ℕ) (u : KeptTurn) (r : ℕ) : Type 0 where
  pub next : Plain
  pub may : May core records w bs u.shows r u.reply next
  pub held : Held next u.next
  pub room : kept_weight u.next ≤ 32 * records

unfoldable pub TypedAllowed : Type 0
TypedAllowed =
    (records : ℕ) (w : Plain) (k : Kept) (bs : List ℕ) (r : ℕ) → Held w k → kept_weight k ≤ 32 * records → may_spend_on k (reads bs) r ≡ true →
    MayBe records w bs (typed_turn records k (reads bs)) r
