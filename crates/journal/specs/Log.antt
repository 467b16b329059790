-- The log, over records that have been read: what replaying a tape gives, and which of the two tapes counts. Assumes nothing: these are definitions.
-- K is what a commit record says of the small state, S the small state, upd what becomes of it.
use Rattle.std.specs.Prelude.{◌≡◌, ℕ, zero, suc, ◌+◌, ◌-◌, ◌≤◌, Bool, true, false, ◌⊎◌, List, [], ◌∷◌, ◌++◌, map, length, take, drop, replicate, ◌==◌, slice_set}
use Rattle.plain.specs.Pattern.{pick, every}
use Rattle.plain.specs.Device.{Device, Page, tape_of, so_many_of}

-- where a line's first record is
pub record Position : Type 0 where
  pub tape : ℕ
  pub at : ℕ

abbrev pub position : ℕ → ℕ → Position
position t k = record { tape = t; at = k }

abbrev pub hole : Position
hole = position 0 0

-- what comes in place of entries that go: nothing, the lines put on since the last commit, or once more the entries from one index up to another
pub data Source : Type 0 where
  no_entries : Source
  new_entries : Source
  copied : ℕ → ℕ → Source

pub record Splice : Type 0 where
  pub from : ℕ
  pub gone : ℕ
  pub source : Source

abbrev pub splice : ℕ → ℕ → Source → Splice
splice p q s = record { from = p; gone = q; source = s }

abbrev pub no_splice : Splice
no_splice = splice 0 0 no_entries

-- one record's share of a line: how long the whole line is, and the bytes that are here
pub record Piece : Type 0 where
  pub long : ℕ
  pub bytes : List ℕ

abbrev pub piece : ℕ → List ℕ → Piece
piece n bs = record { long = n; bytes = bs }

abbrev pub no_piece : Piece
no_piece = piece 0 []

-- broken is whatever can't be read as one of the others
pub data Rec (K : Type 0) : Type 0 where
  head : ℕ → ℕ → Rec K  -- generation, entries
  line : ℕ → Piece → Rec K  -- part
  copy : ℕ → ℕ → Piece → Rec K  -- index of the directory, part
  commit : Splice → K → Rec K
  broken : Rec K

-- what replaying gives: the directory, the positions of lines put on since the last commit, and the small state
pub record State (S : Type 0) : Type 0 where
  pub dir : List Position
  pub pending : List Position
  pub small : S

abbrev pub state : {S : Type 0} → List Position → List Position → S → State S
state D P s = record { dir = D; pending = P; small = s }

-- the one kind of change, for entries of any kind: in place of `gone` entries from `from` on come those of the source
abbrev pub incoming : {A : Type 0} → Source → List A → List A → List A
incoming no_entries D P = []
incoming new_entries D P = P
incoming (copied x y) D P = take (y - x) (drop x D)

unfoldable pub apply : {A : Type 0} → Splice → List A → List A → List A
apply c D P = take c.from D ++ (incoming c.source D P ++ drop (c.from + c.gone) D)

abbrev pub intact : {K : Type 0} → Rec K → Bool
intact (head g n) = true
intact (line j b) = true
intact (copy i j b) = true
intact (commit c u) = true
intact broken = false

abbrev pub Intact : {K : Type 0} → List (Rec K) → Type 0
Intact rs = every intact rs ≡ true

-- the state after record k of tape t
abbrev pub after : {K S : Type 0} → (K → S → S) → ℕ → ℕ → State S → Rec K → State S
after upd t k s (head g n) = state (replicate n hole) [] s.small
after upd t k s (line zero b) = state s.dir (s.pending ++ position t k ∷ []) s.small
after upd t k s (line (suc j) b) = s
after upd t k s (copy i zero b) = state (slice_set s.dir i (position t k)) s.pending s.small
after upd t k s (copy i (suc j) b) = s
after upd t k s (commit c u) = state (apply c s.dir s.pending) [] (upd u s.small)
after upd t k s broken = s

-- from record k on, up to the end or to a record that is broken
unfoldable pub replay_from : {K S : Type 0} → (K → S → S) → ℕ → ℕ → State S → List (Rec K) → State S
replay_from upd t k s [] = s
replay_from upd t k s (r ∷ rs) = pick (intact r) (replay_from upd t (suc k) (after upd t k s r) rs) s

abbrev pub replay : {K S : Type 0} → (K → S → S) → S → ℕ → List (Rec K) → State S
replay upd first t rs = replay_from upd t 0 (state [] [] first) rs

-- a line, as the pieces in its records, of which there is at least one
pub record Packed : Type 0 where
  pub one : Piece
  pub more : List Piece

abbrev pub pieces_of : Packed → List Piece
pieces_of l = l.one ∷ l.more

unfoldable pub parts : {K : Type 0} → ℕ → List Piece → List (Rec K)
parts j [] = []
parts j (b ∷ bs) = line j b ∷ parts (suc j) bs

unfoldable pub copies : {K : Type 0} → ℕ → ℕ → List Piece → List (Rec K)
copies i j [] = []
copies i j (b ∷ bs) = copy i j b ∷ copies i (suc j) bs

abbrev pub line_records : {K : Type 0} → Packed → List (Rec K)
line_records l = line 0 l.one ∷ parts 1 l.more

abbrev pub copy_records : {K : Type 0} → ℕ → Packed → List (Rec K)
copy_records i l = copy i 0 l.one ∷ copies i 1 l.more

-- the records of a command's lines, and where they lie, from k on
unfoldable pub block : {K : Type 0} → List Packed → List (Rec K)
block [] = []
block (l ∷ ls) = line_records l ++ block ls

unfoldable pub positions : ℕ → ℕ → List Packed → List Position
positions t k [] = []
positions t k (l ∷ ls) = position t k ∷ positions t (k + length (pieces_of l)) ls

abbrev pub command_records : {K : Type 0} → List Packed → Splice → K → List (Rec K)
command_records ls c u = block ls ++ commit c u ∷ []

-- a commit that sets the small state alone
abbrev pub set_up : {K : Type 0} → K → Rec K
set_up u = commit no_splice u

-- the small state after such records
unfoldable pub settled : {K S : Type 0} → (K → S → S) → S → List K → S
settled upd s [] = s
settled upd s (u ∷ us) = settled upd (upd u s) us

-- what a new tape begins with
abbrev pub begin_records : {K : Type 0} → ℕ → ℕ → List K → List (Rec K)
begin_records g n us = head g n ∷ map set_up us

-- which piece lies where
abbrev pub piece_in : {K : Type 0} → Rec K → Piece
piece_in (head g n) = no_piece
piece_in (line j b) = b
piece_in (copy i j b) = b
piece_in (commit c u) = no_piece
piece_in broken = no_piece

abbrev pub stored : {K : Type 0} → List (Rec K) → ℕ → ℕ → List Piece
stored rs k n = map piece_in (take n (drop k rs))

-- the pieces of a line lie in the records of T from k on
pub record Holds {K : Type 0} (T : List (Rec K)) (k : ℕ) (l : Packed) : Type 0 where
  pub there : k + length (pieces_of l) ≤ length T
  pub is : stored T k (length (pieces_of l)) ≡ pieces_of l

-- a line lies at a position, on tape t, which holds T
pub record On {K : Type 0} (T : List (Rec K)) (t : ℕ) (p : Position) (l : Packed) : Type 0 where
  pub on : p.tape ≡ t
  pub line : Holds T p.at l

-- two lists are alike, entry by entry
pub data Alike {A B : Type 0} (R : A → B → Type 0) : List A → List B → Type 0 where
  none : Alike R [] []
  more : {x : A} {y : B} {xs : List A} {ys : List B} → R x y → Alike R xs ys → Alike R (x ∷ xs) (y ∷ ys)

-- records that no state shows without a commit
pub data LinesOnly {K : Type 0} : List (Rec K) → Type 0 where
  no_more : LinesOnly []
  a_line : {j : ℕ} {b : Piece} {rs : List (Rec K)} → LinesOnly rs → LinesOnly (line j b ∷ rs)
  a_broken : {rs : List (Rec K)} → LinesOnly rs → LinesOnly (broken ∷ rs)

-- what a stop may leave of loose records: the first ones, and behind them perhaps a broken one
pub data Left {K : Type 0} : List (Rec K) → List (Rec K) → Type 0 where
  gone : {rs : List (Rec K)} → Left rs []
  torn : {r : Rec K} {rs : List (Rec K)} → Left (r ∷ rs) (broken ∷ [])
  kept : {r : Rec K} {rs zs : List (Rec K)} → Left rs zs → Left (r ∷ rs) (r ∷ zs)

-- which tape counts. The generation of a tape, or 0
abbrev pub head_of : {K : Type 0} → Rec K → ℕ
head_of (head g n) = g
head_of (line j b) = 0
head_of (copy i j b) = 0
head_of (commit c u) = 0
head_of broken = 0

abbrev pub generation : {K : Type 0} → List (Rec K) → ℕ
generation [] = 0
generation (r ∷ rs) = head_of r

-- generations are 1, 2, 3 in turn
abbrev pub next_generation : ℕ → ℕ
next_generation g = pick (g == 3) 1 (suc g)

pub data Which : Type 0 where
  neither : Which
  only : ℕ → Which

-- of two tapes with a head the older one counts
unfoldable pub choose : ℕ → ℕ → Which
choose zero zero = neither
choose zero (suc h) = only 1
choose (suc g) zero = only 0
choose (suc g) (suc h) = pick (suc h == next_generation (suc g)) (only 0) (only 1)

abbrev pub chosen : {K : Type 0} → (ℕ → List (Rec K)) → Which
chosen d = choose (generation (d 0)) (generation (d 1))

pub data InCycle : ℕ → Type 0 where
  cycle_1 : InCycle 1
  cycle_2 : InCycle 2
  cycle_3 : InCycle 3

-- a tape that doesn't count beside one of generation g
abbrev pub Newer : {K : Type 0} → ℕ → List (Rec K) → Type 0
Newer g T = (generation T ≡ 0) ⊎ (generation T ≡ next_generation g)

-- one tape, and the other
pub data Sides : ℕ → ℕ → Type 0 where
  ahead : Sides 0 1
  back : Sides 1 0

-- both tapes of a device, as records that have been read
abbrev pub Tapes : Type 0 → Type 0
Tapes K = ℕ → List (Rec K)

abbrev pub tapes : {K : Type 0} → (Page → Rec K) → Device → Tapes K
tapes read v t = map read (tape_of v t).records

-- what a stop leaves of a record of which only the first half came there
abbrev pub halved : Page → Page
halved p = take 256 p ++ so_many_of 256 0
