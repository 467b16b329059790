-- The sections of the memory behind the registers, and what each function makes of the memory. Assumes nothing: these are definitions.
use Rattle.std.specs.Prelude.{ℕ, suc, ◌+◌, ◌-◌, ◌*◌, ◌/◌, ◌%◌, Bool, ◌&&◌, List, [], ◌∷◌, ◌++◌, map, length, take, drop, replicate, ◌==◌, nat_le, nat_lt, slice_index, slice_range, slice_set}
use Rattle.plain.specs.Pattern.{pick, or}
use Rattle.plain.specs.Device.{lesser}
use Rattle.lines.specs.Slots as packed
use Rattle.lines.specs.Slots.{slots, with_slots}
use Rattle.lines.specs.Moves.{spliced, edited}
use Rattle.memory.specs.declared.directory.Position.{Position}
use Rattle.memory.specs.Numbers.{capped}
use Rattle.memory.specs.Registers.{part, with_part}

-- WHERE THEY ARE
abbrev pub ring_in : List ℕ → List ℕ
ring_in m = part 64 64 m

abbrev pub files_in : List ℕ → List ℕ
files_in m = part 128 4288 m

abbrev pub name_in : List ℕ → List ℕ
name_in m = part 4416 64 m

abbrev pub cells_in : List ℕ → List ℕ
cells_in m = part 4480 65536 m

abbrev pub words_in : List ℕ → List ℕ
words_in m = part 70016 174763 m

abbrev pub with_ring : List ℕ → List ℕ → List ℕ
with_ring m ws = with_part 64 64 m ws

abbrev pub with_files : List ℕ → List ℕ → List ℕ
with_files m fs = with_part 128 4288 m fs

abbrev pub with_name : List ℕ → List ℕ → List ℕ
with_name m bs = with_part 4416 64 m bs

abbrev pub with_cells : List ℕ → List ℕ → List ℕ
with_cells m cs = with_part 4480 65536 m cs

abbrev pub with_words : List ℕ → List ℕ → List ℕ
with_words m ws = with_part 70016 174763 m ws

-- THE DIRECTORY: a position is an entry of 21 bits, the tape above 20 bits of the record
abbrev pub packed_position : ℕ → ℕ → ℕ
packed_position tape at = (tape % 2) * 1048576 + at % 1048576

abbrev pub entry_position : ℕ → Position
entry_position n = record { tape = n / 1048576; at = n % 1048576 }

-- all of it, also what is not in use
abbrev pub entries_in : List ℕ → List ℕ
entries_in m = slots (words_in m)

-- entry i of n; none is a hole
unfoldable pub entry_at : ℕ → ℕ → List ℕ → Position
entry_at n i m = entry_position (slice_index (take n (entries_in m)) i)

-- the first entry from i on, of n, that lies on a tape; or where they end
unfoldable pub next_at : ℕ → ℕ → ℕ → List ℕ → ℕ
next_at tape i n m = packed.next_on tape i n (entries_in m)

unfoldable pub with_entry : ℕ → Position → List ℕ → List ℕ
with_entry i p m = with_words m (packed.stored (words_in m) i (packed_position p.tape p.at))

-- nothing but holes
unfoldable pub cleared : List ℕ → List ℕ
cleared m = with_words m (replicate 174763 0)

-- other entries in place of these
unfoldable pub with_entries : List ℕ → List ℕ → List ℕ
with_entries xs m = with_words m (with_slots (words_in m) xs)

-- CELLS: a byte below the entry of a pending line
abbrev pub low : ℕ → ℕ
low c = c % 256

abbrev pub high : ℕ → ℕ
high c = c / 256 % 2097152

abbrev pub with_low : ℕ → ℕ → ℕ
with_low c b = c / 256 * 256 + b % 256

abbrev pub with_high : ℕ → ℕ → ℕ
with_high c e = c % 256 + 256 * (e % 2097152)

unfoldable pub pending_entries : ℕ → List ℕ → List ℕ
pending_entries n m = map high (take n (cells_in m))

-- one more pending line, as the jth
unfoldable pub with_pending : ℕ → Position → List ℕ → List ℕ
with_pending j p m = with_cells m (slice_set (cells_in m) j (with_high (slice_index (cells_in m) j) (packed_position p.tape p.at)))

-- bytes over the low bytes of cells
unfoldable pub laid_low : List ℕ → List ℕ → List ℕ
laid_low [] cs = cs
laid_low (b ∷ bs) [] = []
laid_low (b ∷ bs) (c ∷ cs) = with_low c b ∷ laid_low bs cs

-- SPLICES of the first `count` entries: in place of q from p on come so many. Where it can't be done, the memory stays.
abbrev pub can_splice : (count p q k : ℕ) → Bool
can_splice count p q k = nat_le (p + q) count && (nat_le count 524289 && nat_le (count - q + k) 524289)

unfoldable pub with_splice : (count p q : ℕ) → List ℕ → List ℕ → List ℕ
with_splice count p q new m = with_entries (edited count p q new (entries_in m)) m

-- the entries of pending lines from p on
unfoldable pub pending_filled : ℕ → ℕ → List ℕ → List ℕ
pending_filled p k m = with_entries (spliced p k (pending_entries k m) (entries_in m)) m

abbrev pub can_put : (count p q k : ℕ) → Bool
can_put count p q k = nat_le k 65536 && can_splice count p q k

unfoldable pub pending_spliced : (count p q k : ℕ) → List ℕ → List ℕ
pending_spliced count p q k m = pick (can_put count p q k) (with_splice count p q (pending_entries k m) m) m

unfoldable pub nothing_spliced : (count p q : ℕ) → List ℕ → List ℕ
nothing_spliced count p q m = pick (can_splice count p q 0) (with_splice count p q [] m) m

abbrev pub can_copy : (count p q x y : ℕ) → Bool
can_copy count p q x y = nat_le x y && (can_splice count p q (y - x) && or (nat_le y p) (nat_le (p + q) x && nat_le y count))

unfoldable pub copied_spliced : (count p q x y : ℕ) → List ℕ → List ℕ
copied_spliced count p q x y m = pick (can_copy count p q x y) (with_splice count p q (slice_range (entries_in m) x y) m) m

-- THE RING: n weights, the oldest first; a 65th drops the oldest
abbrev pub ring_count : ℕ → ℕ
ring_count n = pick (nat_lt n 64) (n + 1) 64

abbrev pub ring_pushed : ℕ → ℕ → List ℕ → List ℕ
ring_pushed n w s = pick (nat_lt n 64) (slice_set s n (capped w)) (drop 1 s ++ capped w ∷ [])

unfoldable pub with_weight : ℕ → ℕ → List ℕ → List ℕ
with_weight n w m = with_ring m (ring_pushed n w (ring_in m))

-- NAMES: bytes over the front of a section
abbrev pub over : List ℕ → List ℕ → List ℕ
over bs s = map low bs ++ drop (length bs) s

-- the name that a command has; one that is too long is not kept
unfoldable pub name_kept : List ℕ → List ℕ → List ℕ
name_kept bs m = pick (nat_le (length bs) 64) (with_name m (over bs (name_in m))) m

-- FILES: the length of a name, lines, their weight, the name
abbrev pub file_numbers : List ℕ → ℕ → ℕ → List ℕ → List ℕ
file_numbers bs lines size old = length bs ∷ capped lines ∷ capped size ∷ over bs (drop 3 old)

unfoldable pub with_file : ℕ → List ℕ → ℕ → ℕ → List ℕ → List ℕ
with_file i bs lines size m = with_files m (with_part (67 * i) 67 (files_in m) (file_numbers bs lines size (part (67 * i) 67 (files_in m))))

-- a file past the last is a new one
abbrev pub can_file : (files i name : ℕ) → Bool
can_file files i name = nat_lt (lesser i files) 64 && nat_le name 64

abbrev pub file_count : ℕ → ℕ → ℕ
file_count files i = pick (nat_lt i files) files (files + 1)

unfoldable pub file_set : (files i : ℕ) → List ℕ → ℕ → ℕ → List ℕ → List ℕ
file_set files i bs lines size m = pick (can_file files i (length bs)) (with_file (lesser i files) bs lines size m) m

-- TEXT: bytes from a cell on; too many change nothing
unfoldable pub extended : ℕ → List ℕ → List ℕ → List ℕ
extended at bs m = pick (nat_le (at + length bs) 65536) (with_cells m (take at (cells_in m) ++ laid_low bs (drop at (cells_in m)))) m

-- where a line ends: at the next byte 10, or behind the last byte
unfoldable pub newline : ℕ → List ℕ → ℕ
newline k [] = k
newline k (b ∷ bs) = pick (b == 10) k (newline (suc k) bs)
