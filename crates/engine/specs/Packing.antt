-- Lines in records: a record has up to 503 bytes of a line. Assumes nothing: these are definitions.
use Rattle.std.specs.Prelude.{ℕ, zero, suc, ◌+◌, ◌-◌, ◌*◌, List, [], ◌∷◌, map, length, take, drop, ◌==◌, nat_lt}
use Rattle.plain.specs.Pattern.{pick, added_up}
use Rattle.journal.specs.Log.{Position, Piece, piece, Packed}

-- how many records a line of so many bytes takes: at most 3, as it has up to 1,024
abbrev pub records_of : ℕ → ℕ
records_of n = pick (nat_lt 1006 n) 3 (pick (nat_lt 503 n) 2 1)

abbrev pub lines_records : List (List ℕ) → ℕ
lines_records ls = added_up (λ l. records_of (length l)) ls

abbrev pub piece_of : List ℕ → ℕ → Piece
piece_of l j = piece (length l) (take 503 (drop (503 * j) l))

unfoldable pub pieces_from : List ℕ → ℕ → ℕ → List Piece
pieces_from l j zero = []
pieces_from l j (suc n) = piece_of l j ∷ pieces_from l (suc j) n

abbrev pub packed : List ℕ → Packed
packed l = record { one = piece_of l 0; more = pieces_from l 1 (records_of (length l) - 1) }

abbrev pub packs : List (List ℕ) → List Packed
packs ls = map packed ls

-- how many records of the lines lie on tape t, where the directory says
unfoldable pub records_on : ℕ → List Position → List (List ℕ) → ℕ
records_on t [] ls = 0
records_on t (p ∷ ps) [] = 0
records_on t (p ∷ ps) (l ∷ ls) = pick (p.tape == t) (records_of (length l)) 0 + records_on t ps ls
