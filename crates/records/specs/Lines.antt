-- A line in records: 503 of its bytes to each, and one record for an empty line. Assumes nothing: these are definitions.
use Rattle.std.specs.Prelude.{ℕ, zero, suc, ◌+◌, ◌-◌, ◌*◌, ◌/◌, List, [], ◌∷◌, ◌++◌, length, take, drop}
use Rattle.plain.specs.Device.{lesser}
use Rattle.journal.specs.Log.{Piece, piece, Packed}

-- how many records a line of n bytes takes
abbrev pub records_for : ℕ → ℕ
records_for n = 1 + (n - 1) / 503

-- how many of its bytes are in part j
abbrev pub share : ℕ → ℕ → ℕ
share n j = lesser (n - 503 * j) 503

abbrev pub piece_at : List ℕ → ℕ → Piece
piece_at bs j = piece (length bs) (take 503 (drop (503 * j) bs))

unfoldable pub pieces : ℕ → ℕ → List ℕ → List Piece
pieces zero j bs = []
pieces (suc k) j bs = piece_at bs j ∷ pieces k (suc j) bs

abbrev pub packed : List ℕ → Packed
packed bs = record { one = piece_at bs 0; more = pieces ((length bs - 1) / 503) 1 bs }

-- the bytes of pieces, one after the other
unfoldable pub joined : List Piece → List ℕ
joined [] = []
joined (p ∷ ps) = p.bytes ++ joined ps
