-- A directory packs three entries of 21 bits into each word: word = a + 2^21 * b + 2^42 * c. The top bit belongs to no entry.
use Rattle.std.specs.Prelude.{ℕ, suc, ◌+◌, ◌-◌, ◌*◌, ◌/◌, ◌%◌, ◌^◌, List, [], ◌∷◌, take, drop, ◌==◌, slice_index, slice_set}
use Rattle.plain.specs.Pattern.{pick}

-- the low 21 bits, which are all that an entry holds
abbrev pub entry : ℕ → ℕ
entry v = v % 2 ^ 21

-- the k-th entry of a word, for k below 3
abbrev pub field : ℕ → ℕ → ℕ
field w k = w / 2 ^ (21 * k) % 2 ^ 21

-- the word with its k-th entry replaced; every other bit, the top one too, is kept
abbrev pub packed : ℕ → ℕ → ℕ → ℕ
packed w k v = w - field w k * 2 ^ (21 * k) + entry v * 2 ^ (21 * k)

-- all entries of all words, in order
abbrev pub slots : List ℕ → List ℕ
slots [] = []
slots (w ∷ ws) = field w 0 ∷ field w 1 ∷ field w 2 ∷ slots ws

-- the top bits of the words, which no entry has: with the entries they are all of the words
abbrev pub spares : List ℕ → List ℕ
spares [] = []
spares (w ∷ ws) = w / 2 ^ 63 ∷ spares ws

-- the words after entry i is written; past the end, the words as they were
abbrev pub stored : List ℕ → ℕ → ℕ → List ℕ
stored ws i v = slice_set ws (i / 3) (packed (slice_index ws (i / 3)) (i % 3) v)

-- the words with other entries, and their top bits as they were
abbrev pub with_slots : List ℕ → List ℕ → List ℕ
with_slots [] xs = []
with_slots (w ∷ ws) xs =
    (w / 2 ^ 63 * 2 ^ 63 + entry (slice_index xs 0) + entry (slice_index xs 1) * 2 ^ 21 + entry (slice_index xs 2) * 2 ^ 42) ∷ with_slots ws (drop 3 xs)

-- the place of the first entry of a tape, where xs are the entries from the place k on; behind the last where there is none
unfoldable pub first_on : (tape k : ℕ) → List ℕ → ℕ
first_on t k [] = k
first_on t k (x ∷ xs) = pick (x / 2 ^ 20 == t) k (first_on t (suc k) xs)

-- the place of the first entry of a tape among the places from..to
abbrev pub next_on : (tape from to : ℕ) → List ℕ → ℕ
next_on t from to xs = first_on t from (drop from (take to xs))
