-- What the moves of a directory make of the list of its entries.
use Rattle.std.specs.Prelude.{ℕ, ◌+◌, ◌-◌, ◌≤◌, ◌⊎◌, List, ◌++◌, reverse, length, take, drop, slice_index, slice_range, slice_set}

-- xs in place of as many at the front of ys
abbrev pub laid : List ℕ → List ℕ → List ℕ
laid xs ys = xs ++ drop (length xs) ys

-- in place of q entries from p on: new ones
unfoldable pub spliced : (p q : ℕ) → (new xs : List ℕ) → List ℕ
spliced p q new xs = take p xs ++ (new ++ drop (p + q) xs)

-- the n entries from `from` on once more, in the places from `at` on
unfoldable pub copied : (from n at : ℕ) → List ℕ → List ℕ
copied from n at xs = take at xs ++ (take n (drop from xs) ++ drop (at + n) xs)

-- the entries at i and j, each in the other's place
unfoldable pub swapped : ℕ → ℕ → List ℕ → List ℕ
swapped i j xs = slice_set (slice_set xs i (slice_index xs j)) j (slice_index xs i)

-- the entries lo..hi in the opposite order, where lo ≤ hi ≤ length xs
unfoldable pub reversed : ℕ → ℕ → List ℕ → List ℕ
reversed lo hi xs = take lo xs ++ (reverse (slice_range xs lo hi) ++ drop hi xs)

-- the entries mid..hi before the entries lo..mid
unfoldable pub rotated : ℕ → ℕ → ℕ → List ℕ → List ℕ
rotated lo mid hi xs = take lo xs ++ (drop mid (take hi xs) ++ (drop lo (take mid xs) ++ drop hi xs))

-- a splice of the first `count` of `room` entries that can be done: it replaces entries that are there, and k new ones have room
pub record Splices (room count p q k : ℕ) : Type 0 where
  pub there : p + q ≤ count
  pub held : count ≤ room
  pub fits : count - q + k ≤ room

-- the same for a copy of the entries x..y, which lie before those that it replaces or behind them
pub record Duplicates (room count p q x y : ℕ) : Type 0 where
  pub splices : Splices room count p q (y - x)
  pub ordered : x ≤ y
  pub apart : (y ≤ p) ⊎ ((p + q ≤ x) × (y ≤ count))

-- all entries after a splice of the first `count`: those behind stay as they are
unfoldable pub edited : (count p q : ℕ) → (new xs : List ℕ) → List ℕ
edited count p q new xs = laid (spliced p q new (take count xs)) xs
