-- Where a line lies: numbers that are small enough to be told. Assumes nothing.
use Rattle.std.proofs.Common.{◌≡◌, ℕ, zero, suc, ◌+◌, ◌*◌, ◌%◌, ◌<◌, List, [], ◌∷◌, get_or, take, drop, ap, arith}
use Rattle.memory.specs.declared.directory.Position.{Position}
use Rattle.memory.specs.Sections.{words_in, entries_in, entry_at}
use Rattle.memory.proofs.Entries.{Whole, whole-slots, whole_take}
use Rattle.protocol.specs.declared.Told.{Told}
use Rattle.protocol.specs.declared.Told.TheVariants.{Read}

-- an entry has 21 bits
small_in : (xs : List ℕ) (i : ℕ) → Whole xs → get_or xs i 0 < 2097152
small_in [] i h = omega arith
small_in (x ∷ xs) zero h = let e : x % 2097152 ≡ x = ap (λ zs. get_or zs 0 0) h in omega arith
small_in (x ∷ xs) (suc i) h = small_in xs i (ap (drop 1) h)

pub record Near (p : Position) : Type 0 where
  pub tape : p.tape < 2
  pub at : p.at < 1048576

pub entry_near : (n i : ℕ) (m : List ℕ) → Near (entry_at n i m)
unfolding entry_at
entry_near n i m =
    let h = small_in (take n (entries_in m)) i (whole_take n (entries_in m) (whole-slots (words_in m))) in
    record { tape = omega arith; at = omega arith }

-- a record of it, as it is told
abbrev pub read_of : Position → Told
read_of p = Read (2 * p.at + p.tape)
