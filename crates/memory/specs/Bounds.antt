-- What a line adds to a sum, by its bytes. Assumes nothing: these are laws of numbers.
use Rattle.std.proofs.Common.{ℕ, ◌+◌, ◌*◌, ◌≤◌, Bool, true, false, ltb, arith}
use Rattle.plain.specs.Pattern.{pick}
use Rattle.engine.specs.Packing.{records_of}

pub weight_bound : (n : ℕ) → 64 + n ≤ 65 * (n + 1)
weight_bound n = omega arith

pub records_bound : (n : ℕ) → records_of n ≤ 3 * (n + 1)
records_bound n = by (ltb 1006 n) (ltb 503 n)
  where
    by : (a b : Bool) → pick a 3 (pick b 2 1) ≤ 3 * (n + 1)
    by true b = omega arith
    by false true = omega arith
    by false false = omega arith

pub weight_small : 65 ≤ 65
weight_small = omega arith

pub records_small : 3 ≤ 65
records_small = omega arith
