-- That neither tape ever gets full: beginning to carry, going on, and ending keep the bounds. Assumes nothing.
use Rattle.std.proofs.Common.{ℕ, ◌+◌, ◌-◌, ◌*◌, ◌<◌, ◌≤◌, arith}
use Rattle.journal.specs.Room.{Rooms, Carrying}

pub carrying-begins : {R T m n J : ℕ} (V : ℕ) → m ≤ T → n ≤ 130 → J ≤ V → 64 * V ≤ 32 * R → Carrying R T m n 0 0 J
carrying-begins V a b c d = record { old = omega arith; new = omega arith; slow = omega arith }

-- it has room for all that it will carry, and for the own records on both
pub carrying-fits :
    {R T m n VY S J : ℕ} (V s put : ℕ) → Rooms R T → Carrying R T m n VY S J → VY ≤ V → 64 * (V + put) ≤ 32 * R → 16 * s ≤ J → put + 1 ≤ 3 * s →
    (m + (put + 1) < R) × (n + (V - VY) + (put + 1) < R)
carrying-fits V s put r c v w j p = (let a = c.old in let b = c.slow in let d = r.below in let e = r.enough in omega arith, let a = c.new in let b = c.slow in let d = r.below in let e = r.enough in omega arith)

-- a command of size s, which carried 16 s entries of so many records, put its own on both, and took lines of at most `went` records out of the directory
pub carrying-goes-on :
    {R T m n VY S J : ℕ} (s put more went VY₁ J₁ : ℕ) → Rooms R T → Carrying R T m n VY S J → J₁ + 16 * s ≤ J → put + 1 ≤ 3 * s → went + 1 ≤ 3 * s → VY + more + put ≤ VY₁ + went →
    Carrying R T (m + (put + 1)) (n + more + (put + 1)) VY₁ (S + s) J₁
carrying-goes-on s put more went VY₁ J₁ r c j p g v = record {
  old = let a = c.old in omega arith;
  new = let a = c.new in omega arith;
  slow = let a = c.slow in omega arith;
}

-- and where all has been carried, what the command puts on leaves it idle
pub carrying-ends :
    {R T m n V S J : ℕ} (put : ℕ) → Rooms R T → Carrying R T m n V S J → 64 * (V + put) ≤ 32 * R → n + (put + 1) ≤ T
carrying-ends put r c w = let a = c.new in let b = c.slow in let d = r.above in let e = r.enough in omega arith
