-- What the memory is for. Assumes nothing: these are definitions.
use Rattle.std.specs.Prelude.{◌≡◌, ℕ, true, List, length, replicate}
use Rattle.journal.specs.Log.{Splice, commit, after}
use Rattle.journal.specs.Small.{News, updated}
use Rattle.engine.specs.Fits.{AlsoFits}
use Rattle.engine.specs.State.{starting}
use Rattle.memory.specs.declared.kept.Kept.{Kept}
use Rattle.memory.specs.declared.registers.Registers.{Registers}
use Rattle.memory.specs.Registers.{loaded, stored, Tame, TameKept}
use Rattle.memory.specs.Abstract.{store_of, house_of}
use Rattle.memory.specs.Commit.{can_apply, kept_after, applied}

-- registers that fit are loaded as they were stored, and the memory stands for the same state as before
unfoldable pub LoadsBack : Type 0
LoadsBack = (r : Registers) (m : List ℕ) → Tame r → (loaded (stored r m) ≡ r) × (house_of (loaded (stored r m)) (stored r m) ≡ house_of r m)

-- a memory of zeros stands for the state at the start
unfoldable pub BeginsEmpty : Type 0
BeginsEmpty = house_of (loaded (replicate 262144 0)) (replicate 262144 0) ≡ starting 0

-- a commit makes of the memory what the log makes of the state
unfoldable pub CommitsAsLogged : Type 0
CommitsAsLogged =
    (tape at : ℕ) (k : Kept) (c : Splice) (u : News) (m : List ℕ) → length m ≡ 262144 → TameKept k → AlsoFits u.also → can_apply k c u ≡ true
    → store_of (kept_after k c u) (applied k c u m) ≡ after updated tape at (store_of k m) (commit c u)
