-- Pending lines, as the memory has them. Assumes nothing.
use Rattle.std.proofs.Common.{◌≡◌, ℕ, ◌≤◌, List, length, ap, ◌∙◌, arith}
use Rattle.std.proofs.lemmas.List.{set_past}
use Rattle.memory.specs.declared.directory.Position.{Position}
use Rattle.memory.specs.Sections.{cells_in, with_cells, with_pending}
use Rattle.memory.proofs.Parted as parted
use Rattle.memory.proofs.Splicing.{cells_long}

pub pending_past : (j : ℕ) (p : Position) (m : List ℕ) → length m ≡ 262144 → 65536 ≤ j → with_pending j p m ≡ m
unfolding with_pending
pending_past j p m h g =
    let l = cells_long m h in
    ap (with_cells m) (set_past (cells_in m) j _ (omega arith)) ∙ parted.with_own 4480 65536 m
