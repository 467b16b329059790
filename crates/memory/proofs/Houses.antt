-- The state that registers and memory stand for, as a whole. Assumes nothing.
use Rattle.std.proofs.Common.{◌≡◌, ℕ, List, drop, replicate, refl, ap, ◌∙◌}
use Rattle.journal.specs.Log.{state}
use Rattle.journal.specs.Small.{small}
use Rattle.commands.specs.Code.{plan_as}
use Rattle.engine.specs.State.{house, starting, walking_of, putting_of}
use Rattle.memory.specs.declared.kept.Kept.{Kept}
use Rattle.memory.specs.declared.registers.Registers.{Registers}
use Rattle.memory.specs.Numbers.{phase_of}
use Rattle.memory.specs.Registers.{loaded, stored, Tame}
use Rattle.memory.specs.Abstract.{phase_as, tapes_as, carrying_as, dir_of, pending_of, ring_of, files_at, store_of, text_of, name_of, job_lines, left_of, house_of}
use Rattle.memory.proofs.Frames.{BesideAll, beside_stored}
use Rattle.memory.proofs.Storing.{load_store}

-- of what is kept only lists count that are in use
pub store_same : (k : Kept) (m m₁ : List ℕ) → BesideAll m m₁ → store_of k m₁ ≡ store_of k m
store_same k m m₁ b = λ i.
    state (b.dir k.entries i) (b.pending k.pending i) (small k.count k.current k.weight (b.ring k.ring i) (b.files k.files i))

-- a memory of which all is the same stands for the same
pub house_same : (r : Registers) (m m₁ : List ℕ) → BesideAll m m₁ → house_of r m₁ ≡ house_of r m
unfolding house_of
house_same r m m₁ b = λ i.
    house (phase_as r.phase) (tapes_as r.tapes) (store_same r.kept m m₁ b i)
    (record {
      plan = plan_as r.job.plan;
      name = b.name r.job.name i;
      size = r.job.size;
      lines = job_lines r.job.lines (b.text r.job.text i);
    })
    (walking_of r.walking.line r.walking.part r.walking.went (b.text r.walking.bytes i))
    (putting_of r.putting.second (left_of r.putting.more r.job.lines (drop r.putting.at (b.text r.job.text i))) r.putting.part)
    (carrying_as r.carrying)

-- what is stored and loaded again stands for the same
pub house-stored : (r : Registers) (m : List ℕ) → Tame r → house_of (loaded (stored r m)) (stored r m) ≡ house_of r m
house-stored r m t = ap (λ q. house_of q (stored r m)) (load_store r m t) ∙ house_same r m (stored r m) (beside_stored r m)

-- a memory of zeros is the machine at its start
pub house-zeros : house_of (loaded (replicate 262144 0)) (replicate 262144 0) ≡ starting 0
unfolding house_of loaded dir_of pending_of ring_of files_at text_of name_of phase_of
house-zeros = refl
