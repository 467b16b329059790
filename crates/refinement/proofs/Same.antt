-- What is to be shown of each phase: memory keeps its length and its bounds, whatever it holds; and where the state fits then, it is the machine's. Assumes
-- nothing.
use Rattle.std.proofs.Common.{◌≡◌, ℕ, ◌≤◌, Bool, true, false, List, length, drop, sym, ◌∙◌, subst, arith}
use Rattle.std.proofs.lemmas.List.{length-take, length-map}
use Rattle.plain.specs.Pattern.{pick}
use Rattle.journal.specs.Log.{State}
use Rattle.journal.specs.Small.{Small}
use Rattle.commands.specs.Code.{plan_as}
use Rattle.engine.specs.State as engine
use Rattle.engine.specs.State.{House}
use Rattle.engine.specs.Fits.{Fits}
use Rattle.engine.specs.Machine.{Does}
use Rattle.memory.specs.declared.registers.Registers.{Registers}
use Rattle.memory.specs.Sections.{entries_in}
use Rattle.memory.specs.Abstract.{house_of, dir_of, pending_of, phase_as, tapes_as, carrying_as, store_of, job_of, walking_as, putting_as, job_lines, left_of}
use Rattle.memory.proofs.Frames.{SameText, SameName}
use Rattle.memory.proofs.Splicing.{entries-long, cells_long}
use Rattle.memory.proofs.Steadiness.{Kept}
use Rattle.commits.specs.Acts.{Made}
use Rattle.commits.specs.Bounds.{Bounded}

-- whatever the memory holds
pub record Safe (m : List ℕ) (d : Made) : Type 0 where
  pub bounded : Bounded d.registers
  pub kept : Kept m d.memory

-- the same act, and the same state
pub record Same (d : Made) (y : Does) : Type 0 where
  pub act : d.act ≡ y.act
  pub state : house_of d.registers d.memory ≡ y.state

pub safe_pick : {m : List ℕ} (b : Bool) {d e : Made} → Safe m d → Safe m e → Safe m (pick b d e)
safe_pick true p q = p
safe_pick false p q = q

pub same_pick : (b : Bool) {d e : Made} {y z : Does} → (Fits y.state → Same d y) → (Fits z.state → Same e z) → Fits (pick b y z).state → Same (pick b d e) (pick b y z)
same_pick true p q f = p f
same_pick false p q f = q f

-- the same where the tests are
pub same_by : {a b : Bool} {d e : Made} {y z : Does} → a ≡ b → (Fits y.state → Same d y) → (Fits z.state → Same e z) → Fits (pick b y z).state → Same (pick a d e) (pick b y z)
same_by {a} {b} {d} {e} {y} {z} t p q f = subst (λ c. Same (pick c d e) (pick b y z)) (sym t) (same_pick b p q f)

-- of a state that is another's
pub same_at : (d : Made) (x y : House) (f : House → Does) → x ≡ y → (Fits (f x).state → Same d (f x)) → Fits (f y).state → Same d (f y)
same_at d x y f e g h = subst (λ z. Same d (f z)) e (g (subst (λ z. Fits (f z).state) (sym e) h))

-- HOW MANY
pub dir-long : (n : ℕ) (m : List ℕ) → length m ≡ 262144 → n ≤ 524289 → length (dir_of n m) ≡ n
unfolding dir_of
dir-long n m h g = let l = entries-long m h in length-map _ _ ∙ length-take n (entries_in m) ∙ omega arith

pub pending-many : (n : ℕ) (m : List ℕ) → length m ≡ 262144 → n ≤ 65536 → length (pending_of n m) ≡ n
unfolding pending_of
pending-many n m h g = let l = cells_long m h in length-map _ _ ∙ length-take n _ ∙ omega arith

-- A STATE, part by part: other registers and another memory with the same text and name in use
pub rebuilt : (r : Registers) (m m₁ : List ℕ) → SameText m m₁ → SameName m m₁ → {t : engine.Tapes} {s : State Small} → tapes_as r.tapes ≡ t → store_of r.kept m₁ ≡ s →
    house_of r m₁ ≡ engine.house (phase_as r.phase) t s (job_of r.job m) (walking_as r.walking m) (putting_as r.putting r.job m) (carrying_as r.carrying)
unfolding house_of
rebuilt r m m₁ text name t s = λ i.
    engine.house (phase_as r.phase) (t i) (s i)
    (record { plan = plan_as r.job.plan; name = name r.job.name i; size = r.job.size; lines = job_lines r.job.lines (text r.job.text i) })
    (engine.walking_of r.walking.line r.walking.part r.walking.went (text r.walking.bytes i))
    (engine.putting_of r.putting.second (left_of r.putting.more r.job.lines (drop r.putting.at (text r.job.text i))) r.putting.part)
    (carrying_as r.carrying)
