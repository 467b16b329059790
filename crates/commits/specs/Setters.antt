-- Registers with one part changed. Assumes nothing: these are definitions.
use Rattle.std.specs.Prelude.{ℕ, ◌-◌, Bool}
use Rattle.commands.specs.declared.plan.Plan.{Plan}
use Rattle.memory.specs.declared.phase.Phase.{Phase}
use Rattle.memory.specs.declared.job.Lines.{Lines}
use Rattle.memory.specs.declared.tapes.Tapes.{Tapes}
use Rattle.memory.specs.declared.kept.Kept.{Kept}
use Rattle.memory.specs.declared.job.Job.{Job}
use Rattle.memory.specs.declared.walking.Walking.{Walking}
use Rattle.memory.specs.declared.walking.Putting.{Putting}
use Rattle.memory.specs.declared.carrying.Carrying.{Carrying}
use Rattle.memory.specs.declared.registers.Registers.{Registers}

-- THE PARTS
abbrev pub tapes : ℕ → ℕ → ℕ → ℕ → Bool → ℕ → ℕ → Tapes
tapes r t g u b o c = record { room = r; active = t; generation = g; used = u; busy = b; other = o; cursor = c }

abbrev pub job : Plan → ℕ → ℕ → Lines → ℕ → Job
job p n s ls t = record { plan = p; name = n; size = s; lines = ls; text = t }

abbrev pub walking : ℕ → ℕ → ℕ → ℕ → Walking
walking l p w n = record { line = l; part = p; went = w; bytes = n }

abbrev pub putting : Bool → Bool → ℕ → ℕ → Putting
putting s m a p = record { second = s; more = m; at = a; part = p }

abbrev pub carrying : ℕ → ℕ → ℕ → ℕ → ℕ → Bool → Carrying
carrying i p l s q w = record { index = i; part = p; long = l; start = s; quota = q; waking = w }

abbrev pub with_used : ℕ → Tapes → Tapes
with_used n t = tapes t.room t.active t.generation n t.busy t.other t.cursor

abbrev pub with_other : ℕ → Tapes → Tapes
with_other n t = tapes t.room t.active t.generation t.used t.busy n t.cursor

abbrev pub with_cursor : ℕ → Tapes → Tapes
with_cursor n t = tapes t.room t.active t.generation t.used t.busy t.other n

abbrev pub with_pending : ℕ → Kept → Kept
with_pending n k = record { entries = k.entries; pending = n; count = k.count; current = k.current; weight = k.weight; ring = k.ring; files = k.files }

abbrev pub with_entries : ℕ → Kept → Kept
with_entries n k = record { entries = n; pending = k.pending; count = k.count; current = k.current; weight = k.weight; ring = k.ring; files = k.files }

abbrev pub with_index : ℕ → Carrying → Carrying
with_index i c = carrying i c.part c.long c.start c.quota c.waking

-- ALL OF THEM
abbrev pub registers : Phase → Tapes → Kept → Job → Walking → Putting → Carrying → Registers
registers ph t k j w p c = record { phase = ph; tapes = t; kept = k; job = j; walking = w; putting = p; carrying = c }

abbrev pub in_phase : Phase → Registers → Registers
in_phase ph r = registers ph r.tapes r.kept r.job r.walking r.putting r.carrying

abbrev pub with_tapes : Tapes → Registers → Registers
with_tapes t r = registers r.phase t r.kept r.job r.walking r.putting r.carrying

abbrev pub with_kept : Kept → Registers → Registers
with_kept k r = registers r.phase r.tapes k r.job r.walking r.putting r.carrying

abbrev pub with_job : Job → Registers → Registers
with_job j r = registers r.phase r.tapes r.kept j r.walking r.putting r.carrying

abbrev pub with_walking : Walking → Registers → Registers
with_walking w r = registers r.phase r.tapes r.kept r.job w r.putting r.carrying

abbrev pub with_putting : Putting → Registers → Registers
with_putting p r = registers r.phase r.tapes r.kept r.job r.walking p r.carrying

abbrev pub with_carrying : Carrying → Registers → Registers
with_carrying c r = registers r.phase r.tapes r.kept r.job r.walking r.putting c

-- the other tape
abbrev pub passive : Registers → ℕ
passive r = 1 - r.tapes.active
