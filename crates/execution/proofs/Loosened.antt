-- Registers in the middle of a step are as large as they may be. Assumes nothing.
use Rattle.std.proofs.Common.{ℕ, ◌<◌, ◌≤◌, arith}
use Rattle.commands.specs.declared.plan.Plan.{Plan}
use Rattle.commands.specs.declared.plan.Walk.{Walk}
use Rattle.commands.specs.declared.plan.Walk.TheVariants as walk
use Rattle.commands.specs.declared.plan.Update.{Update}
use Rattle.commands.specs.declared.plan.Update.TheVariants as update
use Rattle.commands.specs.declared.plan.Rows.{Rows}
use Rattle.commands.specs.declared.plan.Rows.TheVariants as rows
use Rattle.journal.specs.declared.commit.Source.{Source}
use Rattle.journal.specs.declared.commit.Source.TheVariants as source
use Rattle.memory.specs.declared.job.Job.{Job}
use Rattle.memory.specs.declared.walking.Walking.{Walking}
use Rattle.memory.specs.declared.walking.Putting.{Putting}
use Rattle.memory.specs.declared.registers.Registers.{Registers}
use Rattle.memory.specs.Registers.{Tame, TameUpdate, TameRows, TameSource, TamePlan}
use Rattle.commits.specs.Bounds.{Wide, WideUpdate, WideRows, WideSource, WidePlan, Loose}
use Rattle.commits.specs.Setters.{with_job, with_walking, with_putting}
use Rattle.execution.specs.Walk.{lines_then}

wide_update : (u : Update) → TameUpdate u → WideUpdate u
wide_update update.Nothing h = tt
wide_update update.Current h = tt
wide_update update.Text h = tt
wide_update (update.File n) h = omega arith

wide_rows : (u : Rows) → TameRows u → WideRows u
wide_rows rows.Nothing h = tt
wide_rows (rows.Number n) h = omega arith
wide_rows rows.Files h = tt

wide_source : (u : Source ℕ) → TameSource u → WideSource u
wide_source source.Nothing h = tt
wide_source source.New h = tt
wide_source (source.Copied a b) h = (omega (arith, h.0), omega (arith, h.1))

wide : (n : ℕ) → n < 4294967296 → Wide n
wide n h = omega arith

wide_plan : (p : Plan) → TamePlan p → WidePlan p
wide_plan p t = record {
  after = wide p.span.after t.after;
  upto = wide p.span.upto t.upto;
  update = wide_update p.update t.update;
  from = wide p.splice.from t.from;
  gone = wide p.splice.gone t.gone;
  source = wide_source p.splice.source t.source;
  came = wide p.came t.came;
  count = wide p.count t.count;
  current = wide p.current t.current;
  rows = wide_rows p.rows t.rows;
}

-- AS THEY ARE LOADED
pub tame_loose : (r : Registers) → Tame r → Loose r
tame_loose r t = record {
  bounded = record { active = t.tapes.active; kept = t.kept; name = t.job.name; text = t.job.text; bytes = t.walking.bytes; at = t.putting.at };
  tapes = record {
    room = wide r.tapes.room t.tapes.room;
    generation = wide r.tapes.generation t.tapes.generation;
    used = wide r.tapes.used t.tapes.used;
    other = wide r.tapes.other t.tapes.other;
    cursor = wide r.tapes.cursor t.tapes.cursor;
  };
  plan = wide_plan r.job.plan t.job.plan;
  size = wide r.job.size t.job.size;
  line = wide r.walking.line t.walking.line;
  part = wide r.walking.part t.walking.part;
  went = wide r.walking.went t.walking.went;
  put_part = wide r.putting.part t.putting.part;
  carrying = record {
    index = wide r.carrying.index t.carrying.index;
    part = wide r.carrying.part t.carrying.part;
    long = wide r.carrying.long t.carrying.long;
    start = wide r.carrying.start t.carrying.start;
  };
}

-- WITH A PART CHANGED
pub loose-walking : (w : Walking) (r : Registers) → Wide w.line → Wide w.part → Wide w.went → w.bytes ≤ 65536 → Loose r → Loose (with_walking w r)
loose-walking w r a b c d l = record {
  bounded = record { active = l.bounded.active; kept = l.bounded.kept; name = l.bounded.name; text = l.bounded.text; bytes = d; at = l.bounded.at };
  tapes = l.tapes;
  plan = l.plan;
  size = l.size;
  line = a;
  part = b;
  went = c;
  put_part = l.put_part;
  carrying = l.carrying;
}

pub loose-job : (j : Job) (r : Registers) → WidePlan j.plan → j.name ≤ 64 → Wide j.size → j.text ≤ 65536 → Loose r → Loose (with_job j r)
loose-job j r p n s t l = record {
  bounded = record { active = l.bounded.active; kept = l.bounded.kept; name = n; text = t; bytes = l.bounded.bytes; at = l.bounded.at };
  tapes = l.tapes;
  plan = p;
  size = s;
  line = l.line;
  part = l.part;
  went = l.went;
  put_part = l.put_part;
  carrying = l.carrying;
}

pub loose-putting : (p : Putting) (r : Registers) → p.at ≤ 65536 → Wide p.part → Loose r → Loose (with_putting p r)
loose-putting p r a b l = record {
  bounded = record { active = l.bounded.active; kept = l.bounded.kept; name = l.bounded.name; text = l.bounded.text; bytes = l.bounded.bytes; at = a };
  tapes = l.tapes;
  plan = l.plan;
  size = l.size;
  line = l.line;
  part = l.part;
  went = l.went;
  put_part = b;
  carrying = l.carrying;
}

pub loose-then : (w : Walk) (r : Registers) → Loose r → Loose (lines_then w r)
loose-then walk.Skip r l = l
loose-then walk.Show r l = l
loose-then walk.ShowNumbered r l = l
loose-then walk.Measure r l = l
loose-then walk.Join r l = loose-job _ r l.plan l.bounded.name l.size l.bounded.bytes l
