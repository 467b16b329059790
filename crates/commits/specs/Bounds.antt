-- Registers as they are in the middle of a step. Assumes nothing: these are definitions.
use Rattle.std.specs.Prelude.{ℕ, ◌<◌, ◌≤◌}
use Rattle.commands.specs.declared.plan.Plan.{Plan}
use Rattle.commands.specs.declared.plan.Update.{Update}
use Rattle.commands.specs.declared.plan.Update.TheVariants as update
use Rattle.commands.specs.declared.plan.Rows.{Rows}
use Rattle.commands.specs.declared.plan.Rows.TheVariants as rows
use Rattle.journal.specs.declared.commit.Source.{Source}
use Rattle.journal.specs.declared.commit.Source.TheVariants as source
use Rattle.memory.specs.declared.tapes.Tapes.{Tapes}
use Rattle.memory.specs.declared.carrying.Carrying.{Carrying}
use Rattle.memory.specs.declared.registers.Registers.{Registers}
use Rattle.memory.specs.Registers.{TameKept}

-- LISTS ARE AS LONG AS THEIR SECTIONS ARE, whatever was in the memory
pub record Bounded (r : Registers) : Type 0 where
  pub active : r.tapes.active < 2
  pub kept : TameKept r.kept
  pub name : r.job.name ≤ 64
  pub text : r.job.text ≤ 65536
  pub bytes : r.walking.bytes ≤ 65536
  pub at : r.putting.at ≤ 65536

-- NUMBERS OF 40 BITS, so that no sum of a few is too large
abbrev pub Wide : ℕ → Type 0
Wide n = n < 1099511627776

pub record WideTapes (t : Tapes) : Type 0 where
  pub room : Wide t.room
  pub generation : Wide t.generation
  pub used : Wide t.used
  pub other : Wide t.other
  pub cursor : Wide t.cursor

abbrev pub WideUpdate : Update → Type 0
WideUpdate update.Nothing = Unit {0}
WideUpdate update.Current = Unit {0}
WideUpdate update.Text = Unit {0}
WideUpdate (update.File n) = Wide n

abbrev pub WideRows : Rows → Type 0
WideRows rows.Nothing = Unit {0}
WideRows (rows.Number n) = Wide n
WideRows rows.Files = Unit {0}

abbrev pub WideSource : Source ℕ → Type 0
WideSource source.Nothing = Unit {0}
WideSource source.New = Unit {0}
WideSource (source.Copied a b) = Wide a × Wide b

pub record WidePlan (p : Plan) : Type 0 where
  pub after : Wide p.span.after
  pub upto : Wide p.span.upto
  pub update : WideUpdate p.update
  pub from : Wide p.splice.from
  pub gone : Wide p.splice.gone
  pub source : WideSource p.splice.source
  pub came : Wide p.came
  pub count : Wide p.count
  pub current : Wide p.current
  pub rows : WideRows p.rows

-- how many entries may be carried is only compared and counted down
pub record WideCarrying (c : Carrying) : Type 0 where
  pub index : Wide c.index
  pub part : Wide c.part
  pub long : Wide c.long
  pub start : Wide c.start

pub record Loose (r : Registers) : Type 0 where
  pub bounded : Bounded r
  pub tapes : WideTapes r.tapes
  pub plan : WidePlan r.job.plan
  pub size : Wide r.job.size
  pub line : Wide r.walking.line
  pub part : Wide r.walking.part
  pub went : Wide r.walking.went
  pub put_part : Wide r.putting.part
  pub carrying : WideCarrying r.carrying
