-- Registers of a state that fits are loaded as they were stored. Assumes nothing.
use Rattle.std.proofs.Common.{ℕ, List, arith}
use Rattle.commands.specs.Code.{update_as, rows_as}
use Rattle.journal.specs.Values.{source_of}
use Rattle.commands.specs.declared.plan.Update.{Update}
use Rattle.commands.specs.declared.plan.Update.TheVariants as update
use Rattle.commands.specs.declared.plan.Rows.{Rows}
use Rattle.commands.specs.declared.plan.Rows.TheVariants as rows
use Rattle.journal.specs.declared.commit.Source.{Source}
use Rattle.journal.specs.declared.commit.Source.TheVariants as source
use Rattle.engine.specs.Fits.{Fits, UpdateFits, RowsFit, SourceFits}
use Rattle.memory.specs.declared.registers.Registers.{Registers}
use Rattle.memory.specs.Registers.{Tame, TameUpdate, TameRows, TameSource, loaded}
use Rattle.memory.specs.Abstract.{house_of}
use Rattle.memory.proofs.Storing.{tame_loaded}
use Rattle.commits.specs.Bounds.{Bounded}

update_tame : (u : Update) → UpdateFits (update_as u) → TameUpdate u
update_tame update.Nothing f = tt
update_tame update.Current f = tt
update_tame update.Text f = tt
update_tame (update.File n) f = omega arith

rows_tame : (q : Rows) → RowsFit (rows_as q) → TameRows q
rows_tame rows.Nothing f = tt
rows_tame (rows.Number n) f = f
rows_tame rows.Files f = tt

source_tame : (s : Source ℕ) → SourceFits (source_of s) → TameSource s
source_tame source.Nothing f = tt
source_tame source.New f = tt
source_tame (source.Copied a b) f = f

pub tame_of : (r : Registers) (m : List ℕ) → Bounded r → Fits (house_of r m) → Tame r
unfolding house_of
tame_of r m b f =
    let t = f.tapes in
    let p = f.job.plan in
    let w = f.walking in
    let c = f.carrying in
    record {
      tapes = record { room = let z = t.room in omega arith; active = b.active; generation = let z = t.generation in omega arith; used = let z = t.used in omega arith; other = let z = t.other in omega arith; cursor = let z = t.cursor in omega arith };
      kept = b.kept;
      job = record {
        plan = record {
          after = p.after;
          upto = p.upto;
          update = update_tame r.job.plan.update p.update;
          from = p.splice.from;
          gone = p.splice.gone;
          source = source_tame r.job.plan.splice.source p.splice.source;
          came = let z = p.came in omega arith;
          count = p.count;
          current = p.current;
          rows = rows_tame r.job.plan.rows p.rows;
        };
        name = b.name;
        size = f.job.size;
        text = b.text;
      };
      walking = record { line = w.line; part = let z = w.part in omega arith; went = w.went; bytes = b.bytes };
      putting = record { at = b.at; part = let z = f.putting.part in omega arith };
      carrying = record { index = c.index; part = let z = c.part in omega arith; long = let z = c.long in omega arith; start = let z = c.start in omega arith; quota = c.quota };
    }

-- whatever is loaded is within its bounds
pub bounded-loaded : (m : List ℕ) → Bounded (loaded m)
bounded-loaded m = let t = tame_loaded m in record { active = t.tapes.active; kept = t.kept; name = t.job.name; text = t.job.text; bytes = t.walking.bytes; at = t.putting.at }
