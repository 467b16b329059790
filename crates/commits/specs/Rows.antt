-- The end of a command: rows that are shown last, and how it ends. Assumes nothing: these are definitions.
use Rattle.std.specs.Prelude.{ℕ, List, nat_lt, slice_index_or}
use Rattle.plain.specs.Pattern.{pick, eight}
use Rattle.plain.specs.Run.{shows, done, refused}
use Rattle.commands.specs.declared.plan.Rows.{Rows}
use Rattle.commands.specs.declared.plan.Rows.TheVariants.{Nothing, Number, Files}
use Rattle.engine.specs.Machine.{file_row, no_entry}
use Rattle.memory.specs.declared.phase.Phase.TheVariants.{Idle, CountShown, FileShown}
use Rattle.memory.specs.declared.registers.Registers.{Registers}
use Rattle.memory.specs.Abstract.{files_of}
use Rattle.commits.specs.Acts.{Made, made}
use Rattle.commits.specs.Setters.{in_phase, with_carrying, with_index}

abbrev pub ends_done : Registers → List ℕ → Made
ends_done r m = made (in_phase Idle r) m done

abbrev pub refuses : ℕ → Registers → List ℕ → Made
refuses k r m = made (in_phase Idle r) m (refused k)

-- the row of file i, and of those behind it
unfoldable pub show_files : ℕ → Registers → List ℕ → Made
show_files i r m =
    pick (nat_lt i r.kept.files)
    (made (in_phase FileShown (with_carrying (with_index i r.carrying) r)) m (shows (file_row (slice_index_or (files_of r.kept.files m) i no_entry))))
    (ends_done r m)

abbrev pub finish_by : Rows → Registers → List ℕ → Made
finish_by Nothing r m = ends_done r m
finish_by (Number n) r m = made (in_phase CountShown r) m (shows (eight n))
finish_by Files r m = show_files 0 r m

-- the last row of a command that is done
unfoldable pub finish : Registers → List ℕ → Made
finish r m = finish_by r.job.plan.rows r m
