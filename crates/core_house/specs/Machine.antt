-- The machine on its registers and its memory: what it does when it is told something. Assumes nothing: these are definitions.
use Rattle.std.specs.Prelude.{ℕ, suc, List, replicate}
use Rattle.plain.specs.Device.{Page}
use Rattle.plain.specs.Run.{Event, on, said, page, next}
use Rattle.memory.specs.declared.phase.Phase.{Phase}
use Rattle.memory.specs.declared.phase.Phase.TheVariants.{Idle, WakeFirst, WakeSecond, Replaying, FreshBegun, FreshHead, FreshFast, CompactBegun, SettingUp, CarryRead, CarryPut, CompactFast, Switched, Fetching, RowShown, LinePut, CommitPut, CommitFast, CountShown, FileShown}
use Rattle.memory.specs.declared.registers.Registers.{Registers}
use Rattle.commits.specs.Acts.{Made}
use Rattle.commits.specs.Rows.{ends_done, refuses, show_files}
use Rattle.commits.specs.Putting.{after_line, after_commit, after_fast}
use Rattle.compaction.specs.Carry.{carry_piece, after_carry, put_head, set_up_next, begin_old, after_switch}
use Rattle.execution.specs.Walk.{walk_on, fetched}
use Rattle.execution.specs.Obey.{obey}
use Rattle.recovery.specs.Wake.{wake, woke_first, woke_second, replay_record, fresh_first, fresh_next}

-- it is never told so
abbrev pub lost : Registers → List ℕ → Made
lost r m = refuses 999 r m

-- the record that was asked for
abbrev pub on_record : Phase → Page → Registers → List ℕ → Made
on_record Idle p r m = lost r m
on_record WakeFirst p r m = woke_first p r m
on_record WakeSecond p r m = woke_second p r m
on_record Replaying p r m = replay_record p r m
on_record FreshBegun p r m = lost r m
on_record FreshHead p r m = lost r m
on_record FreshFast p r m = lost r m
on_record CompactBegun p r m = lost r m
on_record SettingUp p r m = lost r m
on_record CarryRead p r m = carry_piece p r m
on_record CarryPut p r m = lost r m
on_record CompactFast p r m = lost r m
on_record Switched p r m = lost r m
on_record Fetching p r m = fetched p r m
on_record RowShown p r m = lost r m
on_record LinePut p r m = lost r m
on_record CommitPut p r m = lost r m
on_record CommitFast p r m = lost r m
on_record CountShown p r m = lost r m
on_record FileShown p r m = lost r m

-- the last act is done
abbrev pub on_next : Phase → Registers → List ℕ → Made
on_next Idle r m = lost r m
on_next WakeFirst r m = lost r m
on_next WakeSecond r m = lost r m
on_next Replaying r m = lost r m
on_next FreshBegun r m = fresh_first r m
on_next FreshHead r m = fresh_next r m
on_next FreshFast r m = ends_done r m
on_next CompactBegun r m = put_head r m
on_next SettingUp r m = set_up_next r m
on_next CarryRead r m = lost r m
on_next CarryPut r m = after_carry r m
on_next CompactFast r m = begin_old r m
on_next Switched r m = after_switch r m
on_next Fetching r m = lost r m
on_next RowShown r m = walk_on r m
on_next LinePut r m = after_line r m
on_next CommitPut r m = after_commit r m
on_next CommitFast r m = after_fast r m
on_next CountShown r m = ends_done r m
on_next FileShown r m = show_files (suc r.carrying.index) r m

unfoldable pub answers : Registers → List ℕ → Event → Made
answers r m (on room) = wake room m
answers r m (said text) = obey text r m
answers r m (page p) = on_record r.phase p r m
answers r m next = on_next r.phase r m

unfoldable pub zeros : List ℕ
zeros = replicate 262144 0
