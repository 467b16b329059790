-- Carrying entries to the other tape, and the change of tapes when none is left. Assumes nothing: these are definitions.
use Rattle.std.specs.Prelude.{ℕ, suc, ◌+◌, ◌-◌, ◌%◌, Bool, true, false, List, ◌==◌, nat_lt, slice_index_or}
use Rattle.plain.specs.Pattern.{pick}
use Rattle.plain.specs.Device.{Page}
use Rattle.plain.specs.Run.{read, put_on, fasten, begin}
use Rattle.journal.specs.Log.{no_splice, head, copy, commit, Piece, piece_in, next_generation}
use Rattle.journal.specs.Small.{set_up_of}
use Rattle.records.specs.Pages.{page_of}
use Rattle.records.specs.Checked.{checked_record_of}
use Rattle.engine.specs.Packing.{records_of}
use Rattle.engine.specs.Machine.{no_news}
use Rattle.memory.specs.declared.phase.Phase.TheVariants.{CompactBegun, SettingUp, CarryRead, CarryPut, CompactFast, Switched}
use Rattle.memory.specs.declared.directory.Position.{Position}
use Rattle.memory.specs.declared.tapes.Tapes.{Tapes}
use Rattle.memory.specs.declared.registers.Registers.{Registers}
use Rattle.memory.specs.Abstract.{small_of}
use Rattle.memory.specs.Sections.{entry_at, next_at, with_entry}
use Rattle.commits.specs.Acts.{Made, made}
use Rattle.commits.specs.Setters.{tapes, carrying, with_other, with_cursor, with_index, in_phase, with_tapes, with_carrying, passive}
use Rattle.commits.specs.Rows.{ends_done}
use Rattle.commits.specs.Putting.{start_pass}

-- what comes after it: nothing more when power came, else what the command brings
unfoldable pub go_on : Registers → List ℕ → Made
go_on r m = pick r.carrying.waking (ends_done r m) (start_pass false r m)

-- THE NEXT ENTRY that lies on the tape that counts
abbrev pub next_entry : Registers → List ℕ → ℕ
next_entry r m = next_at r.tapes.active r.tapes.cursor r.kept.entries m

abbrev pub entry_of : Registers → ℕ → List ℕ → Position
entry_of r i m = entry_at r.kept.entries i m

unfoldable pub carry_entry : ℕ → Registers → List ℕ → Made
carry_entry i r m =
    pick (nat_lt i r.kept.entries)
    (made (in_phase CarryRead (with_carrying (carrying i 0 0 r.tapes.other r.carrying.quota r.carrying.waking) r)) m (read (entry_of r i m).tape (entry_of r i m).at))
    (made (in_phase CompactFast r) m (fasten (passive r)))

unfoldable pub carry : Registers → List ℕ → Made
carry r m = pick (r.carrying.quota == 0) (go_on r m) (carry_entry (next_entry r m) r m)

-- a record of it was read
abbrev pub piece_of_page : Page → Piece
piece_of_page p = piece_in (checked_record_of p)

unfoldable pub carry_piece : Page → Registers → List ℕ → Made
carry_piece p r m =
    made
    (in_phase CarryPut (with_carrying (carrying r.carrying.index r.carrying.part (piece_of_page p).long r.carrying.start r.carrying.quota r.carrying.waking)
    (with_tapes (with_other (suc r.tapes.other) r.tapes) r)))
    m (put_on (passive r) (page_of (copy r.carrying.index (r.carrying.part % 256) (piece_of_page p))))

-- all records of it are on
abbrev pub carried : Registers → Registers
carried r =
    with_carrying (carrying r.carrying.index 0 0 r.carrying.start (r.carrying.quota - 1) r.carrying.waking)
    (with_tapes (with_cursor (suc r.carrying.index) r.tapes) r)

abbrev pub new_position : Registers → Position
new_position r = record { tape = passive r; at = r.carrying.start }

abbrev pub carried_memory : Registers → List ℕ → List ℕ
carried_memory r m = with_entry r.carrying.index (new_position r) m

unfoldable pub after_carry : Registers → List ℕ → Made
after_carry r m =
    pick (nat_lt (suc r.carrying.part) (records_of r.carrying.long))
    (made (in_phase CarryRead (with_carrying (carrying r.carrying.index (suc r.carrying.part) r.carrying.long r.carrying.start r.carrying.quota r.carrying.waking) r)) m
    (read (entry_of r r.carrying.index m).tape ((entry_of r r.carrying.index m).at + suc r.carrying.part)))
    (carry (carried r) (carried_memory r m))

-- THE OTHER TAPE begins: a head, the small state, and then what is carried
abbrev pub beginning : Tapes → Tapes
beginning t = tapes t.room t.active t.generation t.used true 0 0

unfoldable pub begin_other : ℕ → Bool → Registers → List ℕ → Made
begin_other quota waking r m =
    made (in_phase CompactBegun (with_carrying (carrying 0 0 0 0 quota waking) (with_tapes (beginning r.tapes) r))) m (begin (passive r))

abbrev pub put_other : Page → Registers → List ℕ → Made
put_other p r m = made (in_phase SettingUp (with_tapes (with_other (suc r.tapes.other) r.tapes) r)) m (put_on (passive r) p)

unfoldable pub put_head : Registers → List ℕ → Made
put_head r m = put_other (page_of (head (next_generation r.tapes.generation) r.kept.entries)) r m

abbrev pub set_up_page : Registers → List ℕ → Page
set_up_page r m = page_of (commit no_splice (slice_index_or (set_up_of (small_of r.kept m)) r.carrying.index no_news))

unfoldable pub set_up_next : Registers → List ℕ → Made
set_up_next r m =
    pick (nat_lt r.carrying.index (suc (r.kept.ring + r.kept.files)))
    (put_other (set_up_page r m) (with_carrying (with_index (suc r.carrying.index) r.carrying) r) m)
    (carry r m)

-- NOTHING IS LEFT on the old tape
abbrev pub switch : Registers → Registers
switch r = with_tapes (tapes r.tapes.room (passive r) (next_generation r.tapes.generation) r.tapes.other false 0 0) r

unfoldable pub begin_old : Registers → List ℕ → Made
begin_old r m = made (in_phase Switched r) m (begin r.tapes.active)

unfoldable pub after_switch : Registers → List ℕ → Made
after_switch r m = go_on (switch r) m
