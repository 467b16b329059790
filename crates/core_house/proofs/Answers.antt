-- What the machine does on its registers and memory is what it does as a record of named fields. Assumes nothing.
use Rattle.std.proofs.Common.{◌≡◌, ℕ, suc, List, length}
use Rattle.plain.specs.Device.{Page}
use Rattle.plain.specs.Run.{Event, on, said, page, next}
use Rattle.records.specs.Checked.{checked_record_of}
use Rattle.engine.specs.Fits.{Fits}
use Rattle.engine.specs.Machine as machine
use Rattle.memory.specs.declared.phase.Phase.{Phase}
use Rattle.memory.specs.declared.phase.Phase.TheVariants.{Idle, WakeFirst, WakeSecond, Replaying, FreshBegun, FreshHead, FreshFast, CompactBegun, SettingUp, CarryRead, CarryPut, CompactFast, Switched, Fetching, RowShown, LinePut, CommitPut, CommitFast, CountShown, FileShown}
use Rattle.memory.specs.declared.registers.Registers.{Registers}
use Rattle.memory.specs.Abstract.{house_of, phase_as}
use Rattle.commits.specs.Bounds.{Bounded}
use Rattle.refinement.proofs.Same.{Safe, Same}
use Rattle.refinement.proofs.Rows.{done_safe, done_same, refuses_safe, refuses_same, files_safe, files_same}
use Rattle.refinement.proofs.Putting.{line_safe, line_same, committed_safe, committed_same, fast_safe, fast_same}
use Rattle.refinement.proofs.Carrying.{piece_carried_safe, piece_carried_same, after_carry_safe, after_carry_same, head_safe, head_same, set_up_safe, set_up_same, old_safe, old_same, switch_safe, switch_same}
use Rattle.refinement.proofs.Walking.{walk_safe, walk_same, fetched_safe, fetched_same}
use Rattle.refinement.proofs.Obeying.{obey_safe, obey_same}
use Rattle.refinement.proofs.Waking.{wake_safe, wake_same, first_safe, first_same, second_safe, second_same, replay_safe, replay_same, fresh_safe, fresh_same, fresh_next_safe, fresh_next_same}
use Rattle.refinement.proofs.Cells.{Held, Cells, uses, ready}
use Rattle.core_house.specs.Machine.{lost, on_record, on_next, answers}

module _ (r : Registers) (m : List ℕ) (h : length m ≡ 262144) (b : Bounded r) where
  -- WHATEVER THE MEMORY HOLDS
  lost_safe : Safe m (lost r m)
  lost_safe = refuses_safe r m 999 b

  record_safe : (ph : Phase) (p : Page) → Safe m (on_record ph p r m)
  record_safe Idle p = lost_safe
  record_safe WakeFirst p = first_safe r m h p b
  record_safe WakeSecond p = second_safe r m h p b
  record_safe Replaying p = replay_safe r m h p b
  record_safe FreshBegun p = lost_safe
  record_safe FreshHead p = lost_safe
  record_safe FreshFast p = lost_safe
  record_safe CompactBegun p = lost_safe
  record_safe SettingUp p = lost_safe
  record_safe CarryRead p = piece_carried_safe r m h p b
  record_safe CarryPut p = lost_safe
  record_safe CompactFast p = lost_safe
  record_safe Switched p = lost_safe
  record_safe Fetching p = fetched_safe r m h p b
  record_safe RowShown p = lost_safe
  record_safe LinePut p = lost_safe
  record_safe CommitPut p = lost_safe
  record_safe CommitFast p = lost_safe
  record_safe CountShown p = lost_safe
  record_safe FileShown p = lost_safe

  next_safe : (ph : Phase) → Safe m (on_next ph r m)
  next_safe Idle = lost_safe
  next_safe WakeFirst = lost_safe
  next_safe WakeSecond = lost_safe
  next_safe Replaying = lost_safe
  next_safe FreshBegun = fresh_safe r m b
  next_safe FreshHead = fresh_next_safe r m b
  next_safe FreshFast = done_safe r m b
  next_safe CompactBegun = head_safe r m h b
  next_safe SettingUp = set_up_safe r m h b
  next_safe CarryRead = lost_safe
  next_safe CarryPut = after_carry_safe r m h b
  next_safe CompactFast = old_safe r m h b
  next_safe Switched = switch_safe r m h b
  next_safe Fetching = lost_safe
  next_safe RowShown = walk_safe r m h b
  next_safe LinePut = line_safe r m h b
  next_safe CommitPut = committed_safe r m h b
  next_safe CommitFast = fast_safe r m h b
  next_safe CountShown = done_safe r m b
  next_safe FileShown = files_safe r m (suc r.carrying.index) b

  pub answers_safe : (ev : Event) → Safe m (answers r m ev)
  unfolding answers
  answers_safe (on room) = wake_safe room m
  answers_safe (said t) = obey_safe r m h t b
  answers_safe (page p) = record_safe r.phase p
  answers_safe next = next_safe r.phase

  -- WHERE THE STATE FITS
  module _ (f : Fits (house_of r m)) where
    record_same : (ph : Phase) (p : Page) → Held (phase_as ph) (house_of r m) → Fits (machine.on_record (phase_as ph) (checked_record_of p) (house_of r m)).state →
        Same (on_record ph p r m) (machine.on_record (phase_as ph) (checked_record_of p) (house_of r m))
    unfolding house_of
    record_same Idle p c g = refuses_same r m 999
    record_same WakeFirst p c g = first_same r m h p
    record_same WakeSecond p c g = second_same r m h p
    record_same Replaying p c g = replay_same r m h p b g
    record_same FreshBegun p c g = refuses_same r m 999
    record_same FreshHead p c g = refuses_same r m 999
    record_same FreshFast p c g = refuses_same r m 999
    record_same CompactBegun p c g = refuses_same r m 999
    record_same SettingUp p c g = refuses_same r m 999
    record_same CarryRead p c g = piece_carried_same r m h p g
    record_same CarryPut p c g = refuses_same r m 999
    record_same CompactFast p c g = refuses_same r m 999
    record_same Switched p c g = refuses_same r m 999
    record_same Fetching p c g = fetched_same r m h p b f (uses r m r.job.plan.walk c) g
    record_same RowShown p c g = refuses_same r m 999
    record_same LinePut p c g = refuses_same r m 999
    record_same CommitPut p c g = refuses_same r m 999
    record_same CommitFast p c g = refuses_same r m 999
    record_same CountShown p c g = refuses_same r m 999
    record_same FileShown p c g = refuses_same r m 999

    next_same : (ph : Phase) → Held (phase_as ph) (house_of r m) → Fits (machine.on_next (phase_as ph) (house_of r m)).state → Same (on_next ph r m) (machine.on_next (phase_as ph) (house_of r m))
    unfolding house_of
    next_same Idle c g = refuses_same r m 999
    next_same WakeFirst c g = refuses_same r m 999
    next_same WakeSecond c g = refuses_same r m 999
    next_same Replaying c g = refuses_same r m 999
    next_same FreshBegun c g = fresh_same r m
    next_same FreshHead c g = fresh_next_same r m
    next_same FreshFast c g = done_same r m
    next_same CompactBegun c g = head_same r m h b
    next_same SettingUp c g = set_up_same r m h b g
    next_same CarryRead c g = refuses_same r m 999
    next_same CarryPut c g = after_carry_same r m h b f g
    next_same CompactFast c g = old_same r m h
    next_same Switched c g = switch_same r m h b g
    next_same Fetching c g = refuses_same r m 999
    next_same RowShown c g = walk_same r m h b (ready r m r.job.plan.walk c) g
    next_same LinePut c g = line_same r m h b g
    next_same CommitPut c g = committed_same r m h b g
    next_same CommitFast c g = fast_same r m h b g
    next_same CountShown c g = done_same r m
    next_same FileShown c g = files_same r m (suc r.carrying.index) g

    pub answers-same : (ev : Event) → Cells (house_of r m) → Fits (machine.answers_by checked_record_of (house_of r m) ev).state → Same (answers r m ev) (machine.answers_by checked_record_of (house_of r m) ev)
    unfolding answers machine.answers_by house_of
    answers-same (on room) c g = wake_same room m
    answers-same (said t) c g = obey_same r m h t b g
    answers-same (page p) c g = record_same r.phase p c g
    answers-same next c g = next_same r.phase c g
