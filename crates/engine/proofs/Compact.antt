-- Compaction: from the decision to carry entries, or to begin the other tape, to where the command goes on. Assumes nothing.
use Rattle.std.proofs.Common.{ℕ, ◌+◌, ◌≤◌, Bool, List, refl, ◌∙◌, arith}
use Rattle.plain.specs.Device.{Device, stopped}
use Rattle.journal.proofs.Machine.{Goes, after_did}
use Rattle.commands.specs.Kept.{Kept, directory, Sound}
use Rattle.engine.specs.State.{House}
use Rattle.engine.specs.Fits.{Fits, Word}
use Rattle.engine.specs.Packing.{records_on}
use Rattle.engine.specs.Machine.{machine_by, go_on, carry, begin_other}
use Rattle.engine.proofs.Facts.{Codec, OffAt, Quiet, Busy}
use Rattle.engine.proofs.Devices.{sides_apart}
use Rattle.engine.proofs.Shares.{directory_weighs, records_on_most, on_lies, all_wait}
use Rattle.engine.proofs.CompactFacts.{QuietAt, quiet_at, busy-at, AllCarried, SomeBegunAt, AllBegun, SomeCarried, SomeBegun, some_carried, some_begun}
use Rattle.engine.proofs.CompactCarry.{carry-goes}
use Rattle.engine.proofs.CompactBegin.{setting, begin-goes}

module _
    (codec : Codec) (R : ℕ) (Stop : Device → List (List ℕ) → Type 0) (End : House → Device → List (List ℕ) → ℕ → ℕ → Type 0) (ss : List (List ℕ)) (k : Kept)
    (can_stop : (d : Device) → ((cs : List ℕ) → OffAt codec R (stopped d cs) k) → Stop d ss) (sound : Sound k)
  where
    -- q entries at most are carried
    pub carry-leads : {live : Bool} (x : House) (d : Device) (r : ℕ) → Fits x → Busy codec R live d x k →
        x.tapes.other + records_on x.tapes.active x.store.dir (directory k) ≤ R →
        ((x₁ : House) (d₁ : Device) (r₁ : ℕ) → SomeCarried codec R live k x.carrying.quota r x x₁ d₁ r₁ → Goes (machine_by codec.reading) Stop End (after_did d₁ ss r₁ (go_on x₁))) →
        ((x₁ : House) (d₁ : Device) (r₁ : ℕ) → AllCarried codec R k x.carrying.quota r x x₁ d₁ r₁ → Goes (machine_by codec.reading) Stop End (after_did d₁ ss r₁ (go_on x₁))) →
        Goes (machine_by codec.reading) Stop End (after_did d ss r (carry x))
    carry-leads {live} x d r f b room some all =
        carry-goes codec R x.tapes.used live Stop End ss k can_stop sound x.carrying.quota x d r refl f (busy-at codec b) room (λ x₁ d₁ r₁ h. some x₁ d₁ r₁ (some_carried h)) all

    -- the other tape is begun first
    pub begin-leads-at : {live : Bool} (m : ℕ) (x : House) (d : Device) (q : ℕ) (w : Bool) (r : ℕ) → Fits x → Word q → QuietAt codec R m live d x k →
        ((x₁ : House) (d₁ : Device) (r₁ : ℕ) → SomeBegunAt codec R m live k q w r x x₁ d₁ r₁ → Goes (machine_by codec.reading) Stop End (after_did d₁ ss r₁ (go_on x₁))) →
        ((x₁ : House) (d₁ : Device) (r₁ : ℕ) → AllBegun codec R k q w r x x₁ d₁ r₁ → Goes (machine_by codec.reading) Stop End (after_did d₁ ss r₁ (go_on x₁))) →
        Goes (machine_by codec.reading) Stop End (after_did d ss r (begin_other q w x))
    begin-leads-at {live} m x d q w r f word b some all =
        let sides = b.log.layout.sides in
        let e = all_wait (sides_apart sides) (on_lies b.log.keeps.holds) in
        let none-there = e.1 (directory k) in
        let most = records_on_most x.tapes.active x.store.dir (directory k) in
        let weighs = directory_weighs k in
        let light = b.powered.light in
        let enough = b.powered.enough in
        begin-goes codec R m live Stop End ss k can_stop b.powered.at_most x d q w r f word b
        (λ j o r₁ d₁ few n fits busy.
        carry-goes codec R m live Stop End ss k can_stop sound q (setting x q w j o) d₁ r₁ refl fits busy (omega arith)
        (λ x₂ d₂ r₂ h. some x₂ d₂ r₂ (record {
          busy = h.busy;
          fits = h.fits;
          same = record { room = h.same.room; small = h.same.small; pending = h.same.pending; job = h.same.job; walking = h.same.walking; putting = h.same.putting; waking = h.same.waking };
          active = h.active;
          generation = h.generation;
          used = h.used;
          waits = h.waits ∙ e.0;
          shares = let a = h.shares in omega arith;
          count = let a = h.count in omega arith;
        }))
        (λ x₂ d₂ r₂ h. all x₂ d₂ r₂ (record {
          quiet = h.quiet;
          fits = h.fits;
          same = record { room = h.same.room; small = h.same.small; pending = h.same.pending; job = h.same.job; walking = h.same.walking; putting = h.same.putting; waking = h.same.waking };
          active = h.active;
          generation = h.generation;
          used = let a = h.used in omega arith;
          count = let a = h.count in omega arith;
        })))

    pub begin-leads : {live : Bool} (x : House) (d : Device) (q : ℕ) (w : Bool) (r : ℕ) → Fits x → Word q → Quiet codec R live d x k →
        ((x₁ : House) (d₁ : Device) (r₁ : ℕ) → SomeBegun codec R live k q w r x x₁ d₁ r₁ → Goes (machine_by codec.reading) Stop End (after_did d₁ ss r₁ (go_on x₁))) →
        ((x₁ : House) (d₁ : Device) (r₁ : ℕ) → AllBegun codec R k q w r x x₁ d₁ r₁ → Goes (machine_by codec.reading) Stop End (after_did d₁ ss r₁ (go_on x₁))) →
        Goes (machine_by codec.reading) Stop End (after_did d ss r (begin_other q w x))
    begin-leads x d q w r f word b some all = begin-leads-at x.tapes.used x d q w r f word (quiet_at codec b) (λ x₁ d₁ r₁ h. some x₁ d₁ r₁ (some_begun h)) all
