-- Carrying entries to the other tape, as many as may be: it ends with some left, or the tapes change. Assumes nothing.
use Rattle.std.proofs.Common.{◌≡◌, ℕ, zero, suc, ◌+◌, ◌-◌, ◌<◌, ◌≤◌, Bool, true, false, eqb, ltb, List, length, get_or, set, sym, refl, ap, ◌∙◌, subst, add-zero, arith, length-set}
use lib.ListN.{length-map}
use Rattle.std.proofs.lemmas.Bool.{eq-eqb, ne_eqb, ltb-true, ltb-false}
use Rattle.plain.specs.Pattern.{pick}
use Rattle.plain.specs.Device.{Device, Page, tape_of, stopped, fastened, anew, read_record}
use Rattle.plain.specs.Promise.{all_longer}
use Rattle.plain.specs.Run.{page, read, fasten}
use Rattle.journal.specs.Log.{Position, position, hole, next_generation, Sides}
use Rattle.journal.specs.Small.{updated, no_state}
use Rattle.journal.specs.Machine.{did}
use Rattle.journal.proofs.Machine.{going, Goes, after_did}
use Rattle.journal.proofs.Contents.{layout_new_is, sides_turn}
use Rattle.journal.proofs.Lifecycle as lifecycle
use Rattle.journal.proofs.Generations.{cycle_next}
use Rattle.journal.proofs.Waiting.{waiting_set, Behind, behind_set}
use Rattle.commands.specs.Kept.{Kept, directory, Sound}
use Rattle.commands.specs.Smalls.{smalls_of}
use Rattle.engine.specs.State.{House, Phase, carry_read, compact_fast, switched, at_phase, with_carrying, carrying_of, passive}
use Rattle.engine.specs.Fits.{Fits, Word, ReplayFits}
use Rattle.engine.specs.Packing.{records_of, packed, records_on}
use Rattle.engine.specs.Machine.{machine_by, entry_of, go_on, carry, carry_entry, next_entry, switch}
use Rattle.engine.proofs.Facts.{Codec, OffAt, Quiet, lines_of_kept}
use Rattle.engine.proofs.Course.{go_next, asks, fastens, begins, chosen}
use Rattle.engine.proofs.Devices.{cycle-bounds, firm-off, firm-fasten, side_first, side_second, sides_apart, sides_is, all_room, anew-here, anew-room, fastened-room}
use Rattle.engine.proofs.Pieces.{records_few, line_of, packs-at, packed-at, packed-long, line-fits, directory-fits, copies_are, copy_pages, length-copy_pages}
use Rattle.engine.proofs.Shares.{records_on-gone, records_on-came, records_on_none}
use Rattle.engine.proofs.CompactFacts.{BusyAt, busy-firm, busy-other, busy-long, NextEntry, next_entry_is, positions-set, fits-phase, SomeCarriedAt, AllCarried, quiet-firm, quiet_at}
use Rattle.engine.proofs.CompactPiece.{reading, moved, Entry, pieces_go}

-- THE CHANGE OF TAPES
module _ {codec : Codec} {R m : ℕ} {live : Bool} {d : Device} {x : House} {k : Kept} (b : BusyAt codec R m live d x k) where
  busy_sides : Sides x.tapes.active (passive x)
  busy_sides = b.log.layout.sides

  switch_quiet : (ph : Phase) → x.tapes.other ≤ R → Behind x.tapes.active (length x.store.dir) x.store.dir →
      Quiet codec R true (anew (fastened d (passive x)) x.tapes.active) (switch (at_phase ph x)) k
  switch_quiet ph room none_left =
      let t : ℕ = x.tapes.active in
      let y : ℕ = passive x in
      let d₁ : Device = anew (fastened d y) t in
      let e : t ≡ 1 - y = sym (sides_is (sides_turn busy_sides)) in
      let long : length (tape_of d₁ t).records ≡ 0 = ap (λ z. length z.records) (anew-here (fastened d y) (sides_turn busy_sides)) in
      record {
        powered = record {
          machine-room = b.powered.machine-room;
          device-room = anew-room (fastened d y) (sides_turn busy_sides) ∙ fastened-room d busy_sides ∙ b.powered.device-room;
          enough = b.powered.enough;
          at_most = b.powered.at_most;
          light = b.powered.light;
          small = b.powered.small;
          other_fits = subst (λ z. length (tape_of d₁ z).records ≤ R) e (omega arith);
          used-fits = room;
        };
        not-busy = refl;
        cursor = refl;
        log = subst (λ z. lifecycle.Active updated no_state ReplayFits codec.reading codec.torn true d₁ y z (next_generation x.tapes.generation) x.tapes.other x.store.dir (lines_of_kept k) (smalls_of k)) e
            (lifecycle.copying_changes updated no_state ReplayFits codec.reading codec.torn b.log none_left);
      }

  fits-switch : (ph : Phase) → Fits x → Fits (switch (at_phase ph x))
  fits-switch ph f = record {
    tapes = record {
      room = f.tapes.room;
      active = side_second busy_sides;
      generation = (cycle-bounds (cycle_next b.log.cycle)).1;
      used = f.tapes.other;
      other = omega arith;
      cursor = omega arith;
    };
    store = f.store;
    job = f.job;
    walking = f.walking;
    putting = f.putting;
    carrying = f.carrying;
  }

-- AN ENTRY WAS CARRIED
module _ {codec : Codec} {R m : ℕ} {live : Bool} {d : Device} {x : House} {k : Kept} (b : BusyAt codec R m live d x k) (sound : Sound k) (i : ℕ) (there : i < length x.store.dir) (word : Word i) where
  abbrev after_entry : Device
  after_entry = all_longer d (passive x) (copy_pages i (line_of (directory k) i) 0 (records_of (length (line_of (directory k) i))))

  moved_log : (o₁ : ℕ) → o₁ ≡ x.tapes.other + records_of (length (line_of (directory k) i)) →
      lifecycle.Copying updated no_state ReplayFits codec.reading codec.torn live after_entry x.tapes.active (passive x) x.tapes.generation m o₁ (set x.store.dir i (position (passive x) x.tapes.other)) (lines_of_kept k) (smalls_of k)
  moved_log o₁ e =
      let l : List ℕ = line_of (directory k) i in
      let n : ℕ = records_of (length l) in
      let ps : List Page = copy_pages i l 0 n in
      let below : i < length (directory k) = let q = busy-long codec b in omega arith in
      let f : x.tapes.other + length ps ≡ o₁ = let q = length-copy_pages i l 0 n in omega arith in
      subst (λ z. lifecycle.Copying updated no_state ReplayFits codec.reading codec.torn live after_entry x.tapes.active (passive x) x.tapes.generation m z (set x.store.dir i (position (passive x) x.tapes.other)) (lines_of_kept k) (smalls_of k)) f
      (lifecycle.copying_carries updated no_state ReplayFits codec.reading codec.torn ps i (packed l) b.log (copies_are codec i l word (line-fits (directory k) i (directory-fits k sound))) (packs-at (directory k) i below))

  moved-busy : (o₁ : ℕ) → o₁ ≡ x.tapes.other + records_of (length (line_of (directory k) i)) → o₁ ≤ R → Behind x.tapes.active i x.store.dir →
      BusyAt codec R m live after_entry (moved x i x.tapes.other o₁) k
  moved-busy o₁ e room behind =
      let y : ℕ = passive x in
      let sides = b.log.layout.sides in
      let log₁ = moved_log o₁ e in
      let D : List Position = x.store.dir in
      record {
        powered = record {
          machine-room = b.powered.machine-room;
          device-room = all_room d (copy_pages i (line_of (directory k) i) 0 (records_of (length (line_of (directory k) i)))) sides ∙ b.powered.device-room;
          enough = b.powered.enough;
          at_most = b.powered.at_most;
          light = b.powered.light;
          small = b.powered.small;
          other_fits = let q = sym (length-map (tape_of after_entry y).records codec.reading) ∙ ap length (layout_new_is codec.reading log₁.layout) ∙ log₁.next-used in omega arith;
          used-fits = b.powered.used-fits;
        };
        long-fits = b.long-fits;
        is-busy = b.is-busy;
        log = log₁;
        behind = behind_set x.tapes.active i y x.tapes.other D (sides_apart sides) there behind;
        cursor = let q = length-set D i (position y x.tapes.other) in omega arith;
      }

  fits_moved : (o₁ : ℕ) → x.tapes.other < o₁ → o₁ ≤ R → Fits x → Fits (moved x i x.tapes.other o₁)
  fits_moved o₁ more room f =
      let D : List Position = x.store.dir in
      let p : Position = position (passive x) x.tapes.other in
      let few = f.store.dir_few in
      let most = b.powered.at_most in
      record {
        tapes = record { room = f.tapes.room; active = f.tapes.active; generation = f.tapes.generation; used = f.tapes.used; other = omega arith; cursor = omega arith };
        store = record {
          dir_few = let q = length-set D i p in omega arith;
          pending_few = f.store.pending_few;
          dir = positions-set i f.store.dir (record { tape = side_second b.log.layout.sides; at = omega arith });
          pending = f.store.pending;
          small = f.store.small;
        };
        job = f.job;
        walking = f.walking;
        putting = f.putting;
        carrying = record { index = word; part = omega arith; long = omega arith; start = omega arith; quota = let q = f.carrying.quota in omega arith };
      }

-- BOTH WAYS ON, from the state x with q entries that may be carried
abbrev pub OnSomeAt : Codec → ℕ → ℕ → Bool → (Device → List (List ℕ) → Type 0) → (House → Device → List (List ℕ) → ℕ → ℕ → Type 0) → List (List ℕ) → Kept → ℕ → ℕ → House → Type 0
OnSomeAt codec R m live Stop End ss k q r x = (x₁ : House) (d₁ : Device) (r₁ : ℕ) → SomeCarriedAt codec R m live k q r x x₁ d₁ r₁ → Goes (machine_by codec.reading) Stop End (after_did d₁ ss r₁ (go_on x₁))

abbrev pub OnAll : Codec → ℕ → (Device → List (List ℕ) → Type 0) → (House → Device → List (List ℕ) → ℕ → ℕ → Type 0) → List (List ℕ) → Kept → ℕ → ℕ → House → Type 0
OnAll codec R Stop End ss k q r x = (x₁ : House) (d₁ : Device) (r₁ : ℕ) → AllCarried codec R k q r x x₁ d₁ r₁ → Goes (machine_by codec.reading) Stop End (after_did d₁ ss r₁ (go_on x₁))

module _
    (codec : Codec) (R m : ℕ) (live : Bool) (Stop : Device → List (List ℕ) → Type 0) (End : House → Device → List (List ℕ) → ℕ → ℕ → Type 0) (ss : List (List ℕ)) (k : Kept)
    (can_stop : (d : Device) → ((cs : List ℕ) → OffAt codec R (stopped d cs) k) → Stop d ss) (sound : Sound k)
  where
    abbrev line_at : ℕ → List ℕ
    line_at i = line_of (directory k) i

    -- one entry
    entry-goes : (x : House) (d : Device) (r i : ℕ) → Fits x → BusyAt codec R m live d x k → NextEntry x.tapes.active x.tapes.cursor i x.store.dir → i < length x.store.dir →
        x.tapes.other + records_on x.tapes.active x.store.dir (directory k) ≤ R →
        ((o₁ : ℕ) (d₁ : Device) (r₁ : ℕ) → Fits (moved x i x.tapes.other o₁) → BusyAt codec R m live d₁ (moved x i x.tapes.other o₁) k →
        o₁ ≡ x.tapes.other + records_of (length (line_at i)) → r₁ ≤ r + 6 → Goes (machine_by codec.reading) Stop End (after_did d₁ ss r₁ (carry (moved x i x.tapes.other o₁)))) →
        Goes (machine_by codec.reading) Stop End (after_did d ss r (did (at_phase carry_read (with_carrying (carrying_of i 0 0 x.tapes.other x.carrying.quota x.carrying.waking) x)) (read (entry_of x i).tape (entry_of x i).at)))
    entry-goes x d r i f b found there room cont =
        let l : List ℕ = line_at i in
        let y : ℕ = passive x in
        let o : ℕ = x.tapes.other in
        let D : List Position = x.store.dir in
        let t : ℕ = (entry_of x i).tape in
        let a : ℕ = (entry_of x i).at in
        let few = records_few (length l) in
        let n : ℕ = records_of (length l) - 1 in
        let e : suc n ≡ records_of (length l) = omega arith in
        let sides = b.log.layout.sides in
        let on : t ≡ x.tapes.active = found.hits there in
        let long = busy-long codec b in
        let word : Word i = let q = f.store.dir_few in omega arith in
        let share = records_on-gone x.tapes.active D (directory k) i (position y o) there long on (sides_apart sides) in
        let fit = line-fits (directory k) i (directory-fits k sound) in
        let start : o < 1048576 = let q = b.powered.at_most in omega arith in
        let entry : Entry codec R k x i l d = record {
          fits = f;
          index = word;
          line = fit;
          on = on;
          firm = busy-firm codec b;
          reads = λ j h.
              lifecycle.copying_reads updated no_state ReplayFits codec.reading codec.torn i j (packed l) b.log codec.empty there (packs-at (directory k) i (omega arith))
              (let q = packed-long l in omega arith) ∙ packed-at l j h;
        } in
        asks codec.reading d t a (subst (λ z. z < 2) (sym on) (side_first sides))
        (subst (λ z. Goes (machine_by codec.reading) Stop End (going (reading x i 0 0 o o) d (page (read_record d t z)) ss (suc r))) (add-zero a)
        (pieces_go codec R Stop End ss k can_stop b.powered.at_most n 0 0 o o (suc r) entry (omega arith) (omega arith) start (busy-other codec b) (omega arith)
        (λ o₁ r₁ p q.
        cont o₁ (all_longer d y (copy_pages i l 0 (suc n))) r₁ (fits_moved b sound i there word o₁ (omega arith) (omega arith) f)
        (subst (λ z. BusyAt codec R m live (all_longer d y (copy_pages i l 0 z)) (moved x i o o₁) k) (sym e) (moved-busy b sound i there word o₁ (omega arith) (omega arith) found.behind))
        (omega arith) (omega arith))))

    -- none is left
    switch-goes : (q : ℕ) (x : House) (d : Device) (r : ℕ) → Fits x → BusyAt codec R m live d x k → Behind x.tapes.active (length x.store.dir) x.store.dir → x.tapes.other ≤ R →
        ((x₁ : House) (d₁ : Device) (r₁ : ℕ) → AllCarried codec R k q r x x₁ d₁ r₁ → Goes (machine_by codec.reading) Stop End (after_did d₁ ss r₁ (go_on x₁))) →
        Goes (machine_by codec.reading) Stop End (after_did d ss r (did (at_phase compact_fast x) (fasten (passive x))))
    switch-goes q x d r f b none_left room cont =
        let t : ℕ = x.tapes.active in
        let y : ℕ = passive x in
        let sides = b.log.layout.sides in
        let firm = busy-firm codec b in
        let x₁ : House = switch (at_phase switched x) in
        let quiet = switch_quiet b switched room none_left in
        fastens codec.reading d y (side_second sides)
        (go_next codec.reading compact_fast refl (fits-phase compact_fast f) (can_stop (fastened d y) (firm-off codec R k (firm-fasten codec R k firm)))
        (begins codec.reading (fastened d y) t (side_first sides)
        (go_next codec.reading switched refl (fits-phase switched f) (can_stop (anew (fastened d y) t) (firm-off codec R k (quiet-firm codec (quiet_at codec quiet))))
        (cont x₁ (anew (fastened d y) t) r (record {
          quiet = quiet;
          fits = fits-switch b switched f;
          same = record { room = refl; small = refl; pending = refl; job = refl; walking = refl; putting = refl; waking = refl };
          active = refl;
          generation = refl;
          used = let e = records_on_none t x.store.dir (directory k) none_left in omega arith;
          count = omega arith;
        })))))

    -- an entry more, before the others
    some_more : (q : ℕ) {x : House} {i o₁ r r₂ r₁ : ℕ} {d d₁ : Device} {x₁ : House} → BusyAt codec R m live d x k → i < length x.store.dir → (get_or x.store.dir i hole).tape ≡ x.tapes.active →
        o₁ ≡ x.tapes.other + records_of (length (line_at i)) → r₂ ≤ r + 6 → SomeCarriedAt codec R m live k q r₂ (moved x i x.tapes.other o₁) x₁ d₁ r₁ → SomeCarriedAt codec R m live k (suc q) r x x₁ d₁ r₁
    some_more q {x} {i} {o₁} b there on e c h =
        let D : List Position = x.store.dir in
        let p : Position = position (passive x) x.tapes.other in
        let sides = b.log.layout.sides in
        let long = busy-long codec b in
        record {
          busy = h.busy;
          fits = h.fits;
          same = record { room = h.same.room; small = h.same.small; pending = h.same.pending; job = h.same.job; walking = h.same.walking; putting = h.same.putting; waking = h.same.waking };
          active = h.active;
          generation = h.generation;
          used = h.used;
          waits = let a = h.waits in let g = waiting_set x.tapes.active (passive x) x.tapes.other i D (sides_apart sides) there on in omega arith;
          shares = let a = h.shares in let g = records_on-came (passive x) D (directory k) i p there long (λ z. sides_apart sides (sym z ∙ on)) refl in omega arith;
          count = let a = h.count in omega arith;
        }

    all_more : (q : ℕ) {x : House} {i o₁ r r₂ r₁ : ℕ} {d d₁ : Device} {x₁ : House} → BusyAt codec R m live d x k → i < length x.store.dir → (get_or x.store.dir i hole).tape ≡ x.tapes.active →
        o₁ ≡ x.tapes.other + records_of (length (line_at i)) → r₂ ≤ r + 6 → AllCarried codec R k q r₂ (moved x i x.tapes.other o₁) x₁ d₁ r₁ → AllCarried codec R k (suc q) r x x₁ d₁ r₁
    all_more q {x} {i} {o₁} b there on e c h =
        let D : List Position = x.store.dir in
        let p : Position = position (passive x) x.tapes.other in
        let sides = b.log.layout.sides in
        let long = busy-long codec b in
        record {
          quiet = h.quiet;
          fits = h.fits;
          same = record { room = h.same.room; small = h.same.small; pending = h.same.pending; job = h.same.job; walking = h.same.walking; putting = h.same.putting; waking = h.same.waking };
          active = h.active;
          generation = h.generation;
          used = let a = h.used in let g = records_on-gone x.tapes.active D (directory k) i p there long on (sides_apart sides) in omega arith;
          count = let a = h.count in omega arith;
        }

    -- as many as may be
    pub carry-goes : (q : ℕ) (x : House) (d : Device) (r : ℕ) → x.carrying.quota ≡ q → Fits x → BusyAt codec R m live d x k →
        x.tapes.other + records_on x.tapes.active x.store.dir (directory k) ≤ R → OnSomeAt codec R m live Stop End ss k q r x → OnAll codec R Stop End ss k q r x → Goes (machine_by codec.reading) Stop End (after_did d ss r (carry x))
    carry-goes zero x d r e f b room some all =
        chosen (λ z. Goes (machine_by codec.reading) Stop End (after_did d ss r z)) (eqb x.carrying.quota 0) true _ _ (eq-eqb x.carrying.quota 0 e)
        (some x d r (record {
          busy = b;
          fits = f;
          same = record { room = refl; small = refl; pending = refl; job = refl; walking = refl; putting = refl; waking = refl };
          active = refl;
          generation = refl;
          used = refl;
          waits = omega arith;
          shares = refl;
          count = omega arith;
        }))
    carry-goes (suc q) x d r e f b room some all =
        let i : ℕ = next_entry x in
        let found : NextEntry x.tapes.active x.tapes.cursor i x.store.dir = next_entry_is x.tapes.active x.tapes.cursor x.store.dir b.cursor b.behind in
        chosen (λ z. Goes (machine_by codec.reading) Stop End (after_did d ss r z)) (eqb x.carrying.quota 0) false _ _ (ne_eqb x.carrying.quota 0 (λ z. omega arith))
        (entry found
        (λ there on o₁ d₁ r₁ f₁ b₁ g c.
        let share = records_on-gone x.tapes.active x.store.dir (directory k) i (position (passive x) x.tapes.other) there (busy-long codec b) on (sides_apart b.log.layout.sides) in
        carry-goes q (moved x i x.tapes.other o₁) d₁ r₁ (omega arith) f₁ b₁ (omega arith)
        (λ x₂ d₂ r₂ h. some x₂ d₂ r₂ (some_more q b there on g c h))
        (λ x₂ d₂ r₂ h. all x₂ d₂ r₂ (all_more q b there on g c h))))
      where
        entry : NextEntry x.tapes.active x.tapes.cursor (next_entry x) x.store.dir →
            (next_entry x < length x.store.dir → (get_or x.store.dir (next_entry x) hole).tape ≡ x.tapes.active →
            (o₁ : ℕ) (d₁ : Device) (r₁ : ℕ) → Fits (moved x (next_entry x) x.tapes.other o₁) → BusyAt codec R m live d₁ (moved x (next_entry x) x.tapes.other o₁) k →
            o₁ ≡ x.tapes.other + records_of (length (line_at (next_entry x))) → r₁ ≤ r + 6 → Goes (machine_by codec.reading) Stop End (after_did d₁ ss r₁ (carry (moved x (next_entry x) x.tapes.other o₁)))) →
            Goes (machine_by codec.reading) Stop End (after_did d ss r (carry_entry (next_entry x) x))
        entry found rest = go (ltb (next_entry x) (length x.store.dir)) refl
          where
            go : (c : Bool) → ltb (next_entry x) (length x.store.dir) ≡ c →
                Goes (machine_by codec.reading) Stop End (after_did d ss r (pick c
                (did (at_phase carry_read (with_carrying (carrying_of (next_entry x) 0 0 x.tapes.other x.carrying.quota x.carrying.waking) x)) (read (entry_of x (next_entry x)).tape (entry_of x (next_entry x)).at))
                (did (at_phase compact_fast x) (fasten (passive x)))))
            go true z = let there = ltb-true (next_entry x) (length x.store.dir) z in entry-goes x d r (next_entry x) f b found there room (rest there (found.hits there))
            go false z =
                let past = ltb-false (next_entry x) (length x.store.dir) z in
                let at_end : next_entry x ≡ length x.store.dir = let h = found.high in omega arith in
                switch-goes (suc q) x d r f b (subst (λ n. Behind x.tapes.active n x.store.dir) at_end found.behind) (omega arith) all
