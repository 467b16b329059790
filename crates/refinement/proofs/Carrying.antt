-- Carrying entries to the other tape. Assumes nothing.
use Rattle.std.proofs.Common.{◌≡◌, ℕ, suc, ◌+◌, ◌-◌, ◌<◌, Bool, false, eqb, ltb, List, [], ◌∷◌, ◌++◌, length, sym, refl, ap, ◌∙◌, subst, mod-eq_of_lt, arith, length-append}
use Rattle.plain.specs.Device.{Page}
use Rattle.plain.specs.Run.{read, put_on, begin}
use Rattle.journal.specs.Machine.{did}
use Rattle.journal.specs.Log.{state, head, copy, piece_in, next_generation}
use Rattle.journal.specs.Small.{small, News, news, nothing_else, pushes, slots, set_up_of}
use Rattle.journal.proofs.Small.{length-pushes, length-slots}
use Rattle.records.specs.Pages.{page_of}
use Rattle.records.specs.Checked.{checked_record_of}
use Rattle.engine.specs.State as engine
use Rattle.engine.specs.State.{House, Phase}
use Rattle.engine.specs.Fits.{Fits}
use Rattle.engine.specs.Packing.{records_of}
use Rattle.engine.specs.Machine as machine
use Rattle.memory.specs.declared.tapes.Tapes.{Tapes}
use Rattle.memory.specs.declared.carrying.Carrying.{Carrying}
use Rattle.memory.specs.declared.phase.Phase as memory_phase
use Rattle.memory.specs.declared.registers.Registers.{Registers}
use Rattle.memory.specs.Sections.{files_in}
use Rattle.memory.specs.Abstract.{house_of, ring_of, files_of, small_of}
use Rattle.memory.proofs.Filing.{length-files}
use Rattle.memory.proofs.Keeping.{kept_entry}
use Rattle.memory.proofs.Positions.{entry_means, next_means, entry_set, beside_entry}
use Rattle.memory.proofs.Steadiness.{kept_same, Kept, kept_then}
use Rattle.memory.proofs.Weighing.{ring_long}
use Rattle.commits.specs.Setters.{registers}
use Rattle.commits.specs.Bounds.{Bounded}
use Rattle.compaction.specs.Carry.{go_on, next_entry, carry_entry, carry, piece_of_page, carry_piece, carried, new_position, carried_memory, after_carry, begin_other, put_head, set_up_next, switch, begin_old, after_switch}
use Rattle.refinement.proofs.Same.{Safe, Same, safe_pick, same_pick, same_by, same_at, dir-long, rebuilt}
use Rattle.refinement.proofs.Rows.{done_safe, done_same}
use Rattle.refinement.proofs.Putting.{pass_safe, pass_same}

-- other tapes, and another place of what is carried
pub bounded_with : (r : Registers) (ph : memory_phase.Phase) (t : Tapes) (c : Carrying) → Bounded r → t.active < 2 → Bounded (registers ph t r.kept r.job r.walking r.putting c)
bounded_with r ph t c b h = record { active = h; kept = b.kept; name = b.name; text = b.text; bytes = b.bytes; at = b.at }

pub other_side : (t : ℕ) → 1 - t < 2
other_side t = omega arith

module _ (r : Registers) (m : List ℕ) (h : length m ≡ 262144) where
  pub go_on_safe : Bounded r → Safe m (go_on r m)
  unfolding go_on
  go_on_safe b = safe_pick r.carrying.waking (done_safe r m b) (pass_safe r m h false b)

  pub go_on_same : Bounded r → Fits (machine.go_on (house_of r m)).state → Same (go_on r m) (machine.go_on (house_of r m))
  unfolding go_on house_of
  go_on_same b = same_pick r.carrying.waking (λ f. done_same r m) (pass_same r m h false b)

  -- THE NEXT ENTRY
  pub entry_safe : (i : ℕ) → Bounded r → Safe m (carry_entry i r m)
  unfolding carry_entry
  entry_safe i b =
      safe_pick (ltb i r.kept.entries) (record { bounded = bounded_with r _ r.tapes _ b b.active; kept = kept_same m })
      (record { bounded = bounded_with r _ r.tapes r.carrying b b.active; kept = kept_same m })

  pub entry_same : (i : ℕ) → Bounded r → Fits (machine.carry_entry i (house_of r m)).state → Same (carry_entry i r m) (machine.carry_entry i (house_of r m))
  unfolding carry_entry house_of
  entry_same i b =
      same_by (ap (ltb i) (sym (dir-long r.kept.entries m h b.kept.entries)))
      (λ f. record { act = ap (λ p. read p.tape p.at) (entry_means r.kept.entries i m); state = refl })
      (λ f. record { act = refl; state = refl })

  pub carry_safe : Bounded r → Safe m (carry r m)
  unfolding carry
  carry_safe b = safe_pick (eqb r.carrying.quota 0) (go_on_safe b) (entry_safe (next_entry r m) b)

  pub carry_same : Bounded r → Fits (machine.carry (house_of r m)).state → Same (carry r m) (machine.carry (house_of r m))
  unfolding carry house_of
  carry_same b = same_pick (eqb r.carrying.quota 0) (go_on_same b) (next (next_means r.tapes.active r.tapes.cursor r.kept.entries m))
    where
      next : next_entry r m ≡ machine.next_entry (house_of r m) → Fits (machine.carry_entry (machine.next_entry (house_of r m)) (house_of r m)).state →
          Same (carry_entry (next_entry r m) r m) (machine.carry_entry (machine.next_entry (house_of r m)) (house_of r m))
      next e f =
          subst (λ i. Same (carry_entry (next_entry r m) r m) (machine.carry_entry i (house_of r m))) e
          (entry_same (next_entry r m) b (subst (λ i. Fits (machine.carry_entry i (house_of r m)).state) (sym e) f))

  -- ITS RECORDS
  pub piece_carried_safe : (p : Page) → Bounded r → Safe m (carry_piece p r m)
  unfolding carry_piece
  piece_carried_safe p b = record { bounded = bounded_with r _ _ _ b b.active; kept = kept_same m }

  pub piece_carried_same : (p : Page) → Fits (machine.carry_piece (piece_in (checked_record_of p)) (house_of r m)).state → Same (carry_piece p r m) (machine.carry_piece (piece_in (checked_record_of p)) (house_of r m))
  unfolding carry_piece house_of
  piece_carried_same p f =
      let few = f.carrying.part in
      record {
        act = ap (λ j. put_on (1 - r.tapes.active) (page_of (copy r.carrying.index j (piece_of_page p)))) (mod-eq_of_lt (let z : r.carrying.part < 256 = omega arith in z));
        state = refl;
      }

  carried-kept : Kept m (carried_memory r m)
  carried-kept = kept_entry r.carrying.index (new_position r) m h

  carried_is : Fits (house_of r m) → house_of (carried r) (carried_memory r m) ≡ machine.carried (house_of r m)
  unfolding house_of
  carried_is f =
      let b = beside_entry r.carrying.index (new_position r) m h in
      rebuilt (carried r) m (carried_memory r m) b.text b.name refl
      (λ i. state (entry_set r.kept.entries r.carrying.index (new_position r) m h (record { tape = other_side r.tapes.active; at = f.carrying.start }) i) (b.pending r.kept.pending i)
      (small r.kept.count r.kept.current r.kept.weight (b.ring r.kept.ring i) (b.files r.kept.files i)))

module _ (r : Registers) (m : List ℕ) (h : length m ≡ 262144) where
  pub after_carry_safe : Bounded r → Safe m (after_carry r m)
  unfolding after_carry
  after_carry_safe b =
      safe_pick (ltb (suc r.carrying.part) (records_of r.carrying.long)) (record { bounded = bounded_with r _ r.tapes _ b b.active; kept = kept_same m })
      (then (carry_safe (carried r) (carried_memory r m) ((carried-kept r m h).long ∙ h) (bounded_with r _ _ _ b b.active)))
    where
      then : Safe (carried_memory r m) (carry (carried r) (carried_memory r m)) → Safe m (carry (carried r) (carried_memory r m))
      then s = record { bounded = s.bounded; kept = kept_then (carried-kept r m h) s.kept }

  pub after_carry_same : Bounded r → Fits (house_of r m) → Fits (machine.after_carry (house_of r m)).state → Same (after_carry r m) (machine.after_carry (house_of r m))
  unfolding after_carry house_of
  after_carry_same b f =
      same_pick (ltb (suc r.carrying.part) (records_of r.carrying.long))
      (λ g. record { act = ap (λ p. read p.tape (p.at + suc r.carrying.part)) (entry_means r.kept.entries r.carrying.index m); state = refl })
      (same_at (carry (carried r) (carried_memory r m)) (house_of (carried r) (carried_memory r m)) (machine.carried (house_of r m)) machine.carry (carried_is r m h f)
      (carry_same (carried r) (carried_memory r m) ((carried-kept r m h).long ∙ h) (bounded_with r _ _ _ b b.active)))

  -- THE OTHER TAPE
  pub begin_safe : (q : ℕ) (w : Bool) → Bounded r → Safe m (begin_other q w r m)
  unfolding begin_other
  begin_safe q w b = record { bounded = bounded_with r _ _ _ b b.active; kept = kept_same m }

  pub begin_same : (q : ℕ) (w : Bool) → Same (begin_other q w r m) (machine.begin_other q w (house_of r m))
  unfolding begin_other house_of
  begin_same q w = record { act = refl; state = refl }

  pub head_safe : Bounded r → Safe m (put_head r m)
  unfolding put_head
  head_safe b = record { bounded = bounded_with r _ _ r.carrying b b.active; kept = kept_same m }

  pub head_same : Bounded r → Same (put_head r m) (machine.put_head (house_of r m))
  unfolding put_head house_of
  head_same b =
      record {
        act = ap (λ n. put_on (1 - r.tapes.active) (page_of (head (next_generation r.tapes.generation) n))) (sym (dir-long r.kept.entries m h b.kept.entries));
        state = refl;
      }

  pub set_up_safe : Bounded r → Safe m (set_up_next r m)
  unfolding set_up_next
  set_up_safe b = safe_pick (ltb r.carrying.index (suc (r.kept.ring + r.kept.files))) (record { bounded = bounded_with r _ _ _ b b.active; kept = kept_same m }) (carry_safe r m h b)

  pub set_up_same : Bounded r → Fits (machine.set_up_next (house_of r m)).state → Same (set_up_next r m) (machine.set_up_next (house_of r m))
  unfolding set_up_next house_of
  set_up_same b = same_by (ap (ltb r.carrying.index) many) (λ f. record { act = refl; state = refl }) (carry_same r m h b)
    where
      many : suc (r.kept.ring + r.kept.files) ≡ length (set_up_of (small_of r.kept m))
      many =
          let text : List News = news r.kept.count r.kept.current r.kept.weight nothing_else ∷ [] in
          let w = length-pushes (ring_of r.kept.ring m) in
          let l = ring_long r.kept.ring m h b.kept.ring in
          let e = length-slots 0 (files_of r.kept.files m) in
          let k = length-files r.kept.files (files_in m) in
          let a = length-append (pushes (ring_of r.kept.ring m)) (slots 0 (files_of r.kept.files m) ++ text) in
          let c = length-append (slots 0 (files_of r.kept.files m)) text in
          omega arith

  -- THE CHANGE OF TAPES
  pub old_safe : Bounded r → Safe m (begin_old r m)
  unfolding begin_old
  old_safe b = record { bounded = bounded_with r _ r.tapes r.carrying b b.active; kept = kept_same m }

  pub old_same : Same (begin_old r m) (did (engine.at_phase engine.switched (house_of r m)) (begin (house_of r m).tapes.active))
  unfolding begin_old house_of
  old_same = record { act = refl; state = refl }

  pub switch_safe : Bounded r → Safe m (after_switch r m)
  unfolding after_switch
  switch_safe b = go_on_safe (switch r) m h (bounded_with r _ _ r.carrying b (other_side r.tapes.active))

  pub switch_same : Bounded r → Fits (machine.go_on (machine.switch (house_of r m))).state → Same (after_switch r m) (machine.go_on (machine.switch (house_of r m)))
  unfolding after_switch house_of
  switch_same b = go_on_same (switch r) m h (bounded_with r _ _ r.carrying b (other_side r.tapes.active))
