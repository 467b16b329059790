use Rattle.std.proofs.Common.{◌+◌, ◌*◌, ◌<◌, ◌≤◌, sym, refl, ◌∙◌, subst, add-one, arith}
use Rattle.std.proofs.lemmas.Bool.{lt-ltb, le-ltb}
use Rattle.engine.specs.Packing.{records_of}
use Rattle.memory.specs.Sections.{with_entry}
use Rattle.memory.specs.declared.phase.Phase.TheVariants.{CarryRead}
use Rattle.protocol.specs.declared.Told.TheVariants.{Read}
use Rattle.protocol.specs.Acts.{ActTold}
use Rattle.commits.specs.Acts.{Says}
use Rattle.commits.specs.Setters.{carrying, with_cursor, in_phase, with_tapes, with_carrying}
use Rattle.compaction.specs.Carry.{after_carry, carry}
use Rattle.compaction.proofs.Placed.{Near, entry_near}
use Rattle.compaction.proofs.entries.after_carry.Goals as goal

pub overflow_add-position : goal.overflow_add-position
overflow_add-position c =
    let n : Near c.entry-position.result = subst Near (sym c.entry-position.ensures) (entry_near _ _ _) in
    let t = c.requires.1.1.carrying.part in
    omega (arith, n.at, t)

pub read-requires : goal.read-requires
read-requires c =
    let n : Near c.entry-position.result = subst Near (sym c.entry-position.ensures) (entry_near _ _ _) in
    let t = c.requires.1.1.carrying.part in
    omega (arith, n.at, n.tape, t)

pub returns-then-part-records_of : goal.returns-then-part-records_of
unfolding after_carry ActTold
returns-then-part-records_of c =
    let r = c.args.registers.now in
    let part = add-one r.carrying.part in
    let at = c.entry-position.ensures in
    let few = records_of r.carrying.long in
    simp (lt-ltb _ _ (subst (λ n. n < few) part (subst (λ n. r.carrying.part + 1 < n) c.records_of.ensures c.if-part-records_of.true))) record {
      registers = λ i. in_phase CarryRead (with_carrying (carrying r.carrying.index (part i) r.carrying.long r.carrying.start r.carrying.quota r.carrying.waking) r);
      memory = refl;
      act = (c.read.ensures ∙ (λ i. Read (2 * ((at i).at + part i) + (at i).tape)), refl);
    }

pub returns : goal.returns
unfolding after_carry
returns c =
    let r = c.args.registers.now in
    let few = records_of r.carrying.long in
    let quota = c.saturating_sub-registers.ensures in
    let cursor = add-one r.carrying.index in
    let passive = c.passive.ensures in
    let memory = c.set_entry.ensures ∙ (λ i. with_entry r.carrying.index record { tape = passive i; at = r.carrying.start } c.args.memory.now) in
    simp (le-ltb _ _ (subst (λ n. few ≤ n) (add-one r.carrying.part) (subst (λ n. n ≤ r.carrying.part + 1) c.records_of.ensures c.if-part-records_of.false)))
    (subst (λ d. Says d c.carry.new.registers c.carry.new.memory c.carry.result c.args.out.now c.carry.new.out)
    (λ i. carry (with_carrying (carrying r.carrying.index 0 0 r.carrying.start (quota i) r.carrying.waking) (with_tapes (with_cursor (cursor i) r.tapes) r)) (memory i))
    c.carry.ensures)
