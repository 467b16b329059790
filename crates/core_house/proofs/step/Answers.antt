use Rattle.std.proofs.Common.{sym, subst, inl, inr}
use Rattle.memory.specs.Registers.{Tame}
use Rattle.memory.proofs.Storing.{tame_loaded}
use Rattle.protocol.specs.Stepping.{StepSays, step_fits}
use Rattle.protocol.proofs.Numbered.{kind-low}
use Rattle.protocol.proofs.Stepping.{refuses}
use Rattle.core_house.specs.Entry.{own}
use Rattle.core_house.proofs.Steps.{own-long, steps}
use Rattle.core_house.proofs.step.Goals as goal
use Rattle.core_house.proofs.step.Goals.{then-memory-ne-MEMORY-via-then-memory-ne-MEMORY, then-memory-ne-MEMORY-via-else-memory-ne-MEMORY+then-out-lt-ROW}

pub returns-in_default : goal.returns-in_default
returns-in_default c = refuses own own-long c.args.memory.now c.args.kind c.args.bytes.now c.args.out.now (inr (inl c.in_default.ensures.1))

pub returns-then-memory-ne-MEMORY : goal.returns-then-memory-ne-MEMORY
returns-then-memory-ne-MEMORY c =
    refuses own own-long c.args.memory.now c.args.kind c.args.bytes.now c.args.out.now
    (elim c.then-memory-ne-MEMORY.branch [
      | then-memory-ne-MEMORY-via-then-memory-ne-MEMORY w ↦ inl w.if-memory-ne-MEMORY.true
      | then-memory-ne-MEMORY-via-else-memory-ne-MEMORY+then-out-lt-ROW w ↦ inr (inr w.if-out-lt-ROW.true)
    ])

pub answer-told-requires : goal.answer-told-requires
answer-told-requires c = (c.if-memory-ne-MEMORY.false, (c.if-out-lt-ROW.false, subst Tame (sym c.load-registers.ensures) (tame_loaded c.args.memory.now)))

pub returns : goal.returns
returns c =
    subst (λ k. StepSays own c.args.memory.now k c.args.bytes.now c.args.out.now (step_fits own c.args.memory.now k c.args.bytes.now c.args.out.now) c.answer-told.result c.store.new.memory c.answer-told.new.out) c.in-Ok.ensures
    (steps c.args.memory.now _ c.args.bytes.now c.args.out.now c.load-registers.result c.answer-told.new.registers c.answer-told.result c.answer-told.new.memory c.store.new.memory c.answer-told.new.out
    c.if-memory-ne-MEMORY.false (kind-low c.in-Ok.event) c.if-out-lt-ROW.false c.load-registers.ensures c.answer-told.ensures c.store.ensures)
