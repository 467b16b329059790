use Rattle.std.proofs.Common.{false, ◌∙◌, subst}
use Rattle.commits.specs.Acts.{Says}
use Rattle.commits.specs.Setters.{tapes, with_tapes}
use Rattle.compaction.specs.Carry.{after_switch, go_on}
use Rattle.compaction.proofs.tapes.after_switch.Goals as goal

pub returns : goal.returns
unfolding after_switch
returns c =
    let r = c.args.registers.now in
    let passive = c.passive.ensures in
    let generation = c.generation_after.ensures in
    let counts = c.one_tape-registers.ensures ∙ (λ i. tapes r.tapes.room (passive i) (generation i) r.tapes.other false 0 0) in
    subst (λ d. Says d c.go_on.new.registers c.go_on.new.memory c.go_on.result c.args.out.now c.go_on.new.out)
    (λ i. go_on (with_tapes (counts i) r) c.args.memory.now) c.go_on.ensures
