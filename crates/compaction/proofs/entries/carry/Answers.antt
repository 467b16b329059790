use Rattle.std.proofs.Common.{subst}
use Rattle.std.proofs.lemmas.Bool.{ne_eqb}
use Rattle.commits.specs.Acts.{Says}
use Rattle.compaction.specs.Carry.{carry, carry_entry}
use Rattle.compaction.proofs.entries.carry.Goals as goal

pub returns-then-registers-eq0 : goal.returns-then-registers-eq0
unfolding carry
returns-then-registers-eq0 c = simp c.if-registers-eq0.true c.go_on.ensures

pub returns : goal.returns
unfolding carry
returns c =
    let r = c.args.registers.now in
    let m = c.args.memory.now in
    let out = c.args.out.now in
    simp (ne_eqb r.carrying.quota 0 c.if-registers-eq0.false)
    (subst (λ i. Says (carry_entry i r m) c.carry_entry.new.registers m c.carry_entry.result out out) c.next_on-i.ensures (c.carry_entry.ensures out))
