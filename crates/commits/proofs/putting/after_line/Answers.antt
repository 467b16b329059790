use Rattle.std.proofs.Common.{subst}
use Rattle.memory.specs.declared.walking.Putting.{Putting}
use Rattle.commits.specs.Acts.{Says}
use Rattle.commits.specs.Setters.{with_putting}
use Rattle.commits.specs.Putting.{after_line, put_further, put_next, put_commit}
use Rattle.commits.proofs.Saying.{says_yes}
use Rattle.commits.proofs.putting.after_line.Goals as goal

pub returns-then-not-registers : goal.returns-then-not-registers
unfolding after_line
returns-then-not-registers c = simp c.if-not-registers.true c.put_commit.ensures

pub returns : goal.returns
unfolding after_line
returns c =
    let r = c.args.registers.now in
    let m = c.args.memory.now in
    says_yes r.putting.more (put_next (with_putting (put_further r m) r) m) (put_commit r m) c.put_next.new.registers c.put_next.new.memory c.put_next.result c.args.out.now
    c.put_next.new.out c.if-not-registers.false
    (subst (λ (p : Putting). Says (put_next (with_putting p r) m) c.put_next.new.registers c.put_next.new.memory c.put_next.result c.args.out.now c.put_next.new.out)
    c.put_further-registers.ensures.next c.put_next.ensures)
