use Rattle.std.proofs.Common.{suc, ◌+◌, ◌<◌, ◌≤◌, sym, subst, add-one, arith}
use Rattle.std.proofs.lemmas.Bool.{lt-ltb, le-ltb}
use Rattle.commits.specs.Acts.{Says}
use Rattle.commits.specs.Setters.{with_index, with_carrying}
use Rattle.compaction.specs.Carry.{set_up_next, set_up_page, put_other}
use Rattle.compaction.specs.Laid.{laid}
use Rattle.compaction.proofs.tapes.set_up_next.Goals as goal

pub returns-then-index-registers : goal.returns-then-index-registers
unfolding set_up_next
returns-then-index-registers c =
    let r = c.args.registers.now in
    let h : suc (r.kept.ring + r.kept.files) ≤ r.carrying.index = omega (arith, c.if-index-registers.true) in
    simp (le-ltb r.carrying.index (suc (r.kept.ring + r.kept.files)) h) c.carry.ensures

pub returns : goal.returns
unfolding set_up_next
returns c =
    let r = c.args.registers.now in
    let m = c.args.memory.now in
    let out = c.args.out.now in
    let p = set_up_page r m in
    let h : r.carrying.index < suc (r.kept.ring + r.kept.files) = omega (arith, c.if-index-registers.false) in
    simp (lt-ltb r.carrying.index (suc (r.kept.ring + r.kept.files)) h)
    (subst (λ o. Says (put_other p (with_carrying (with_index (suc r.carrying.index) r.carrying) r) m) c.put_other.new.registers m c.put_other.result out o) (sym c.set_up_record.ensures)
    (subst (λ n. Says (put_other p (with_carrying (with_index n r.carrying) r) m) c.put_other.new.registers m c.put_other.result out (laid p out)) (add-one r.carrying.index) (c.put_other.ensures m p out)))
