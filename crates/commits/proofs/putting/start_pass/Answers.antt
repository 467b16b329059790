use Rattle.std.proofs.Common.{subst}
use Rattle.commits.specs.Acts.{Says}
use Rattle.commits.specs.Setters.{putting, with_kept, with_pending, with_putting}
use Rattle.commits.specs.Putting.{put_next, start_pass}
use Rattle.commits.proofs.putting.start_pass.Goals as goal

pub returns : goal.returns
unfolding start_pass
returns c =
    let r = c.args.registers.now in
    let some = c.some.ensures in
    let zero = c.default.ensures.1.1 in
    subst (λ d. Says d c.put_next.new.registers c.put_next.new.memory c.put_next.result c.args.out.now c.put_next.new.out)
    (λ i. put_next (with_putting (putting c.args.second (some i) (zero.0 i) (zero.1 i)) (with_kept (with_pending 0 r.kept) r)) c.args.memory.now) c.put_next.ensures
