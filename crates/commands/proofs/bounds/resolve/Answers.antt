use Rattle.std.proofs.lemmas.Result.{err_from_is_err_and}
use Rattle.typed.specs.Meaning.{address_of}
use Rattle.commands.specs.Resolve.{base_plain, counted, resolve_plain}
use Rattle.commands.proofs.Handed.{then_lost, then-on}
use Rattle.commands.proofs.bounds.resolve.Goals as goal

pub returns-in_err-line : goal.returns-in_err-line
unfolding resolve_plain
returns-in_err-line c =
    let a = address_of c.args.address in
    let p = err_from_is_err_and c.from_residual.result c.from_residual.ensures.1 in
    rw (p.1, p.2) (then_lost (base_plain c.args.sizes.count c.args.sizes.current a) (counted c.args.sizes.count a) _ c.in_err-line.ensures)

pub returns : goal.returns
unfolding resolve_plain
returns c =
    let a = address_of c.args.address in
    then-on (base_plain c.args.sizes.count c.args.sizes.current a) (counted c.args.sizes.count a) c.in_ok-line.line _ c.in_ok-line.ensures c.step.ensures
