use Rattle.std.proofs.Common.{sym, refl, ◌∙◌, rules}
use Rattle.std.proofs.lemmas.Result.{err_from_is_err_and}
use Rattle.typed.specs.Meaning.{address_of}
use Rattle.commands.specs.Resolve.{good, then, bounds, in_order, resolve_plain, resolve_range}
use Rattle.commands.specs.Code.{bounds_as}
use Rattle.commands.proofs.Handed.{then_lost, then-on, range_one, range-two, range_from_first}
use Rattle.commands.proofs.bounds.range_bounds.Goals as goal

pub returns-in_err-line-in-One : goal.returns-in_err-line-in-One
returns-in_err-line-in-One c =
    let p = err_from_is_err_and c.from_residual.result c.from_residual.ensures.1 in
    let r = c.args.range in
    rw (p.1, p.2)
    (then_lost (resolve_plain c.args.sizes.count c.args.sizes.current (address_of r.first)) (λ n. good (bounds n n)) _ c.in_err-line-in-One.ensures
    ∙ sym (range_one c.args.sizes.count c.args.sizes.current r (bounds_as c.args.default) c.in-One.is))

pub returns-in_err-first-in-Two : goal.returns-in_err-first-in-Two
returns-in_err-first-in-Two c =
    let p = err_from_is_err_and c.from_residual-in_err-first-in-Two.result c.from_residual-in_err-first-in-Two.ensures.1 in
    let r = c.args.range in
    rw (p.1, p.2)
    (then_lost (resolve_plain c.args.sizes.count c.args.sizes.current (address_of r.first))
    (λ n. then (resolve_plain c.args.sizes.count c.args.sizes.current (address_of r.second)) (λ m. in_order n m)) _ c.in_err-first-in-Two.ensures
    ∙ sym (range-two c.args.sizes.count c.args.sizes.current r (bounds_as c.args.default) c.in-Two.is))

pub returns-in_err-first-in-FromFirst : goal.returns-in_err-first-in-FromFirst
returns-in_err-first-in-FromFirst c =
    let p = err_from_is_err_and c.from_residual-in_err-first-in-FromFirst.result c.from_residual-in_err-first-in-FromFirst.ensures.1 in
    let r = c.args.range in
    rw (p.1, p.2)
    (then_lost (resolve_plain c.args.sizes.count c.args.sizes.current (address_of r.first))
    (λ n. then (resolve_plain c.args.sizes.count n (address_of r.second)) (λ m. in_order n m)) _ c.in_err-first-in-FromFirst.ensures
    ∙ sym (range_from_first c.args.sizes.count c.args.sizes.current r (bounds_as c.args.default) c.in-FromFirst.is))

pub returns-in-Unspecified : goal.returns-in-Unspecified
unfolding resolve_range
returns-in-Unspecified c = search rules

pub returns-in_ok-line-in-One : goal.returns-in_ok-line-in-One
returns-in_ok-line-in-One c =
    let r = c.args.range in
    then-on (resolve_plain c.args.sizes.count c.args.sizes.current (address_of r.first)) (λ n. good (bounds n n)) c.in_ok-line-in-One.line _ c.in_ok-line-in-One.ensures refl
    ∙ sym (range_one c.args.sizes.count c.args.sizes.current r (bounds_as c.args.default) c.in-One.is)

pub returns-in_ok-first-in-Two : goal.returns-in_ok-first-in-Two
returns-in_ok-first-in-Two c =
    let r = c.args.range in
    then-on (resolve_plain c.args.sizes.count c.args.sizes.current (address_of r.first))
    (λ n. then (resolve_plain c.args.sizes.count c.args.sizes.current (address_of r.second)) (λ m. in_order n m)) c.in_ok-first-in-Two.first _ c.in_ok-first-in-Two.ensures c.to_second.ensures
    ∙ sym (range-two c.args.sizes.count c.args.sizes.current r (bounds_as c.args.default) c.in-Two.is)

pub returns-in_ok-first-in-FromFirst : goal.returns-in_ok-first-in-FromFirst
returns-in_ok-first-in-FromFirst c =
    let r = c.args.range in
    then-on (resolve_plain c.args.sizes.count c.args.sizes.current (address_of r.first))
    (λ n. then (resolve_plain c.args.sizes.count n (address_of r.second)) (λ m. in_order n m)) c.in_ok-first-in-FromFirst.first _ c.in_ok-first-in-FromFirst.ensures c.to_second-in-FromFirst.ensures
    ∙ sym (range_from_first c.args.sizes.count c.args.sizes.current r (bounds_as c.args.default) c.in-FromFirst.is)

pub returns-in-All : goal.returns-in-All
unfolding resolve_range
returns-in-All c = search rules
