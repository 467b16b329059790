use Rattle.std.proofs.Common.{[], length, ap, ◌∙◌, arith, rules, ltb-true}
use Rattle.plain.specs.Pattern.{none, got}
use Rattle.plain.specs.Command.{a_range, deed}
use Rattle.typed.specs.Meaning.{range_of, deed_of}
use Rattle.typed.proofs.Fronts.{tail_of, front, carried}
use Rattle.typed.proofs.Ranges.{NotFirst, left_range}
use Rattle.typed.proofs.Wholes.{onward-plain, then_what, command_is, all_matching, all_others, once}
use Rattle.typed.proofs.commands.read_command.Goals as goal
use Rattle.typed.proofs.commands.read_command.Goals.{in_default-via-then-rest-lt1, in_default-via-else-rest-lt1+in_default-1}

pub returns-in_err-range : goal.returns-in_err-range
returns-in_err-range c =
    rw c.from_residual.ensures (carried then_what {g = none} {h = a_range c.args.cs.now} c.in_err-range.ensures ∙ command_is c.args.cs.now)

pub global-requires : goal.global-requires
global-requires c =
    let ds = c.in_ok-range.rest.now in
    omega (arith, left_range _ c.args.cs.now ds c.in_ok-range.ensures, ap length (front ds 103 (search rules) (search rules)))

pub global-requires-in-118 : goal.global-requires-in-118
global-requires-in-118 c =
    let ds = c.in_ok-range.rest.now in
    omega (arith, left_range _ c.args.cs.now ds c.in_ok-range.ensures, ap length (front ds 118 (search rules) (search rules)))

pub read_deed-requires : goal.read_deed-requires
read_deed-requires c = omega (arith, left_range _ c.args.cs.now _ c.in_ok-range.ensures)

pub returns-in-103 : goal.returns-in-103
returns-in-103 c =
    let ds = c.in_ok-range.rest.now in
    c.global.ensures
    ∙ all_matching (range_of c.in_ok-range.range) ds (tail_of ds) (front ds 103 (search rules) (search rules))
    ∙ carried then_what {g = got (range_of c.in_ok-range.range) ds} {h = a_range c.args.cs.now} c.in_ok-range.ensures
    ∙ command_is c.args.cs.now

pub returns-in-118 : goal.returns-in-118
returns-in-118 c =
    let ds = c.in_ok-range.rest.now in
    c.global-in-118.ensures
    ∙ all_others (range_of c.in_ok-range.range) ds (tail_of ds) (front ds 118 (search rules) (search rules))
    ∙ carried then_what {g = got (range_of c.in_ok-range.range) ds} {h = a_range c.args.cs.now} c.in_ok-range.ensures
    ∙ command_is c.args.cs.now

pub returns-in_err-deed-in_default : goal.returns-in_err-deed-in_default
returns-in_err-deed-in_default c =
    let ds = c.in_ok-range.rest.now in
    let r = range_of c.in_ok-range.range in
    let not-g : NotFirst 103 ds = λ some is. elim c.in_default.branch [ in_default-via-then-rest-lt1 w ↦ omega (arith, ltb-true) | in_default-via-else-rest-lt1+in_default-1 w ↦ search rules ] in
    let not-v : NotFirst 118 ds = λ some is. elim c.in_default.branch [ in_default-via-then-rest-lt1 w ↦ omega (arith, ltb-true) | in_default-via-else-rest-lt1+in_default-1 w ↦ search rules ] in
    rw c.from_residual-in_err-deed-in_default.ensures
    (carried (onward-plain r) {g = none} {h = deed ds} c.in_err-deed-in_default.ensures ∙ once r ds not-g not-v ∙ carried then_what {g = got (range_of c.in_ok-range.range) ds} {h = a_range c.args.cs.now} c.in_ok-range.ensures ∙ command_is c.args.cs.now)

pub returns-in_ok-deed-in_default : goal.returns-in_ok-deed-in_default
returns-in_ok-deed-in_default c =
    let ds = c.in_ok-range.rest.now in
    let r = range_of c.in_ok-range.range in
    let not-g : NotFirst 103 ds = λ some is. elim c.in_default.branch [ in_default-via-then-rest-lt1 w ↦ omega (arith, ltb-true) | in_default-via-else-rest-lt1+in_default-1 w ↦ search rules ] in
    let not-v : NotFirst 118 ds = λ some is. elim c.in_default.branch [ in_default-via-then-rest-lt1 w ↦ omega (arith, ltb-true) | in_default-via-else-rest-lt1+in_default-1 w ↦ search rules ] in
    carried (onward-plain r) {g = got (deed_of c.in_ok-deed-in_default.deed) []} {h = deed ds} c.in_ok-deed-in_default.ensures ∙ once r ds not-g not-v ∙ carried then_what {g = got (range_of c.in_ok-range.range) ds} {h = a_range c.args.cs.now} c.in_ok-range.ensures ∙ command_is c.args.cs.now
