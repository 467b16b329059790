use Rattle.std.proofs.Common.{sym, refl, ap, ◌∙◌, rules}
use Rattle.std.proofs.lemmas.Result.{err_from_is_err_and}
use Rattle.typed.specs.Meaning.{deed_of, simple_of}
use Rattle.commands.specs.Resolve.{good, command_bounds}
use Rattle.commands.specs.Plan.{decide_lines}
use Rattle.commands.specs.Turn.{given_of}
use Rattle.commands.specs.Code.{checked_by, bounds_as, sizes_as, slot_as}
use Rattle.commands.proofs.Handed.{then_lost, then-on}
use Rattle.commands.proofs.Decided.{range-ordered, known_by, decide_unknown, save_decided, edit_decided, files_decided, lines_decided}
use Rattle.commands.proofs.decide.plan_command.Goals as goal

pub returns-then-not-known : goal.returns-then-not-known
returns-then-not-known c =
    decide_unknown (sizes_as c.args.sizes) (slot_as c.args.slot) (given_of (deed_of c.args.simple.deed)) (simple_of c.args.simple)
    (sym c.known.ensures ∙ c.if-not-known.true)

pub write-requires : goal.write-requires
write-requires c = record { sizes_fit = search rules; range_ordered = range-ordered c.command_bounds-range.result c.args.sizes.count c.args.sizes.current (simple_of c.args.simple) c.command_bounds-range.ensures }

pub returns-in_err-range-in_default : goal.returns-in_err-range-in_default
returns-in_err-range-in_default c =
    let p = err_from_is_err_and c.from_residual.result c.from_residual.ensures.1 in
    let s = sizes_as c.args.sizes in
    let x = c.args.simple in
    let g = given_of (deed_of x.deed) in
    let k = known_by c.known.result (simple_of x) c.known.ensures c.if-not-known.false in
    rw (p.1, p.2)
    (then_lost (command_bounds s.count s.at (simple_of x)) (λ b. decide_lines s g b (deed_of x.deed)) _ c.in_err-range-in_default.ensures
    ∙ lines_decided s (slot_as c.args.slot) g x (command_bounds s.count s.at (simple_of x)) k refl c.in_default.not-Write c.in_default.not-Edit c.in_default.not-Files)

pub returns-in-Write : goal.returns-in-Write
returns-in-Write c =
    let x = c.args.simple in
    let k = known_by c.known.result (simple_of x) c.known.ensures c.if-not-known.false in
    c.write.ensures
    ∙ save_decided (sizes_as c.args.sizes) (slot_as c.args.slot) (given_of (deed_of x.deed)) x (checked_by bounds_as c.command_bounds-range.result) k c.command_bounds-range.ensures
    c.in-Write.field-0 c.in-Write.is

pub returns-in-Edit : goal.returns-in-Edit
returns-in-Edit c =
    let x = c.args.simple in
    let k = known_by c.known.result (simple_of x) c.known.ensures c.if-not-known.false in
    c.edit.ensures
    ∙ edit_decided (sizes_as c.args.sizes) (slot_as c.args.slot) (given_of (deed_of x.deed)) x (checked_by bounds_as c.command_bounds-range.result) k c.command_bounds-range.ensures
    c.in-Edit.field-0 c.in-Edit.is

pub returns-in-Files : goal.returns-in-Files
returns-in-Files c =
    let x = c.args.simple in
    let k = known_by c.known.result (simple_of x) c.known.ensures c.if-not-known.false in
    ap good c.say.ensures
    ∙ files_decided (sizes_as c.args.sizes) (slot_as c.args.slot) (given_of (deed_of x.deed)) x (checked_by bounds_as c.command_bounds-range.result) k c.command_bounds-range.ensures
    c.in-Files.is

pub returns-in_ok-range-in_default : goal.returns-in_ok-range-in_default
returns-in_ok-range-in_default c =
    let s = sizes_as c.args.sizes in
    let x = c.args.simple in
    let g = given_of (deed_of x.deed) in
    let k = known_by c.known.result (simple_of x) c.known.ensures c.if-not-known.false in
    then-on (command_bounds s.count s.at (simple_of x)) (λ b. decide_lines s g b (deed_of x.deed)) (bounds_as c.in_ok-range-in_default.field-0) _ c.in_ok-range-in_default.ensures c.plan_lines.ensures
    ∙ lines_decided s (slot_as c.args.slot) g x (command_bounds s.count s.at (simple_of x)) k refl c.in_default.not-Write c.in_default.not-Edit c.in_default.not-Files
