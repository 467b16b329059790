use Rattle.std.proofs.Common.{◌≡◌, ◌⊎◌, get_or, sym, ap, ◌∙◌, ⊎_elim, arith, rules, ltb-true}
use Rattle.plain.specs.Command.{a_range}
use Rattle.typed.proofs.Fronts.{tail_of, front}
use Rattle.typed.proofs.Ranges.{NotFirst, percent, comma, nowhere, somewhere}
use Rattle.typed.proofs.addresses.read_range.Goals as goal
use Rattle.typed.proofs.addresses.read_range.Goals.{in_default-via-then-cs-lt1, in_default-via-else-cs-lt1+in_default-1}

pub returns-in-37 : goal.returns-in-37
returns-in-37 c =
    let cs = c.args.cs.now in
    let first : (get_or cs 0 0 ≡ 37) ⊎ (get_or cs 0 0 ≡ 44) = search rules in
    ⊎_elim
    (λ e. sym (ap a_range (front cs 37 (search rules) e) ∙ percent (tail_of cs)))
    (λ e. sym (ap a_range (front cs 44 (search rules) e) ∙ comma (tail_of cs)))
    first

pub returns-in_default : goal.returns-in_default
returns-in_default c =
    let cs = c.args.cs.now in
    let not-all : NotFirst 37 cs = λ some is. elim c.in_default.branch [ in_default-via-then-cs-lt1 w ↦ omega (arith, ltb-true) | in_default-via-else-cs-lt1+in_default-1 w ↦ search rules ] in
    let not-comma : NotFirst 44 cs = λ some is. elim c.in_default.branch [ in_default-via-then-cs-lt1 w ↦ omega (arith, ltb-true) | in_default-via-else-cs-lt1+in_default-1 w ↦ search rules ] in
    c.from_first.ensures ∙ sym (somewhere cs not-all not-comma c.if-starts_address.ensures)

pub returns-in_default-2 : goal.returns-in_default-2
returns-in_default-2 c =
    let cs = c.args.cs.now in
    let not-all : NotFirst 37 cs = λ some is. elim c.in_default.branch [ in_default-via-then-cs-lt1 w ↦ omega (arith, ltb-true) | in_default-via-else-cs-lt1+in_default-1 w ↦ search rules ] in
    let not-comma : NotFirst 44 cs = λ some is. elim c.in_default.branch [ in_default-via-then-cs-lt1 w ↦ omega (arith, ltb-true) | in_default-via-else-cs-lt1+in_default-1 w ↦ search rules ] in
    sym (nowhere cs not-all not-comma c.if-starts_address.ensures)
