use Rattle.std.proofs.Common.{◌<◌, ◌≤◌, [], length, get_or, sym, refl, ap, ◌∙◌, ⊎_elim, arith, rules, ltb-false, ltb-true}
use Rattle.plain.specs.Pattern.{none, got}
use Rattle.plain.specs.Command.{here, address, up_to, base}
use Rattle.typed.specs.Answer.{a_number}
use Rattle.typed.proofs.Fronts.{tail_of, front, no_front, carried, behind_none, behind_got}
use Rattle.typed.proofs.Bases.{at-nothing, at_dot, at_dollar, at_slash, at_question, at_plus, at_minus, at_mark, at_no_mark, at-digit, at_other, Other}
use Rattle.typed.proofs.addresses.base.Goals as goal
use Rattle.typed.proofs.addresses.base.Goals.{in_default-rest-via-then-rest-lt1, in_default-rest-via-else-rest-lt1+then-rest-lt97, in_default-rest-via-else-rest-lt1+else-rest-lt97+else-rest-lt123, in_default-c-via-then-c-lt45, in_default-c-via-else-c-lt45+else-c-lt58}

pub returns-in_default : goal.returns-in_default
returns-in_default c = sym (ap base (no_front c.args.cs.now (omega (arith, ltb-true))) ∙ at-nothing)

pub returns-in-46 : goal.returns-in-46
returns-in-46 c = sym (ap base (front c.args.cs.now 46 (omega (arith, ltb-false)) c.in-46.is) ∙ at_dot _)

pub returns-in-36 : goal.returns-in-36
returns-in-36 c = sym (ap base (front c.args.cs.now 36 (omega (arith, ltb-false)) c.in-36.is) ∙ at_dollar _)

pub returns-in-43 : goal.returns-in-43
returns-in-43 c =
    let cs = c.args.cs.now in
    let some : 0 < length cs = omega (arith, ltb-false) in
    ⊎_elim
    (λ e. let f = front cs 43 some e in ap (got here) f ∙ sym (ap base f ∙ at_plus (tail_of cs)))
    (λ e. let f = front cs 45 some e in ap (got here) f ∙ sym (ap base f ∙ at_minus (tail_of cs)))
    c.in-43.is

pub returns-in-97-to-122 : goal.returns-in-97-to-122
returns-in-97-to-122 c =
    let cs = c.args.cs.now in
    sym (ap base (front cs 39 (omega (arith, ltb-false)) c.in-39.is) ∙ at_mark (tail_of cs) (omega (arith, ltb-false)) (omega (arith, ltb-false)) (omega (arith, ltb-true)))

pub returns-in_default-rest : goal.returns-in_default-rest
returns-in_default-rest c =
    let cs = c.args.cs.now in
    sym (ap base (front cs 39 (omega (arith, ltb-false)) c.in-39.is) ∙ at_no_mark (tail_of cs) (λ some low high.
    elim c.in_default-rest.branch [
      | in_default-rest-via-then-rest-lt1 w ↦ omega (arith, ltb-true)
      | in_default-rest-via-else-rest-lt1+then-rest-lt97 w ↦ omega (arith, ltb-true)
      | in_default-rest-via-else-rest-lt1+else-rest-lt97+else-rest-lt123 w ↦ omega (arith, ltb-false)
    ]))

pub returns-in_err-text-in-47 : goal.returns-in_err-text-in-47
returns-in_err-text-in-47 c =
    let cs = c.args.cs.now in
    rw c.from_residual.ensures (behind_none 47 (λ t ds. got (address 4 0 t) ds) (up_to 47 []) base at_slash cs (omega (arith, ltb-false)) c.in-47.is c.in_err-text-in-47.ensures)

pub returns-in_ok-text-in-47 : goal.returns-in_ok-text-in-47
returns-in_ok-text-in-47 c =
    let cs = c.args.cs.now in
    behind_got 47 (λ t ds. got (address 4 0 t) ds) (up_to 47 []) base at_slash cs (omega (arith, ltb-false)) c.in-47.is c.in_ok-text-in-47.text.now c.in_ok-text-in-47.rest.now c.in_ok-text-in-47.ensures

pub returns-in_err-text-in-63 : goal.returns-in_err-text-in-63
returns-in_err-text-in-63 c =
    let cs = c.args.cs.now in
    rw c.from_residual-in_err-text-in-63.ensures (behind_none 63 (λ t ds. got (address 5 0 t) ds) (up_to 63 []) base at_question cs (omega (arith, ltb-false)) c.in-63.is c.in_err-text-in-63.ensures)

pub returns-in_ok-text-in-63 : goal.returns-in_ok-text-in-63
returns-in_ok-text-in-63 c =
    let cs = c.args.cs.now in
    behind_got 63 (λ t ds. got (address 5 0 t) ds) (up_to 63 []) base at_question cs (omega (arith, ltb-false)) c.in-63.is c.in_ok-text-in-63.text.now c.in_ok-text-in-63.rest.now c.in_ok-text-in-63.ensures

pub returns-in_err-n-in-48-to-57 : goal.returns-in_err-n-in-48-to-57
returns-in_err-n-in-48-to-57 c =
    let cs = c.args.cs.now in
    let low : 48 ≤ get_or cs 0 0 = search rules in
    rw c.from_residual-in_err-n-in-48-to-57.ensures (sym (at-digit cs (omega (arith, ltb-false)) (omega (arith, ltb-false)) (omega (arith, ltb-true)) ∙ carried (λ n ds. got (address 2 n []) ds) {g = a_number cs} {h = none} (sym c.in_err-n-in-48-to-57.ensures)))

pub returns-in_ok-n-in-48-to-57 : goal.returns-in_ok-n-in-48-to-57
returns-in_ok-n-in-48-to-57 c =
    let cs = c.args.cs.now in
    let low : 48 ≤ get_or cs 0 0 = search rules in
    sym (at-digit cs (omega (arith, ltb-false)) (omega (arith, ltb-false)) (omega (arith, ltb-true)) ∙ carried (λ n ds. got (address 2 n []) ds) {g = a_number cs} {h = got c.in_ok-n-in-48-to-57.n c.in_ok-n-in-48-to-57.rest.now} (sym c.in_ok-n-in-48-to-57.ensures))

pub returns-in_default-c : goal.returns-in_default-c
returns-in_default-c c =
    let cs = c.args.cs.now in
    let other : Other (get_or cs 0 0) = record {
      digit = elim c.in_default-c.branch [
        | in_default-c-via-then-c-lt45 w ↦ λ low high. omega (arith, ltb-true)
        | in_default-c-via-else-c-lt45+else-c-lt58 w ↦ λ low high. omega (arith, ltb-false)
      ];
      dot = search rules;
      dollar = search rules;
      quote = search rules;
      slash = search rules;
      question = search rules;
      plus = search rules;
      minus = search rules;
    } in
    sym (ap base (front cs (get_or cs 0 0) (omega (arith, ltb-false)) refl) ∙ at_other (get_or cs 0 0) (tail_of cs) other)
