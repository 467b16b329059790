use Rattle.std.proofs.Common.{[], get_or, sym, refl, ap, ◌∙◌, arith, rules, ltb-false, ltb-true}
use Rattle.plain.specs.Pattern.{got}
use Rattle.plain.specs.Command.{append, insert, change, delete, join, print, number, where_is, undo, redo, files, move, copy, save, edit, load, given, ended, or_here, a_file, deed}
use Rattle.typed.specs.Meaning.{address_of, deed_of}
use Rattle.typed.specs.Answer.{whole, a_swap}
use Rattle.typed.proofs.Fronts.{tail_of, front, no_front, behind, behind_none, behind_got}
use Rattle.typed.proofs.Letters.{at-nothing, a_mark, no_mark, Other, at_other, at_97, at_105, at_99, at_100, at_106, at_109, at_116, at_112, at_110, at_61, at_117, at_85, at_119, at_101, at_114, at_102, at_115}
use Rattle.typed.proofs.deeds.read_deed.Goals as goal
use Rattle.typed.proofs.deeds.read_deed.Goals.{in_default-rest-via-then-rest-lt1, in_default-rest-via-else-rest-lt1+then-rest-lt2+then-rest-lt97, in_default-rest-via-else-rest-lt1+then-rest-lt2+else-rest-lt97+else-rest-lt123, in_default-rest-via-else-rest-lt1+else-rest-lt2}

pub returns-in_default : goal.returns-in_default
returns-in_default c = sym (ap deed (no_front c.args.cs.now (omega (arith, ltb-true))) ∙ at-nothing)

pub returns-in_err-given_lines-in-97 : goal.returns-in_err-given_lines-in-97
returns-in_err-given_lines-in-97 c =
    let cs = c.args.cs.now in
    rw c.from_residual.ensures (behind_none 97 (λ ls ds. got (append ls) ds) given deed at_97 cs (omega (arith, ltb-false)) c.in-97.is c.in_err-given_lines-in-97.ensures)

pub returns-in_ok-given_lines-in-97 : goal.returns-in_ok-given_lines-in-97
returns-in_ok-given_lines-in-97 c =
    let cs = c.args.cs.now in
    behind_got 97 (λ ls ds. got (append ls) ds) given deed at_97 cs (omega (arith, ltb-false)) c.in-97.is _ [] c.in_ok-given_lines-in-97.ensures

pub returns-in_err-given_lines-in-105 : goal.returns-in_err-given_lines-in-105
returns-in_err-given_lines-in-105 c =
    let cs = c.args.cs.now in
    rw c.from_residual-in_err-given_lines-in-105.ensures (behind_none 105 (λ ls ds. got (insert ls) ds) given deed at_105 cs (omega (arith, ltb-false)) c.in-105.is c.in_err-given_lines-in-105.ensures)

pub returns-in_ok-given_lines-in-105 : goal.returns-in_ok-given_lines-in-105
returns-in_ok-given_lines-in-105 c =
    let cs = c.args.cs.now in
    behind_got 105 (λ ls ds. got (insert ls) ds) given deed at_105 cs (omega (arith, ltb-false)) c.in-105.is _ [] c.in_ok-given_lines-in-105.ensures

pub returns-in_err-given_lines-in-99 : goal.returns-in_err-given_lines-in-99
returns-in_err-given_lines-in-99 c =
    let cs = c.args.cs.now in
    rw c.from_residual-in_err-given_lines-in-99.ensures (behind_none 99 (λ ls ds. got (change ls) ds) given deed at_99 cs (omega (arith, ltb-false)) c.in-99.is c.in_err-given_lines-in-99.ensures)

pub returns-in_ok-given_lines-in-99 : goal.returns-in_ok-given_lines-in-99
returns-in_ok-given_lines-in-99 c =
    let cs = c.args.cs.now in
    behind_got 99 (λ ls ds. got (change ls) ds) given deed at_99 cs (omega (arith, ltb-false)) c.in-99.is _ [] c.in_ok-given_lines-in-99.ensures

pub returns-in-100 : goal.returns-in-100
returns-in-100 c =
    let cs = c.args.cs.now in
    behind 100 (ended delete) deed at_100 cs (omega (arith, ltb-false)) c.in-100.is (whole deed_of c.alone.result) c.alone.ensures

pub returns-in-106 : goal.returns-in-106
returns-in-106 c =
    let cs = c.args.cs.now in
    behind 106 (ended join) deed at_106 cs (omega (arith, ltb-false)) c.in-106.is (whole deed_of c.alone-in-106.result) c.alone-in-106.ensures

pub returns-in-112 : goal.returns-in-112
returns-in-112 c =
    let cs = c.args.cs.now in
    behind 112 (ended print) deed at_112 cs (omega (arith, ltb-false)) c.in-112.is (whole deed_of c.alone-in-112.result) c.alone-in-112.ensures

pub returns-in-110 : goal.returns-in-110
returns-in-110 c =
    let cs = c.args.cs.now in
    behind 110 (ended number) deed at_110 cs (omega (arith, ltb-false)) c.in-110.is (whole deed_of c.alone-in-110.result) c.alone-in-110.ensures

pub returns-in-61 : goal.returns-in-61
returns-in-61 c =
    let cs = c.args.cs.now in
    behind 61 (ended where_is) deed at_61 cs (omega (arith, ltb-false)) c.in-61.is (whole deed_of c.alone-in-61.result) c.alone-in-61.ensures

pub returns-in-117 : goal.returns-in-117
returns-in-117 c =
    let cs = c.args.cs.now in
    behind 117 (ended undo) deed at_117 cs (omega (arith, ltb-false)) c.in-117.is (whole deed_of c.alone-in-117.result) c.alone-in-117.ensures

pub returns-in-85 : goal.returns-in-85
returns-in-85 c =
    let cs = c.args.cs.now in
    behind 85 (ended redo) deed at_85 cs (omega (arith, ltb-false)) c.in-85.is (whole deed_of c.alone-in-85.result) c.alone-in-85.ensures

pub returns-in-102 : goal.returns-in-102
returns-in-102 c =
    let cs = c.args.cs.now in
    behind 102 (ended files) deed at_102 cs (omega (arith, ltb-false)) c.in-102.is (whole deed_of c.alone-in-102.result) c.alone-in-102.ensures

pub returns-in_err-to-in-109 : goal.returns-in_err-to-in-109
returns-in_err-to-in-109 c =
    let cs = c.args.cs.now in
    rw c.from_residual-in_err-to-in-109.ensures (behind_none 109 (λ a ds. ended (move a) ds) or_here deed at_109 cs (omega (arith, ltb-false)) c.in-109.is c.in_err-to-in-109.ensures)

pub returns-in_ok-to-in-109 : goal.returns-in_ok-to-in-109
returns-in_ok-to-in-109 c =
    let cs = c.args.cs.now in
    ◌∙◌ {b = ended (move (address_of c.in_ok-to-in-109.to)) c.in_ok-to-in-109.rest.now} c.alone-in-109.ensures (behind_got 109 (λ a ds. ended (move a) ds) or_here deed at_109 cs (omega (arith, ltb-false)) c.in-109.is (address_of c.in_ok-to-in-109.to) c.in_ok-to-in-109.rest.now c.in_ok-to-in-109.ensures)

pub returns-in_err-to-in-116 : goal.returns-in_err-to-in-116
returns-in_err-to-in-116 c =
    let cs = c.args.cs.now in
    rw c.from_residual-in_err-to-in-116.ensures (behind_none 116 (λ a ds. ended (copy a) ds) or_here deed at_116 cs (omega (arith, ltb-false)) c.in-116.is c.in_err-to-in-116.ensures)

pub returns-in_ok-to-in-116 : goal.returns-in_ok-to-in-116
returns-in_ok-to-in-116 c =
    let cs = c.args.cs.now in
    ◌∙◌ {b = ended (copy (address_of c.in_ok-to-in-116.to)) c.in_ok-to-in-116.rest.now} c.alone-in-116.ensures (behind_got 116 (λ a ds. ended (copy a) ds) or_here deed at_116 cs (omega (arith, ltb-false)) c.in-116.is (address_of c.in_ok-to-in-116.to) c.in_ok-to-in-116.rest.now c.in_ok-to-in-116.ensures)

pub returns-in_err-file_name-in-119 : goal.returns-in_err-file_name-in-119
returns-in_err-file_name-in-119 c =
    let cs = c.args.cs.now in
    rw c.from_residual-in_err-file_name-in-119.ensures (behind_none 119 (λ n ds. got (save n) ds) a_file deed at_119 cs (omega (arith, ltb-false)) c.in-119.is c.in_err-file_name-in-119.ensures)

pub returns-in_ok-file_name-in-119 : goal.returns-in_ok-file_name-in-119
returns-in_ok-file_name-in-119 c =
    let cs = c.args.cs.now in
    behind_got 119 (λ n ds. got (save n) ds) a_file deed at_119 cs (omega (arith, ltb-false)) c.in-119.is _ [] c.in_ok-file_name-in-119.ensures

pub returns-in_err-file_name-in-101 : goal.returns-in_err-file_name-in-101
returns-in_err-file_name-in-101 c =
    let cs = c.args.cs.now in
    rw c.from_residual-in_err-file_name-in-101.ensures (behind_none 101 (λ n ds. got (edit n) ds) a_file deed at_101 cs (omega (arith, ltb-false)) c.in-101.is c.in_err-file_name-in-101.ensures)

pub returns-in_ok-file_name-in-101 : goal.returns-in_ok-file_name-in-101
returns-in_ok-file_name-in-101 c =
    let cs = c.args.cs.now in
    behind_got 101 (λ n ds. got (edit n) ds) a_file deed at_101 cs (omega (arith, ltb-false)) c.in-101.is _ [] c.in_ok-file_name-in-101.ensures

pub returns-in_err-file_name-in-114 : goal.returns-in_err-file_name-in-114
returns-in_err-file_name-in-114 c =
    let cs = c.args.cs.now in
    rw c.from_residual-in_err-file_name-in-114.ensures (behind_none 114 (λ n ds. got (load n) ds) a_file deed at_114 cs (omega (arith, ltb-false)) c.in-114.is c.in_err-file_name-in-114.ensures)

pub returns-in_ok-file_name-in-114 : goal.returns-in_ok-file_name-in-114
returns-in_ok-file_name-in-114 c =
    let cs = c.args.cs.now in
    behind_got 114 (λ n ds. got (load n) ds) a_file deed at_114 cs (omega (arith, ltb-false)) c.in-114.is _ [] c.in_ok-file_name-in-114.ensures

pub returns-in-115 : goal.returns-in-115
returns-in-115 c =
    let cs = c.args.cs.now in
    behind 115 a_swap deed at_115 cs (omega (arith, ltb-false)) c.in-115.is (whole deed_of c.substitution.result) c.substitution.ensures

pub returns-in-97-to-122 : goal.returns-in-97-to-122
returns-in-97-to-122 c =
    let cs = c.args.cs.now in
    sym (ap deed (front cs 107 (omega (arith, ltb-false)) c.in-107.is) ∙ a_mark (tail_of cs) (search rules) (search rules) (search rules))

pub returns-in_default-rest : goal.returns-in_default-rest
returns-in_default-rest c =
    let cs = c.args.cs.now in
    sym (ap deed (front cs 107 (omega (arith, ltb-false)) c.in-107.is) ∙ no_mark (tail_of cs) (λ one low high.
    elim c.in_default-rest.branch [
      | in_default-rest-via-then-rest-lt1 w ↦ omega (arith, ltb-true, ltb-false)
      | in_default-rest-via-else-rest-lt1+then-rest-lt2+then-rest-lt97 w ↦ omega (arith, ltb-true, ltb-false)
      | in_default-rest-via-else-rest-lt1+then-rest-lt2+else-rest-lt97+else-rest-lt123 w ↦ omega (arith, ltb-true, ltb-false)
      | in_default-rest-via-else-rest-lt1+else-rest-lt2 w ↦ omega (arith, ltb-true, ltb-false)
    ]))

pub returns-in_default-c : goal.returns-in_default-c
returns-in_default-c c =
    let cs = c.args.cs.now in
    let other : Other (get_or cs 0 0) = record {
      not_97 = search rules;
      not_105 = search rules;
      not_99 = search rules;
      not_100 = search rules;
      not_106 = search rules;
      not_109 = search rules;
      not_116 = search rules;
      not_107 = search rules;
      not_112 = search rules;
      not_110 = search rules;
      not_61 = search rules;
      not_117 = search rules;
      not_85 = search rules;
      not_119 = search rules;
      not_101 = search rules;
      not_114 = search rules;
      not_102 = search rules;
      not_115 = search rules;
    } in
    sym (ap deed (front cs (get_or cs 0 0) (omega (arith, ltb-false)) refl) ∙ at_other (get_or cs 0 0) (tail_of cs) other)
