use Rattle.std.proofs.Common.{sym, ap, ◌∙◌, arith, rules, true-eqb, false-eqb}
use Rattle.plain.specs.Command.{a_file}
use Rattle.typed.proofs.Fronts.{tail_of, front}
use Rattle.typed.proofs.Names.{without, within, a_name, no_name}
use Rattle.typed.proofs.deeds.file_name.Goals as goal
use Rattle.typed.proofs.deeds.file_name.Goals.{then-is_empty-via-then-is_empty, then-is_empty-via-else-is_empty+then-name-gt-LONGEST_NAME, then-is_empty-via-else-is_empty+else-name-gt-LONGEST_NAME+then-contains}

pub returns-then-is_empty : goal.returns-then-is_empty
returns-then-is_empty c =
    let cs = c.args.cs.now in
    no_name (tail_of cs) (λ some few.
    elim c.then-is_empty.branch [
      | then-is_empty-via-then-is_empty w ↦ absurd (omega (arith, true-eqb _ _ w.if-is_empty.ensures))
      | then-is_empty-via-else-is_empty+then-name-gt-LONGEST_NAME w ↦ absurd (omega arith)
      | then-is_empty-via-else-is_empty+else-name-gt-LONGEST_NAME+then-contains w ↦ let t = w.if-contains.ensures.cases in within 10 (tail_of cs) t.0 t.1 (true-eqb _ _ (sym (t.2 0)))
    ])
    ∙ sym (ap a_file (front cs 32 (search rules) (search rules)))

pub returns : goal.returns
returns c =
    let cs = c.args.cs.now in
    let h = c.if-contains.ensures.cases in
    a_name (tail_of cs) (omega (arith, false-eqb _ _ c.if-is_empty.ensures)) c.if-name-gt-LONGEST_NAME.false (without 10 (tail_of cs) (λ k l e. absurd (false-eqb _ _ (sym (h k 0 (omega arith) l)) e)))
    ∙ sym (ap a_file (front cs 32 (search rules) (search rules)))
