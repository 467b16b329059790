use Rattle.std.proofs.Common.{◌≡◌, length, get_or, sym, ◌∙◌, arith, rules, ltb-false, ltb-true, true-eqb}
use Rattle.std.proofs.lemmas.Bool.{leb-true}
use Rattle.typed.proofs.Names.{the_g, other, one_by, too_long}
use Rattle.typed.proofs.deeds.which_match.Goals as goal
use Rattle.typed.proofs.deeds.which_match.Goals.{in_default-via-then-cs-lt2+in_default-1, in_default-via-else-cs-lt2, then-n-ge-FIRST_MATCH, else-n-ge-FIRST_MATCH, then-is_empty, else-is_empty}

pub returns-in-103 : goal.returns-in-103
returns-in-103 c = the_g c.args.cs.now (search rules) (search rules)

pub returns-in_err-n-in_default : goal.returns-in_err-n-in_default
returns-in_err-n-in_default c =
    let cs = c.args.cs.now in
    let not_none : length cs ≡ 0 → ⊥ = λ e. elim c.in_default.branch [ in_default-via-then-cs-lt2+in_default-1 w ↦ omega (arith, ltb-true, ltb-false) | in_default-via-else-cs-lt2 w ↦ omega (arith, ltb-true, ltb-false) ] in
    let not-g : length cs ≡ 1 → get_or cs 0 0 ≡ 103 → ⊥ = λ e f. elim c.in_default.branch [ in_default-via-then-cs-lt2+in_default-1 w ↦ search rules | in_default-via-else-cs-lt2 w ↦ omega (arith, ltb-true, ltb-false) ] in
    rw c.from_residual.ensures (too_long cs c.in_err-n-in_default.ensures ∙ sym (other cs not_none not-g))

pub returns-after-is_empty : goal.returns-after-is_empty
returns-after-is_empty c =
    let cs = c.args.cs.now in
    let not_none : length cs ≡ 0 → ⊥ = λ e. elim c.in_default.branch [ in_default-via-then-cs-lt2+in_default-1 w ↦ omega (arith, ltb-true, ltb-false) | in_default-via-else-cs-lt2 w ↦ omega (arith, ltb-true, ltb-false) ] in
    let not-g : length cs ≡ 1 → get_or cs 0 0 ≡ 103 → ⊥ = λ e f. elim c.in_default.branch [ in_default-via-then-cs-lt2+in_default-1 w ↦ search rules | in_default-via-else-cs-lt2 w ↦ omega (arith, ltb-true, ltb-false) ] in
    rw c.then_some.ensures
    (one_by cs _ _ c.in_ok-n-in_default.ensures c.if-is_empty.fits
    (λ e. elim c.if-is_empty.branch [
      | then-is_empty w ↦ elim c.if-n-ge-FIRST_MATCH.branch [
        | then-n-ge-FIRST_MATCH v ↦ (v.if-n-ge-FIRST_MATCH.true, true-eqb _ _ (sym w.if-is_empty.true ∙ v.value-is ∙ v.is_empty.ensures), leb-true _ 3 (sym w.fits-is ∙ e))
        | else-n-ge-FIRST_MATCH v ↦ search rules
      ]
      | else-is_empty w ↦ search rules
    ])
    (λ e. elim c.if-is_empty.branch [
      | then-is_empty w ↦ elim c.if-n-ge-FIRST_MATCH.branch [
        | then-n-ge-FIRST_MATCH v ↦ search rules
        | else-n-ge-FIRST_MATCH v ↦ search rules
      ]
      | else-is_empty w ↦ search rules
    ])
    ∙ sym (other cs not_none not-g))
