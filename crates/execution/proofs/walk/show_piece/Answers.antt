use Rattle.std.proofs.Common.{◌++◌, drop, refl, ap, ◌∙◌}
use Rattle.records.specs.Values.{piece_of}
use Rattle.memory.specs.declared.phase.Phase.TheVariants.{RowShown}
use Rattle.protocol.specs.Acts.{ActTold}
use Rattle.commits.specs.Setters.{in_phase, with_walking}
use Rattle.protocol.specs.declared.Told.TheVariants.{Shows}
use Rattle.execution.specs.Walk.{row_of}
use Rattle.execution.proofs.Told.{says_by}
use Rattle.execution.proofs.Walked.{show-more, show_last}
use Rattle.execution.proofs.walk.show_piece.Goals as goal

pub returns-then-more_parts : goal.returns-then-more_parts
returns-then-more_parts c =
    says_by (show-more (piece_of c.args.piece) c.args.registers.now c.args.memory.now c.args.numbered c.if-more_parts.ensures)
    (c.fetch_more.ensures c.args.out.now)

pub returns : goal.returns
unfolding ActTold
returns c =
    let r = c.args.registers.now in
    let m = c.args.memory.now in
    let b = piece_of c.args.piece in
    let l = c.lay_row-long.ensures.long in
    says_by (show_last b r m c.args.numbered c.if-more_parts.ensures) (record {
      registers = ap (λ w. in_phase RowShown (with_walking w r)) c.line_past-registers.ensures;
      memory = refl;
      act = (ap Shows l, c.lay_row-long.ensures.row ∙ ap (λ n. row_of c.args.numbered b r m ++ drop n c.args.out.now) l);
    })
