use Rattle.std.proofs.Common.{ap, ◌∙◌}
use Rattle.records.specs.Values.{piece_of}
use Rattle.commits.specs.Rows.{refuses}
use Rattle.commits.specs.Setters.{with_walking}
use Rattle.execution.specs.Walk.{walk_on, line_past, joined_memory}
use Rattle.execution.proofs.Told.{says_by}
use Rattle.execution.proofs.Walked.{glue-long, glue-more, glue_last}
use Rattle.execution.proofs.walk.glue_piece.Goals as goal

pub returns-then-too_long : goal.returns-then-too_long
returns-then-too_long c =
    says_by (ap (λ k. refuses k c.args.registers.now c.args.memory.now) c.number.ensures
    ∙ glue-long (piece_of c.args.piece) c.args.registers.now c.args.memory.now c.if-too_long.ensures)
    (c.refuse.ensures c.args.memory.now c.args.out.now)

pub returns-then-more_parts : goal.returns-then-more_parts
returns-then-more_parts c =
    says_by (glue-more (piece_of c.args.piece) c.args.registers.now c.args.memory.now c.if-too_long.ensures c.if-more_parts.ensures)
    (c.fetch_more.ensures c.args.out.now)

pub returns : goal.returns
returns c =
    let r = c.args.registers.now in
    let b = piece_of c.args.piece in
    says_by ((λ i. walk_on (with_walking (c.line_past-registers.ensures i) r) (c.append-bytes.ensures.memory i))
    ∙ ap (λ n. walk_on (line_past b.long n r) (joined_memory b r c.args.memory.now)) c.append-bytes.ensures.count
    ∙ glue_last b r c.args.memory.now c.if-too_long.ensures c.if-more_parts.ensures)
    c.walk_on.ensures
