use Rattle.commands.specs.declared.plan.Walk.TheVariants.{Skip, Show, ShowNumbered, Measure, Join}
use Rattle.records.specs.Values.{piece_of}
use Rattle.execution.proofs.Told.{says_by}
use Rattle.execution.proofs.Walked.{fetched_as}
use Rattle.execution.proofs.walk.fetched.Goals as goal

pub returns-in-Skip : goal.returns-in-Skip
returns-in-Skip c =
    says_by (fetched_as Skip c.args.read.now (piece_of c.piece_read-piece.result) c.args.registers.now c.args.memory.now c.in-Skip.is c.piece_read-piece.ensures.piece)
    (c.refuse.ensures c.args.memory.now c.args.out.now)

pub returns-in-Show : goal.returns-in-Show
returns-in-Show c =
    says_by (fetched_as Show c.args.read.now (piece_of c.piece_read-piece.result) c.args.registers.now c.args.memory.now c.in-Show.is c.piece_read-piece.ensures.piece)
    c.show_piece.ensures

pub returns-in-ShowNumbered : goal.returns-in-ShowNumbered
returns-in-ShowNumbered c =
    says_by (fetched_as ShowNumbered c.args.read.now (piece_of c.piece_read-piece.result) c.args.registers.now c.args.memory.now c.in-ShowNumbered.is c.piece_read-piece.ensures.piece)
    c.show_piece-in-ShowNumbered.ensures

pub returns-in-Measure : goal.returns-in-Measure
returns-in-Measure c =
    says_by (fetched_as Measure c.args.read.now (piece_of c.piece_read-piece.result) c.args.registers.now c.args.memory.now c.in-Measure.is c.piece_read-piece.ensures.piece)
    c.measure_piece.ensures

pub returns-in-Join : goal.returns-in-Join
returns-in-Join c =
    says_by (fetched_as Join c.args.read.now (piece_of c.piece_read-piece.result) c.args.registers.now c.args.memory.now c.in-Join.is c.piece_read-piece.ensures.piece)
    c.glue_piece.ensures
