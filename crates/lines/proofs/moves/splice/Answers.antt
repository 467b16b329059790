use Rattle.lines.proofs.Splices.{splice_is}
use Rattle.lines.proofs.moves.splice.Goals as goal
use Rattle.std.proofs.lemmas.List.{length-map}
use Rattle.lines.proofs.Packing.{length-slots}
use Rattle.std.proofs.Common.{rules}

pub returns : goal.returns
returns c = search (rules, splice_is, length-map)

pub fill_within-requires : goal.fill_within-requires
fill_within-requires c = search (rules, length-slots)
