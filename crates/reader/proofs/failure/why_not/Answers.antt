use Rattle.std.proofs.Common.{sym, ap, ◌∙◌, arith}
use Rattle.std.proofs.lemmas.List.{take_all}
use Rattle.reader.specs.Front.{begins}
use Rattle.reader.proofs.failure.why_not.Goals as goal

pub returns-then-front-typed : goal.returns-then-front-typed
returns-then-front-typed c =
    ap begins (sym (take_all c.in_ok-front.front c.args.typed.now (omega arith))) ∙ c.in_ok-front.ensures.so_far
