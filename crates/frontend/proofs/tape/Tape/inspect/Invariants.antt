use Rattle.frontend.proofs.tape.Tape.inspect.Given as goal

abbrev pub decreases-loop-left : goal.decreases-loop-left
decreases-loop-left l = l.left
