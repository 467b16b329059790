use Rattle.memory.specs.Registers.{loaded}
use Rattle.memory.proofs.registers.Registers.load.Goals as goal

pub returns : goal.returns
unfolding loaded
returns c = λ i. record {
  phase = c.from.ensures i;
  tapes = c.load.ensures i;
  kept = c.load-2.ensures i;
  job = c.load-3.ensures i;
  walking = c.load-4.ensures i;
  putting = c.load-5.ensures i;
  carrying = c.load-6.ensures i;
}
