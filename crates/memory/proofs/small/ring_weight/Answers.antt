use Rattle.std.proofs.Common.{◌≡◌, ◌+◌, ◌-◌, map, take, drop, ap, ◌∙◌, arith}
use Rattle.commands.specs.Kept.{sum}
use Rattle.memory.specs.Numbers.{capped}
use Rattle.memory.proofs.Weighing.{ring_front}
use Rattle.memory.proofs.small.ring_weight.Goals as goal

pub returns : goal.returns
returns c =
    let e : 64 + c.args.ring - 64 ≡ c.args.ring = omega arith in
    record {
      total = c.sum.ensures.total ∙ ap (λ k. sum (map capped (take k (drop 64 c.args.memory.now)))) e
          ∙ ap sum (ring_front c.args.ring c.args.memory.now c.requires.1);
      few = c.sum.ensures.few;
    }
