use Rattle.std.proofs.Common.{◌≡◌, ◌+◌, ◌-◌, ◌++◌, length, take, drop, ap, ◌∙◌, arith}
use Rattle.memory.specs.Sections.{laid_low}
use Rattle.memory.proofs.Texting.{laid_front}
use Rattle.memory.proofs.text.lay_from.Goals as goal

pub returns : goal.returns
returns c =
    let at = c.args.at in
    let bs = c.args.bytes.now in
    let cs = c.args.cells.now in
    let k : at + length bs - at ≡ length bs = omega arith in
    ap (λ t. take at cs ++ (t ++ drop (at + length bs - at) (drop at cs))) c.lay_low.ensures
    ∙ ap (λ n. take at cs ++ (laid_low bs (take n (drop at cs)) ++ drop n (drop at cs))) k
    ∙ ap (λ t. take at cs ++ t) (laid_front bs (drop at cs))
