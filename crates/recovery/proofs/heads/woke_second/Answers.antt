use Rattle.std.proofs.Common.{Some, sym, ap, ◌∙◌}
use Rattle.journal.specs.Tapes.{which_of}
use Rattle.recovery.proofs.Waking.{woke_fresh, woke_counted}
use Rattle.recovery.proofs.heads.woke_second.Goals as goal

pub returns-in_default : goal.returns-in_default
returns-in_default c = λ m out. woke_fresh c.args.read.now c.args.registers.now c.head_generation-second.result c.head_generation-second.ensures m out c.in_default.ensures

pub returns-in-First : goal.returns-in-First
returns-in-First c =
    λ m out. woke_counted c.args.read.now c.args.registers.now c.head_generation-second.result c.head_generation-second.ensures m out 0 c.count.new.registers c.count.result
    (ap (λ t. which_of (Some t)) (sym c.in-First.is) ∙ c.in-Some.ensures) c.count.ensures.told c.count.ensures.state

pub returns-in-Second : goal.returns-in-Second
returns-in-Second c =
    λ m out. woke_counted c.args.read.now c.args.registers.now c.head_generation-second.result c.head_generation-second.ensures m out 1 c.count-in-Second.new.registers
    c.count-in-Second.result (ap (λ t. which_of (Some t)) (sym c.in-Second.is) ∙ c.in-Some.ensures) c.count-in-Second.ensures.told c.count-in-Second.ensures.state
