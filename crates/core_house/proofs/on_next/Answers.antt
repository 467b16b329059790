use Rattle.memory.specs.declared.phase.Phase.TheVariants.{FreshHead, FreshFast, CompactFast, CountShown}
use Rattle.core_house.proofs.Dispatch.{next_at, next_lost}
use Rattle.core_house.proofs.on_next.Goals as goal

pub returns-in-FreshHead : goal.returns-in-FreshHead
returns-in-FreshHead c = next_at c.args.registers.now c.args.memory.now FreshHead c.in-FreshHead.is (c.fresh_next.ensures c.args.memory.now c.args.out.now)

pub returns-in-FreshFast : goal.returns-in-FreshFast
returns-in-FreshFast c = next_at c.args.registers.now c.args.memory.now FreshFast c.in-FreshFast.is (c.end_done.ensures c.args.memory.now c.args.out.now)

pub returns-in-CompactFast : goal.returns-in-CompactFast
returns-in-CompactFast c = next_at c.args.registers.now c.args.memory.now CompactFast c.in-CompactFast.is (c.begin_old.ensures c.args.memory.now c.args.out.now)

pub returns-in-CountShown : goal.returns-in-CountShown
returns-in-CountShown c = next_at c.args.registers.now c.args.memory.now CountShown c.in-CountShown.is (c.end_done-in-CountShown.ensures c.args.memory.now c.args.out.now)

pub returns-in_default : goal.returns-in_default
returns-in_default c =
    next_lost c.args.registers.now c.args.memory.now c.args.registers.now.phase c.in_default.not-FreshBegun c.in_default.not-FreshHead c.in_default.not-FreshFast c.in_default.not-CompactBegun c.in_default.not-SettingUp c.in_default.not-CarryPut c.in_default.not-CompactFast c.in_default.not-Switched c.in_default.not-RowShown c.in_default.not-LinePut c.in_default.not-CommitPut c.in_default.not-CommitFast c.in_default.not-CountShown c.in_default.not-FileShown
    (c.refuse.ensures c.args.memory.now c.args.out.now)
