use Rattle.memory.proofs.Storing.{all_stored}
use Rattle.memory.proofs.registers.Registers.store.Goals as goal

pub returns : goal.returns
returns c =
    all_stored c.args.self c.args.memory.now c.from.result c.store.new.section c.store-2.new.section c.store-3.new.section
    c.store-4.new.section c.store-5.new.section c.store-6.new.section c.requires c.from.ensures c.store.ensures c.store-2.ensures
    c.store-3.ensures c.store-4.ensures c.store-5.ensures c.store-6.ensures
