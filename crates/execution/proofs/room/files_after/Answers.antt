use Rattle.std.proofs.Common.{arith}
use Rattle.commands.specs.Smalls.{entry_size}
use Rattle.memory.specs.Abstract.{files_of}
use Rattle.execution.proofs.Sums.{files-then, store_light, slot_less}
use Rattle.execution.proofs.room.files_after.Goals as goal

pub overflow_sub-result : goal.overflow_sub-result
overflow_sub-result c =
    omega (arith, slot_less entry_size c.in-Store.slot (files_of c.args.files c.args.memory.now), c.file_weight-weight.ensures.total, c.weight_at.ensures)

pub returns-in-Store : goal.returns-in-Store
returns-in-Store c =
    let l = store_light c.args.also c.in-Store.slot c.in-Store.lines c.in-Store.size c.in-Store.is c.requires.1.1.0 in
    record {
      total = files-then c.args.also c.in-Store.slot c.in-Store.lines c.in-Store.size c.file_weight-weight.result c.weight_at.result c.args.name
          (files_of c.args.files c.args.memory.now) c.in-Store.is c.file_weight-weight.ensures.total c.weight_at.ensures;
      few = omega (arith, l, c.file_weight-weight.ensures.few);
    }
