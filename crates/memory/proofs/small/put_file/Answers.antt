use Rattle.memory.proofs.Filing.{file_put}
use Rattle.memory.proofs.small.put_file.Goals as goal

pub returns : goal.returns
returns c =
    file_put c.args.file.name.now c.args.file.lines c.args.file.size c.args.numbers.now c.copy_from_slice.new.self c.lay.new.section c.requires.0
    c.copy_from_slice.ensures.after c.lay.ensures
