use Rattle.std.proofs.Common.{◌+◌, get_or, set, sym, ap, ◌∙◌}
use Rattle.std.proofs.lemmas.Bool.{lt-ltb, le-ltb}
use Rattle.commands.specs.Code.{when}
use Rattle.memory.specs.Sections.{with_pending, with_cells, with_high, cells_in}
use Rattle.memory.proofs.Pending.{pending_past}
use Rattle.memory.proofs.directory.push_pending.Goals as goal

pub returns-then-j : goal.returns-then-j
returns-then-j c = record {
  done = ap (λ b. when b (c.args.j + 1)) (sym (le-ltb c.args.j 65536 c.if-j.true));
  memory = sym (pending_past c.args.j c.args.position c.args.memory.now c.requires c.if-j.true);
}

pub returns : goal.returns
unfolding with_pending
returns c = record {
  done = ap (λ b. when b (c.args.j + 1)) (sym (lt-ltb c.args.j 65536 c.if-j.false));
  memory = ap (with_cells c.args.memory.now) (c.put_above.ensures
      ∙ ap (λ e. set (cells_in c.args.memory.now) c.args.j (with_high (get_or (cells_in c.args.memory.now) c.args.j 0) e)) c.entry.ensures);
}
