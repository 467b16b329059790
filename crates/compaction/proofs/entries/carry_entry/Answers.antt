use Rattle.std.proofs.Common.{sym, refl, ap, ◌∙◌, subst, arith}
use Rattle.std.proofs.lemmas.Bool.{lt-ltb, le-ltb}
use Rattle.protocol.specs.declared.Told.TheVariants.{Fasten}
use Rattle.protocol.specs.Acts.{ActTold}
use Rattle.compaction.specs.Carry.{carry_entry}
use Rattle.compaction.proofs.Placed.{Near, entry_near, read_of}
use Rattle.compaction.proofs.entries.carry_entry.Goals as goal

pub returns-then-i-registers : goal.returns-then-i-registers
unfolding carry_entry ActTold
returns-then-i-registers c = λ out. simp (le-ltb c.args.i c.args.registers.now.kept.entries c.if-i-registers.true) record { registers = refl; memory = refl; act = (ap Fasten c.passive.ensures, refl) }

pub read-requires : goal.read-requires
read-requires c =
    let n : Near c.entry-position.result = subst Near (sym c.entry-position.ensures) (entry_near _ _ _) in
    omega (arith, n.at, n.tape)

pub returns : goal.returns
unfolding carry_entry ActTold
returns c =
    λ out. simp (lt-ltb c.args.i c.args.registers.now.kept.entries c.if-i-registers.false) record {
      registers = refl;
      memory = refl;
      act = (c.read.ensures ∙ ap read_of c.entry-position.ensures, refl);
    }
