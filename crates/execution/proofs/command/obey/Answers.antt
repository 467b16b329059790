use Rattle.std.proofs.Common.{◌≡◌, [], ◌∷◌, sym, ap, ◌∙◌}
use Rattle.plain.specs.Command.{plain, reads}
use Rattle.typed.specs.declared.commands.Command.TheVariants.{Global}
use Rattle.typed.specs.Meaning.{simple_of, command_of}
use Rattle.commits.specs.Rows.{refuses}
use Rattle.execution.proofs.Told.{says_by}
use Rattle.execution.proofs.Obeyed.{obey_by, given_few}
use Rattle.execution.proofs.command.obey.Goals as goal

pub returns-in_default : goal.returns-in_default
returns-in_default c =
    says_by (ap (λ k. refuses k c.args.registers.now c.args.memory.now) c.number.ensures
    ∙ obey_by c.args.typed.now [] c.args.registers.now c.args.memory.now c.in_default.ensures)
    (c.refuse.ensures c.args.memory.now c.args.out.now)

pub command-requires : goal.command-requires
command-requires c =
    let e : plain (simple_of c.in-Plain.simple) ∷ [] ≡ reads c.args.typed.now = ap (λ x. command_of x ∷ []) (sym c.in-Plain.is) ∙ c.in-Some.ensures in
    (c.requires.0, (c.requires.1.0, (c.requires.1.1, given_few c.args.typed.now (simple_of c.in-Plain.simple) e)))

pub returns-in-Plain : goal.returns-in-Plain
returns-in-Plain c =
    let e : plain (simple_of c.in-Plain.simple) ∷ [] ≡ reads c.args.typed.now = ap (λ x. command_of x ∷ []) (sym c.in-Plain.is) ∙ c.in-Some.ensures in
    says_by (obey_by c.args.typed.now (plain (simple_of c.in-Plain.simple) ∷ []) c.args.registers.now c.args.memory.now e) c.command.ensures

pub returns-in-Global : goal.returns-in-Global
returns-in-Global c =
    let x = Global c.in-Global.range c.in-Global.matching c.in-Global.pattern c.in-Global.simple in
    let e : command_of x ∷ [] ≡ reads c.args.typed.now = ap (λ y. command_of y ∷ []) (sym c.in-Global.is) ∙ c.in-Some.ensures in
    says_by (ap (λ k. refuses k c.args.registers.now c.args.memory.now) c.number-in-Global.ensures
    ∙ obey_by c.args.typed.now (command_of x ∷ []) c.args.registers.now c.args.memory.now e)
    (c.refuse-in-Global.ensures c.args.memory.now c.args.out.now)
