use Rattle.std.proofs.Common.{sym, ◌∙◌, arith}
use Rattle.journal.specs.Log.{head, line, copy}
use Rattle.records.proofs.Pages.{decoded_as, decoded_else, decoded_open}
use Rattle.records.proofs.reader.decode.Goals as goal

pub returns-in-1 : goal.returns-in-1
returns-in-1 c = (λ i. head (c.number.ensures i) (c.number-in-1.ensures i)) ∙ decoded_as c.in-Some.page.bytes.now c.args.page.now 1 c.in-Some.ensures (sym c.kind.ensures ∙ c.in-1.is)

pub returns-in-2 : goal.returns-in-2
returns-in-2 c = (λ i. line (c.piece.ensures.part i) (c.piece.ensures.piece i)) ∙ decoded_as c.in-Some.page.bytes.now c.args.page.now 2 c.in-Some.ensures (sym c.kind.ensures ∙ c.in-2.is)

pub returns-in-3 : goal.returns-in-3
returns-in-3 c =
    (λ i. copy (c.number-in-3.ensures i) (c.piece-in-3.ensures.part i) (c.piece-in-3.ensures.piece i))
    ∙ decoded_as c.in-Some.page.bytes.now c.args.page.now 3 c.in-Some.ensures (sym c.kind.ensures ∙ c.in-3.is)

pub returns-in-4 : goal.returns-in-4
returns-in-4 c = c.commit.ensures ∙ decoded_as c.in-Some.page.bytes.now c.args.page.now 4 c.in-Some.ensures (sym c.kind.ensures ∙ c.in-4.is)

pub returns-in_default-kind : goal.returns-in_default-kind
returns-in_default-kind c =
    decoded_else c.in-Some.page.bytes.now c.args.page.now c.in-Some.ensures (λ e. omega (arith, c.kind.ensures)) (λ e. omega (arith, c.kind.ensures)) (λ e. omega (arith, c.kind.ensures)) (λ e. omega (arith, c.kind.ensures))

pub returns-in_default : goal.returns-in_default
returns-in_default c = sym (decoded_open c.args.page.now c.in_default.ensures)
