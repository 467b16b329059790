use Rattle.std.proofs.Common.{sym, ap, ◌∙◌, arith}
use Rattle.records.specs.Values.{rec_of}
use Rattle.records.proofs.Digits.{bytes_all}
use Rattle.records.proofs.Checks.{read_checked, commit_kept, commit_broken, others_kept}
use Rattle.records.proofs.reader.decode_checked.Goals as goal

pub returns-then-beside : goal.returns-then-beside
returns-then-beside c =
    commit_kept (rec_of c.decode-record.result) _ _ (ap rec_of c.in-Commit.is) (sym c.beside.ensures ∙ c.if-beside.true)
    ∙ read_checked c.args.page.now (bytes_all c.args.page.now (λ i. omega (arith, c.type_inv.page i))) _ c.decode-record.ensures

pub returns-else-beside : goal.returns-else-beside
returns-else-beside c =
    commit_broken (rec_of c.decode-record.result) _ _ (ap rec_of c.in-Commit.is) (sym c.beside.ensures ∙ c.if-beside.false)
    ∙ read_checked c.args.page.now (bytes_all c.args.page.now (λ i. omega (arith, c.type_inv.page i))) _ c.decode-record.ensures

pub returns-in_default : goal.returns-in_default
returns-in_default c =
    others_kept c.decode-record.result c.in_default.not-Commit
    ∙ read_checked c.args.page.now (bytes_all c.args.page.now (λ i. omega (arith, c.type_inv.page i))) _ c.decode-record.ensures
